-- `turned` takes `PI2` off with the sign of x.
use Rattle.std.proofs.Common.{ap, Float}
use lib.Ieee.{round, of_bits}
use Rattle.base.specs.Single.{◌⊖◌, decimal}
use Rattle.base.specs.Constants.{PI2}
use Rattle.maps.specs.Geometry.{turned_of}
use Rattle.maps.proofs.geometry.turned.Goals as goal

pub returns : goal.returns
unfolding turned_of PI2 decimal round of_bits
returns c = ap (λ (s : Float). c.args.x ⊖ s) c.sign.ensures
