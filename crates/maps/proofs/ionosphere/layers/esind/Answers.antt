-- `esind` has the maps 3, 2 and 1 in this order.
use Rattle.std.proofs.Common.{refl}
use lib.Ieee.{round, of_bits}
use Rattle.base.specs.Single.{decimal}
use Rattle.maps.specs.Layers.{esind_of}
use Rattle.maps.proofs.ionosphere.layers.esind.Goals as goal

pub returns : goal.returns
unfolding esind_of decimal round of_bits
returns c = refl
