-- `half_over` is its expression, with the literals as decimals.
use Rattle.std.proofs.Common.{refl}
use lib.Ieee.{round, of_bits}
use Rattle.base.specs.Single.{decimal}
use Rattle.maps.specs.Layers.{half_over}
use Rattle.maps.proofs.ionosphere.layers.half_over.Goals as goal

pub returns : goal.returns
unfolding half_over decimal round of_bits
returns c = refl
