-- `retard` is its expression, with the literals as decimals.
use lib.Ieee.{round, of_bits}
use Rattle.base.specs.Single.{decimal}
use Rattle.maps.specs.Layers.{retard_of}
use Rattle.maps.proofs.ionosphere.layers.retard.Goals as goal

pub returns : goal.returns
unfolding retard_of decimal round of_bits
returns c = rw c.ln32.ensures
