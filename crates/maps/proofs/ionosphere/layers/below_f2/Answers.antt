-- `below_f2` is `min` in one field.
use lib.Ieee.{round, of_bits}
use Rattle.base.specs.Single.{decimal}
use Rattle.maps.specs.Layers.{below_f2}
use Rattle.maps.proofs.ionosphere.layers.below_f2.Goals as goal

pub returns : goal.returns
unfolding below_f2 decimal round of_bits
returns c = rw c.min.ensures
