-- `at_least_xf1` is `max` of the ratio and the literal.
use lib.Ieee.{round, of_bits}
use Rattle.base.specs.Single.{decimal}
use Rattle.maps.specs.Layers.{at_least_xf1}
use Rattle.maps.proofs.ionosphere.layers.at_least_xf1.Goals as goal

pub returns : goal.returns
unfolding at_least_xf1 decimal round of_bits
returns c = c.max.ensures
