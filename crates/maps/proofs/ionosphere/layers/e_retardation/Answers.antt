-- `e_retardation` composes its callees as the definition does.
use lib.Ieee.{round, of_bits}
use Rattle.base.specs.Single.{decimal}
use Rattle.maps.specs.Layers.{e_retardation}
use Rattle.maps.proofs.ionosphere.layers.e_retardation.Goals as goal

pub returns : goal.returns
unfolding e_retardation decimal round of_bits
returns c = rw (c.retard.ensures, c.at_least_xf1-fcec.ensures)
