-- `e_layer` is its fields, with the literals as decimals.
use lib.Ieee.{round, of_bits}
use Rattle.base.specs.Single.{decimal}
use Rattle.maps.specs.Layers.{e_layer}
use Rattle.maps.proofs.ionosphere.layers.e_layer.Goals as goal

pub returns : goal.returns
unfolding e_layer decimal round of_bits
returns c = rw c.gamma6_of.ensures
