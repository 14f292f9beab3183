-- `abiy_of` is its expression, with the literals as decimals.
use lib.Ieee.{round, neg, of_bits}
use Rattle.base.specs.Single.{decimal, minus_decimal}
use Rattle.maps.specs.Layers.{abiy_of}
use Rattle.maps.proofs.ionosphere.layers.abiy_of.Goals as goal

pub returns : goal.returns
unfolding abiy_of decimal minus_decimal round neg of_bits
returns c = rw c.exp32.ensures
