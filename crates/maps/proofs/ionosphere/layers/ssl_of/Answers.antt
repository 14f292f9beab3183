-- `ssl_of` is its expression in degrees, then radians.
use lib.Ieee.{round, of_bits}
use Rattle.base.specs.Single.{decimal}
use Rattle.maps.specs.Layers.{ssl_of}
use Rattle.maps.proofs.ionosphere.layers.ssl_of.Goals as goal

pub returns : goal.returns
unfolding ssl_of decimal round of_bits
returns c = c.to_radians.ensures
