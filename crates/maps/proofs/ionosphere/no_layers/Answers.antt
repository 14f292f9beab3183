-- `no_layers` is `no_layers`: every field is written out, and the literal 0.0 is the decimal.
use Rattle.std.proofs.Common.{refl}
use lib.Ieee.{round, of_bits}
use Rattle.base.specs.Single.{decimal}
use Rattle.maps.specs.Ionosphere.{no_layers}
use Rattle.maps.proofs.ionosphere.no_layers.Goals as goal

pub returns : goal.returns
unfolding no_layers decimal round of_bits
returns c = refl
