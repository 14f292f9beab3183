-- `reduced` is `reduced_of`: the literals are the decimals.
use Rattle.std.proofs.Common.{refl}
use lib.Ieee.{round, of_bits}
use Rattle.base.specs.Double.{fraction}
use Rattle.base.specs.Elementary.{reduced_of, half_pi}
use Rattle.base.proofs.elementary.reduced.Goals as goal

pub returns : goal.returns
unfolding reduced_of half_pi fraction round of_bits
returns c = refl
