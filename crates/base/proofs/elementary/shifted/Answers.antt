-- `shifted` is one sum with 3 × 2 ^ 51, which the source's literal is by computation.
use Rattle.std.proofs.Common.{refl}
use lib.Ieee.{round, of_bits}
use Rattle.base.specs.Double.{fraction}
use Rattle.base.proofs.elementary.shifted.Goals as goal

pub returns : goal.returns
unfolding fraction round of_bits
returns c = refl
