-- A local time's answer is `local_answer`, by whether there is a time or a refusal.
use Rattle.std.proofs.Common.{rules}
use lib.Ieee.{of_bits, round}
use Rattle.base.specs.Single.{decimal}
use Rattle.jutetrowel.specs.Clocks.{local_answer}
use Rattle.jutetrowel.proofs.clocks.LocalAnswerFromResultF32Refusal.from.Goals as goal

pub returns-in-Ok : goal.returns-in-Ok
unfolding local_answer
returns-in-Ok c = search rules

pub returns-in-Err : goal.returns-in-Err
unfolding local_answer decimal round of_bits
returns-in-Err c = search rules
