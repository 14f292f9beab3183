-- A clock's answer is `clock_answer`, by whether the clock moved or was refused.
use Rattle.std.proofs.Common.{rules}
use lib.Ieee.{of_bits, round}
use Rattle.base.specs.Single.{decimal}
use Rattle.jutetrowel.specs.Clocks.{clock_answer}
use Rattle.jutetrowel.proofs.clocks.ClockAnswerFromResultShiftedRefusal.from.Goals as goal

pub returns-in-Ok : goal.returns-in-Ok
unfolding clock_answer
returns-in-Ok c = search rules

pub returns-in-Err : goal.returns-in-Err
unfolding clock_answer decimal round of_bits
returns-in-Err c = search rules
