-- An answer of hours is `hours_answer`, by whether there are hours or a refusal.
use Rattle.std.proofs.Common.{rules}
use lib.Ieee.{of_bits, round}
use Rattle.base.specs.Single.{decimal}
use Rattle.jutetrowel.specs.Clocks.{hours_answer}
use Rattle.jutetrowel.proofs.clocks.HoursAnswerFromResultHourTimesRefusal.from.Goals as goal

pub returns-in-Ok : goal.returns-in-Ok
unfolding hours_answer
returns-in-Ok c = search rules

pub returns-in-Err : goal.returns-in-Err
unfolding hours_answer decimal round of_bits
returns-in-Err c = search rules
