-- `say_calls` ends: what is left of the calls falls at each turn.
use Rattle.std.proofs.Common.{◌≤◌, length}
use Rattle.journals.proofs.journal.say_calls.Given as goal

abbrev pub invariant-loop-rest : goal.invariant-loop-rest
invariant-loop-rest l = (length l.rest ≤ length l.calls) × (length l.calls ≤ 1024)

abbrev pub decreases-loop-rest : goal.decreases-loop-rest
decreases-loop-rest l = length l.rest
