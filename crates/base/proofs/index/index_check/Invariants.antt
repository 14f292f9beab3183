-- `index_check` is `index_check`, by the loop's invariant that the rest of the check is the whole of
-- it: a map is bad, or the check goes on.
use Rattle.base.proofs.ladder.Ladders.{Checked}
use Rattle.base.proofs.index.index_check.Given as goal

abbrev pub invariant-loop-k : goal.invariant-loop-k
invariant-loop-k l = Checked l.month l.k
