-- `month_file_check` is `month_file_check`, by the loop's invariant that what is left of the walk is
-- the whole walk: a record is passed at once, or the walk ends in it.
use Rattle.base.proofs.layout.Walks.{Walked}
use Rattle.base.proofs.month_file.month_file_check.Given as goal

abbrev pub invariant-loop-k : goal.invariant-loop-k
invariant-loop-k l = Walked l.s l.at l.k
