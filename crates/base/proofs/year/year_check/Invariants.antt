-- `year_check` is `year_check`, by the loop's invariant that what is left of the check is the whole.
use Rattle.base.proofs.layout.Directories.{Passed}
use Rattle.base.proofs.year.year_check.Given as goal

abbrev pub invariant-loop-k : goal.invariant-loop-k
invariant-loop-k l = Passed l.year l.k
