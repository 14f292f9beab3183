-- `first_other` is `first_other`: where all words are finite it is behind them, and else it is looked
-- for, by the loop's invariant that from the word i on it is that of the whole run.
use Rattle.base.proofs.layout.FirstWords.{Sought}
use Rattle.base.proofs.finite.first_other.Given as goal

abbrev pub invariant-loop-i : goal.invariant-loop-i
invariant-loop-i l = Sought l.s l.at l.n l.i
