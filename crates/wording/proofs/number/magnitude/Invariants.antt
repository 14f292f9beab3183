-- `magnitude` is the pattern of n / d rounded, by the invariants of the two loops (`Widened`,
-- `Divided`): n / d stays the same number of units, whichever of the two is doubled.
use Rattle.std.proofs.Common.{◌-◌}
use Rattle.wording.proofs.decimals.Dividing.{Widened, Divided}
use Rattle.wording.proofs.number.magnitude.Given as goal

abbrev pub invariant-loop-by : goal.invariant-loop-by
invariant-loop-by l = Widened l.n l.d l.by l.k

abbrev pub decreases-loop-by : goal.decreases-loop-by
decreases-loop-by l = 186 - l.k

abbrev pub invariant-loop-q : goal.invariant-loop-q
invariant-loop-q l = Divided l.n l.d l.by l.k l.q l.rest

abbrev pub decreases-loop-q : goal.decreases-loop-q
decreases-loop-q l = l.k
