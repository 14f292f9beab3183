-- `nearest_root` is the nearest root, a binary digit a turn: the invariant `Turn` has the digits
-- read so far as a square and a rest.
use Rattle.base.proofs.roots.Roots.{Turn}
use Rattle.base.proofs.number.nearest_root.Given as goal

abbrev pub invariant-loop-i : goal.invariant-loop-i
invariant-loop-i l = Turn l.a l.digits l.q l.rest l.i
