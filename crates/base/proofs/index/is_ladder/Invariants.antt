-- `is_ladder` is `climbs`, by the loop's invariant that the rest of the ladder is the whole of it:
-- a word stops it, breaks it or goes on.
use Rattle.base.proofs.ladder.Ladders.{Climbed}
use Rattle.base.proofs.index.is_ladder.Given as goal

abbrev pub invariant-loop-j : goal.invariant-loop-j
invariant-loop-j l = Climbed l.month l.k l.p l.j
