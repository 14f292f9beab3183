-- `expansion` is `expansion_of`. The loop's invariant: the two tables and the sums are what the loop
-- of the definition has at n.
use Rattle.std.proofs.Common.{◌≡◌, ◌-◌, ◌≤◌}
use Rattle.maps.specs.Loop.{loop}
use Rattle.maps.specs.Magnetic.{state, degree_of}
use Rattle.maps.proofs.magnetic.expansion.Given as goal

abbrev pub invariant-loop-n : goal.invariant-loop-n
invariant-loop-n l = (1 ≤ l.n) × (l.n ≤ 7) × (state l.p l.dp l.b ≡ loop 1 l.n (degree_of l.x) (state l.initial.p l.initial.dp l.initial.b))

abbrev pub decreases-loop-n : goal.decreases-loop-n
decreases-loop-n l = 7 - l.n
