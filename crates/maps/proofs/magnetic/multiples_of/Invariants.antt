-- `multiples_of` is `multiples_of`. The loop's invariant: `v` is what the loop of the definition has
-- at m.
use Rattle.std.proofs.Common.{◌≡◌, ◌-◌, ◌≤◌}
use Rattle.maps.specs.Loop.{loop}
use Rattle.maps.specs.Magnetic.{multiple_of}
use Rattle.maps.proofs.magnetic.multiples_of.Given as goal

abbrev pub invariant-loop-m : goal.invariant-loop-m
invariant-loop-m l = (2 ≤ l.m) × (l.m ≤ 7) × (l.v ≡ loop 2 l.m multiple_of l.initial.v)

abbrev pub decreases-loop-m : goal.decreases-loop-m
decreases-loop-m l = 7 - l.m
