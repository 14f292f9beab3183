-- `powers` is `powers_of`. The loop's invariant: `aor` is what the loop of the definition has at m.
use Rattle.std.proofs.Common.{◌≡◌, ◌-◌, ◌≤◌}
use Rattle.maps.specs.Loop.{loop}
use Rattle.maps.specs.Magnetic.{aor_step}
use Rattle.maps.proofs.magnetic.powers.Given as goal

abbrev pub invariant-loop-m : goal.invariant-loop-m
invariant-loop-m l = (2 ≤ l.m) × (l.m ≤ 7) × (l.aor ≡ loop 2 l.m (aor_step l.ar) l.initial.aor)

abbrev pub decreases-loop-m : goal.decreases-loop-m
decreases-loop-m l = 7 - l.m
