-- `orders` is `orders_of`. The loop's invariant: the two tables and the sums are what the loop of
-- the definition has at m. A turn is `order_of`: its calls are rewritten by what they ensure, the
-- row with them.
use Rattle.std.proofs.Common.{◌≡◌, ◌-◌, ◌≤◌}
use Rattle.maps.specs.Loop.{loop}
use Rattle.maps.specs.Magnetic.{state, order_of}
use Rattle.maps.proofs.magnetic.orders.Given as goal

abbrev pub invariant-loop-m : goal.invariant-loop-m
invariant-loop-m l = (l.m ≤ l.n) × (state l.p l.dp l.v ≡ loop 0 l.m (order_of l.x l.n) (state l.initial.p l.initial.dp l.initial.v))

abbrev pub decreases-loop-m : goal.decreases-loop-m
decreases-loop-m l = l.n - l.m
