-- `orders` is `orders_of`. The loop's invariant: the two tables and the sums are what the loop of
-- the definition has at m. A turn is `order_of`: its calls are rewritten by what they ensure, the
-- row with them.
use Rattle.std.proofs.Common.{◌≡◌, ℕ, ◌+◌, ap, ◌∙◌, arith, rules}
use lib.Ieee.{round, of_bits}
use Rattle.base.specs.Single.{decimal}
use Rattle.maps.specs.declared.magnetic.Sums.{Sums}
use Rattle.maps.specs.Loop.{loop}
use Rattle.maps.specs.Magnetic.{o, State, state, table_row, order_of, orders_of}
use Rattle.maps.proofs.lists.Loops.{loop_start, loop_turn}
use Rattle.maps.proofs.magnetic.orders.Goals as goal

pub loop-m-init : goal.loop-m-init
loop-m-init c = (search rules, loop_start 0 _ _)

pub loop-m-preserved : goal.loop-m-preserved
unfolding table_row order_of
loop-m-preserved c =
    let w = c in
    let q = w in
    let k = q in
    let a = k.args in
    (search rules, loop_turn 0 (order_of a.x a.n) _ k.loop-m.m (omega arith) k.loop-m.invariant.1 (rw (w.whole-fm.ensures, q.element_of-e.ensures, k.row_of-t.ensures)))

-- the test at the loop's head is never false: the loop ends at the test after its body
pub returns : goal.returns
returns c = absurd (omega arith)

pub returns-2 : goal.returns-2
unfolding table_row order_of orders_of o decimal round of_bits
returns-2 c =
    let w = c in
    let q = w in
    let k = q in
    let a = k.args in
    let e : k.loop-m.m ≡ a.n = omega arith in
    let start : State Sums = state a.p.now a.dp.now (record { sumr = o; sumt = o; sump = o }) in
    loop_turn 0 (order_of a.x a.n) start k.loop-m.m (omega arith) k.loop-m.invariant.1 (rw (w.whole-fm.ensures, q.element_of-e.ensures, k.row_of-t.ensures))
    ∙ ap (λ (i : ℕ). loop 0 (i + 1) (order_of a.x a.n) start) e
