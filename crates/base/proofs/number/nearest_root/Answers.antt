-- `nearest_root` is the nearest root, a binary digit a turn: the invariant `Turn` has the digits
-- read so far as a square and a rest.
use Rattle.std.proofs.Common.{◌≡◌, ◌+◌, ◌*◌, ◌^◌, ◌<◌, arith}
use Rattle.base.proofs.roots.Roots.{first, turn_one, turn_zero, moved, q_lt, last_lt, all, down, up}
use Rattle.base.proofs.number.nearest_root.Goals.{In-loop-i, then-step-next, else-step-next}
use Rattle.base.proofs.number.nearest_root.Goals.{After-loop-i}
use Rattle.base.proofs.number.nearest_root.Goals as goal

root_lt : (c : In-loop-i) → c.loop-i.q < 2 ^ 52
root_lt c = let l = c.loop-i in q_lt c.args.a l.digits l.q l.rest l.i l.invariant c.loop-i-test.true

pub loop-i-init : goal.loop-i-init
loop-i-init c = first c.args.a c.requires

pub overflow_mul-next : goal.overflow_mul-next
overflow_mul-next c = omega (arith, root_lt (goal.at.overflow_mul-next c).In-loop-i)

pub overflow_add-next : goal.overflow_add-next
overflow_add-next c = omega (arith, root_lt (goal.at.overflow_add-next c).In-loop-i)

pub overflow_mul-step : goal.overflow_mul-step
overflow_mul-step c = omega (arith, root_lt (goal.at.overflow_mul-step c).In-loop-i)

pub overflow_add-step : goal.overflow_add-step
overflow_add-step c = omega (arith, root_lt (goal.at.overflow_add-step c).In-loop-i)

pub overflow_mul-digits : goal.overflow_mul-digits
overflow_mul-digits c = omega (arith, root_lt (goal.at.overflow_mul-digits c).In-loop-i)

pub overflow_mul-q : goal.overflow_mul-q
overflow_mul-q c = omega (arith, root_lt (goal.at.overflow_mul-q c).In-loop-i)

pub overflow_add-q : goal.overflow_add-q
overflow_add-q c = omega (arith, root_lt (goal.at.overflow_add-q c).In-loop-i)

pub overflow_mul-q-else-step-next : goal.overflow_mul-q-else-step-next
overflow_mul-q-else-step-next c = omega (arith, root_lt (goal.at.overflow_mul-q-else-step-next c).In-loop-i)

pub loop-i-preserved : goal.loop-i-preserved
loop-i-preserved c =
    let l = c.loop-i in
    let a = c.args.a in
    let h = c.loop-i-test.true in
    elim c.if-step-next.branch [
      | then-step-next w ↦ moved _ _ _ _ _ _ _ w.q-is w.rest-is (turn_one a l.digits l.q l.rest l.i l.invariant h w.if-step-next.true)
      | else-step-next w ↦ moved _ _ _ _ _ _ _ w.q-is w.rest-is (turn_zero a l.digits l.q l.rest l.i l.invariant h w.if-step-next.false)
    ]

pub overflow_add-result : goal.overflow_add-result
overflow_add-result c = let l = c.loop-i in omega (arith, last_lt c.args.a l.digits l.q l.rest l.i l.invariant c.loop-i-test.false)

read : (c : After-loop-i) → c.loop-i.q * c.loop-i.q + c.loop-i.rest ≡ c.args.a * 2 ^ 52
read c = let l = c.loop-i in all c.args.a l.digits l.q l.rest l.i l.invariant c.loop-i-test.false

pub returns-then-rest-q : goal.returns-then-rest-q
returns-then-rest-q c = let l = c.loop-i in down c.args.a l.q l.rest (read (goal.at.returns-then-rest-q c).After-loop-i) c.if-rest-q.true

pub returns-else-rest-q : goal.returns-else-rest-q
returns-else-rest-q c = let l = c.loop-i in up c.args.a l.q l.rest (read (goal.at.returns-else-rest-q c).After-loop-i) c.if-rest-q.false l.invariant.over
