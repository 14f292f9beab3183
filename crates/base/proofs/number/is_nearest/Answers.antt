-- `is_nearest` is true only of the nearest root: the three differences do not wrap where they are
-- small, and `next_nearest` has what they leave.
use Rattle.std.proofs.Common.{◌≡◌, ◌+◌, ◌*◌, ◌/◌, ◌%◌, ◌^◌, arith, ltb-true}
use mathlib.Core.Bool.{false≢true}
use Rattle.base.proofs.roots.Roots.{sizes, next_nearest}
use Rattle.base.proofs.number.is_nearest.Goals as goal

pub overflow_mul-square : goal.overflow_mul-square
overflow_mul-square c = omega (arith, (sizes c.args.w c.requires).0)

pub overflow_mul-square-2 : goal.overflow_mul-square-2
overflow_mul-square-2 c = omega (arith, (sizes c.args.w c.requires).0)

pub overflow_mul-cross-2 : goal.overflow_mul-cross-2
overflow_mul-cross-2 c = omega (arith, (sizes c.args.w c.requires).1)

pub overflow_mul-low : goal.overflow_mul-low
overflow_mul-low c = omega (arith, (sizes c.args.w c.requires).2)

pub overflow_add-low-2 : goal.overflow_add-low-2
overflow_add-low-2 c = omega (arith, (sizes c.args.w c.requires).2)

pub returns : goal.returns
returns c = λ t.
    let o = c in
    let s = o in
    let a = s.args.a in
    let w = s.args.w in
    let high = o.wrapping_sub_u64-high.result in
    let over = o.wrapping_sub_u64-over.result in
    let rest = c.wrapping_sub_u64-rest.result in
    let z = sizes w s.requires in
    let l = ltb-true rest (w * 2 + 2) t in
    let p : high + w / 2 ^ 27 * (w / 2 ^ 27) * 4 ≡ a = omega arith in
    let q : over + w / 2 ^ 27 * (w % 2 ^ 27 * 2 + 1) ≡ high * 2 ^ 25 = omega arith in
    let r : rest + (w % 2 ^ 27 * (w % 2 ^ 27 + 1) + 1) ≡ over * 2 ^ 27 = omega arith in
    next_nearest a w high over rest p q r l

pub returns-then-high-ge274877906944 : goal.returns-then-high-ge274877906944
returns-then-high-ge274877906944 c = λ t. absurd (false≢true t)

pub returns-then-over-ge68719476736 : goal.returns-then-over-ge68719476736
returns-then-over-ge68719476736 c = λ t. absurd (false≢true t)
