-- `sign_from` tests b by its bits: those of a number that is not below zero are at most those of -0
-- (`not_below_bits`), and only with more is there a carry into the 33rd bit.
use Rattle.std.proofs.Common.{◌≡◌, ℕ, ◌+◌, ◌-◌, ◌*◌, ◌/◌, ◌^◌, ◌<◌, Bool, true, false, cond, leb, sym, refl, ap, ◌∙◌, arith, leb-false, leb-true, Float}
use lib.Ieee.{nan, binary32, lt, eq, le, round, to_bits}
use Rattle.base.specs.Single.{decimal}
use Rattle.base.proofs.rounding.Patterns.{is_nan_law, no_nan, held, wide, not_below_bits}
use Rattle.maps.proofs.geometry.sign_from.Goals.{Else-b}
use Rattle.maps.proofs.geometry.sign_from.Goals as goal

carried : (n : ℕ) → n < 2 ^ 32 → (n + (2 ^ 31 - 1)) / 2 ^ 32 * 2 ^ 31 ≡ cond (leb n (2 ^ 31)) 0 (2 ^ 31)
carried n h = go (leb n (2 ^ 31)) refl
  where
    go : (t : Bool) → leb n (2 ^ 31) ≡ t → (n + (2 ^ 31 - 1)) / 2 ^ 32 * 2 ^ 31 ≡ cond t 0 (2 ^ 31)
    go true e = omega (arith, leb-true n (2 ^ 31) e)
    go false e = omega (arith, leb-false n (2 ^ 31) e)

of_nan : (b : Float) → b ≡ nan → 2 ^ 31 ≡ cond (le (decimal 0 1) b) 0 (2 ^ 31)
unfolding lt eq le decimal round
of_nan b e = ap (λ (x : Float). cond (le (decimal 0 1) x) 0 (2 ^ 31)) (sym e)

pub returns-then-b : goal.returns-then-b
returns-then-b c = of_nan c.args.b (is_nan_law c.args.b c.if-b.true)

pub float_to_bits-carried : goal.float_to_bits-carried
float_to_bits-carried c = no_nan c.args.b c.if-b.false

small : (c : Else-b) → to_bits binary32 c.args.b < 2 ^ 32
small c = wide binary32 c.args.b c.well_formed.0.1

pub returns : goal.returns
unfolding decimal round
returns c =
    let b = c.args.b in
    carried (to_bits binary32 b) (small (goal.at.returns c).Else-b) ∙ ap (λ (t : Bool). cond t 0 (2 ^ 31)) (sym (not_below_bits binary32 b (held binary32 b c.well_formed.0.1) (no_nan b c.if-b.false)))

pub overflow_cast-carried : goal.overflow_cast-carried
overflow_cast-carried c = omega (arith, small (goal.at.overflow_cast-carried c).Else-b)

pub overflow_add-carried : goal.overflow_add-carried
overflow_add-carried c = omega (arith, small (goal.at.overflow_add-carried c).Else-b)

pub overflow_mul-result : goal.overflow_mul-result
overflow_mul-result c = omega (arith, small (goal.at.overflow_mul-result c).Else-b)

pub overflow_cast-result : goal.overflow_cast-result
overflow_cast-result c = omega (arith, small (goal.at.overflow_cast-result c).Else-b)
