-- `sign` sets the sign that `sign_from` gives over the bits of a's size (`signed_size`), and is a NaN
-- where a is one.
use Rattle.std.proofs.Common.{◌≡◌, ℕ, ◌+◌, ◌*◌, ◌%◌, ◌^◌, ◌≤◌, Bool, true, false, cond, not, T, sym, refl, ap, ◌∙◌, subst, arith, Float}
use lib.Ieee.{nan, neg, le, fits, is_nan, binary32, nan_bits, of_bits, to_bits}
use Rattle.base.specs.Number.{abs_of}
use Rattle.base.specs.Single.{decimal}
use Rattle.base.proofs.rounding.Patterns.{is_nan_law, no_nan, no_nan_bits, abs_nan, held, capped, signed_size}
use Rattle.maps.specs.Geometry.{sign_of}
use Rattle.maps.proofs.geometry.sign.Goals as goal

of_nan : (a b : Float) → a ≡ nan → a ≡ sign_of a b
unfolding sign_of neg
of_nan a b e = e ∙ either (le (decimal 0 1) b) ∙ ap (λ (x : Float). sign_of x b) (sym e)
  where
    either : (t : Bool) → nan ≡ cond t (abs_of nan) (neg (abs_of nan))
    either true = abs_nan nan refl
    either false = ap neg (abs_nan nan refl)

pub returns-then-a : goal.returns-then-a
returns-then-a c = of_nan c.args.a c.args.b (is_nan_law c.args.a c.if-a.true)

-- ---- a sign over a size
at_most : (t : Bool) → cond t 0 (2 ^ 31) ≤ 2 ^ 31
at_most true = omega arith
at_most false = omega arith

no_nan_under : (t : Bool) (n : ℕ) → n ≤ 255 * 2 ^ 23 → T (not (nan_bits binary32 (cond t 0 (2 ^ 31) + n)))
no_nan_under true n h = no_nan_bits binary32 (0 + n) (omega arith)
no_nan_under false n h = no_nan_bits binary32 (2 ^ 31 + n) (omega arith)

under : (t : Bool) (a : Float) → T (fits binary32 a) → T (not (is_nan a)) → of_bits binary32 (cond t 0 (2 ^ 31) + to_bits binary32 a % 2 ^ 31) ≡ cond t (abs_of a) (neg (abs_of a))
under true a h n = signed_size binary32 false a h n
under false a h n = signed_size binary32 true a h n

pub float_to_bits-result : goal.float_to_bits-result
float_to_bits-result c = no_nan c.args.a c.if-a.false

pub overflow_add-result : goal.overflow_add-result
overflow_add-result c = omega (arith, subst (λ (r : ℕ). r ≤ 2 ^ 31) (sym c.sign_from.ensures) (at_most (le (decimal 0 1) c.args.b)))

pub float_from_bits-result : goal.float_from_bits-result
float_from_bits-result c =
    let n = to_bits binary32 c.args.a % 2 ^ 31 in
    subst (λ (r : ℕ). T (not (nan_bits binary32 (r + n)))) (sym c.sign_from.ensures)
    (no_nan_under (le (decimal 0 1) c.args.b) n (capped binary32 c.args.a c.well_formed.0.1 c.if-a.false))

pub returns : goal.returns
unfolding sign_of
returns c =
    let a = c.args.a in
    ap (λ (r : ℕ). of_bits binary32 (r + to_bits binary32 a % 2 ^ 31)) c.sign_from.ensures
    ∙ under (le (decimal 0 1) c.args.b) a (held binary32 a c.well_formed.0.1) (no_nan a c.if-a.false)
