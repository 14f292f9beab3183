-- `sign_of` where its second operand has no plain sign, by computing its test there, and the range
-- of a clamped arc cosine, by the two outcomes of the clamp's test. Assumes nothing.
use Rattle.std.proofs.Common.{◌≡◌, refl, sym, subst, ◌∙◌, Bool, true, false, not, cond, T, pos, Float}
use lib.Ieee.{nan, inf, fin, neg, lt, le, is_nan, round}
use Rattle.base.specs.Single.{decimal}
use Rattle.base.specs.Double.{fraction}
use Rattle.base.specs.Number.{negative, abs_of, narrow_of}
use Rattle.base.specs.Elementary.{acos_of, acos32_of}
use Rattle.base.proofs.order.Order.{Between, not-lt→le}
use Rattle.results.proofs.numbers.Bounds.{acos32_range}
use Rattle.maps.specs.Geometry.{sign_of, clamped_cosine, acos_clamped}

-- minus zero gives the positive size, a NaN the negative one
pub sign_minus_zero : (a : Float) → sign_of a (neg (decimal 0 1)) ≡ abs_of a
unfolding sign_of decimal round neg le
sign_minus_zero a = refl

pub sign_nan : (a : Float) → sign_of a nan ≡ neg (abs_of a)
unfolding sign_of decimal round le
sign_nan a = refl

abs_number : (q : Float) → T (not (is_nan q)) → T (not (is_nan (abs_of q)))
unfolding abs_of negative neg is_nan
abs_number nan h = h
abs_number (inf true) h = tt
abs_number (inf false) h = tt
abs_number (fin true m e) h = tt
abs_number (fin false m e) h = tt

single_one : decimal 10 1 ≡ fin false 1 (pos 0)
unfolding decimal round
single_one = refl

double_one : fraction 1 1 ≡ fin false 1 (pos 0)
unfolding fraction round
double_one = refl

one_number : T (not (is_nan (decimal 10 1)))
unfolding decimal round is_nan
one_number = tt

either_one : (b : Bool) → T (le (abs_of (cond b (abs_of (decimal 10 1)) (neg (abs_of (decimal 10 1))))) (fraction 1 1))
unfolding abs_of negative neg decimal fraction round le
either_one true = tt
either_one false = tt

sign_one : (q : Float) → T (le (abs_of (sign_of (decimal 10 1) q)) (fraction 1 1))
unfolding sign_of
sign_one q = either_one (le (decimal 0 1) q)

-- a clamped number is 1 at most in size
pub clamped_size : (q : Float) → T (not (is_nan q)) → T (le (abs_of (clamped_cosine q)) (fraction 1 1))
unfolding clamped_cosine
clamped_size q h = go (lt (decimal 10 1) (abs_of q)) refl
  where
    go : (b : Bool) → lt (decimal 10 1) (abs_of q) ≡ b → T (le (abs_of (cond b (sign_of (decimal 10 1) q) q)) (fraction 1 1))
    go true e = sign_one q
    go false e = subst (λ (o : Float). T (le (abs_of q) o)) (single_one ∙ sym double_one) (not-lt→le (decimal 10 1) (abs_of q) one_number (abs_number q h) e)

-- so its arc cosine is 0 to 4, and that of a NaN is a NaN
pub acos_clamped_in : (q : Float) → T (not (is_nan q)) → Between (fraction 0 1) (fraction 4 1) (acos_clamped q)
unfolding acos_clamped
acos_clamped_in q h = acos32_range (clamped_cosine q) (clamped_size q h)

pub acos_clamped_nan : acos_clamped nan ≡ nan
unfolding acos_clamped clamped_cosine abs_of negative neg lt le acos32_of acos_of narrow_of decimal fraction round
acos_clamped_nan = refl
