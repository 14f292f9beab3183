-- `quarter` is right: from 2^52 to 2^53 the floats are the whole numbers, the last bits of such an
-- s are the number's own, and s - 3 × 2^51 is exact, where 3 × 2^51 is a multiple of 4. Assumes
-- nothing.
use Rattle.std.proofs.Common.{◌≡◌, ℕ, zero, suc, ◌+◌, ◌-◌, ◌*◌, ◌/◌, ◌%◌, ◌^◌, ◌<◌, ◌≤◌, min, Bool, true, false, cond, not, ◌&&◌, T, eqb, ltb, leb, ℤ, pos, negsuc, sym, ap, ◌∙◌, le_trans, le_of_eq, mul-le-mul_right, zero-mul, mul-one, div-one, mul-div_cancel, arith, ltb→lt, pow_pos, pow-add, shl_lt, Float}
use native.Mathlib.Nat.{min-eq_left, pow-succ'}
use lib.Pow.{shl-shr}
use lib.Ieee.{nan, inf, fin, binary64, up, down, size, round, add, mul, neg, le, is_nan, fits, to_bits, to_unsigned}
use lib.Ieee.Digits.{size-le}
use lib.Ieee.Fits.{and_l, and_r, down_pos, add-fits}
use lib.Ieee.Exact.{HasValue}
use lib.Ieee.Back.{round_whole}
use lib.Ieee.Scale.{finite}
use Rattle.base.specs.Double.{◌⊕◌, ◌⊖◌, ◌⊗◌, fraction}
use Rattle.base.specs.Number.{negative, abs_of}
use Rattle.base.specs.Elementary.{near_of, quarter_of}
use Rattle.base.proofs.rounding.Rounding.{size_gt, just}
use Rattle.base.proofs.order.Order.{gain, loss, le→cross, trans_le, no_nan_finite, Between, between_finite, size_between, abs_fin}
use Rattle.base.proofs.order.Monotone.{sub_rounds, mul_size}
use Rattle.base.proofs.order.Intervals.{exactly, add_in}
use Rattle.base.proofs.steps.Reduction.{big, factor}

-- ---- the bits of a whole number of 53 digits
digits : (n l : ℕ) → 2 ^ 52 ≤ n → n < 2 ^ 53 → size (n * 2 ^ l) - 53 ≡ l
digits n l h k =
    let m = n * 2 ^ l in
    just (size m) 52 l (size-le m (53 + l) (shl_lt 53 l k)) (size_gt m (52 + l) (le_trans (le_of_eq (pow-add 2 52 l)) (mul-le-mul_right (2 ^ l) h)))

whole_bits : (m k : ℕ) → 2 ^ 52 ≤ m * 2 ^ k → m * 2 ^ k < 2 ^ 53 → to_bits binary64 (fin false m (pos k)) ≡ 0 + 1074 * 2 ^ 52 + m * 2 ^ k
unfolding to_bits
whole_bits m k h l =
    let n = m * 2 ^ k in
    ap (λ (x : ℕ). 0 + (size x - 53) * 2 ^ 52 + x / 2 ^ (size x - 53)) (div-one (n * 2 ^ 1074))
    ∙ ap (λ (j : ℕ). 0 + j * 2 ^ 52 + n * 2 ^ 1074 / 2 ^ j) (digits n 1074 h l)
    ∙ ap (λ (x : ℕ). 0 + 1074 * 2 ^ 52 + x) (shl-shr n 1074)

-- ---- z modulo 4, where z is the whole number r or -r
quarter_value : (z : Float) (s : Bool) (r : ℕ) → HasValue z s r 1 → r < 2 ^ 64 → quarter_of z ≡ cond s ((4 - r % 4) % 4) (r % 4)
unfolding quarter_of to_unsigned negative
quarter_value nan s r v h = absurd v
quarter_value (inf t) s r v h = absurd v
quarter_value (fin t m e) s r v h =
    let q : m * up e / down e ≡ r = ap (λ (x : ℕ). x / down e) (sym (mul-one (m * up e)) ∙ v.1) ∙ mul-div_cancel r (down_pos e) in
    let a : to_unsigned 64 (abs_of (fin t m e)) ≡ r = ap (to_unsigned 64) (abs_fin t m e) ∙ ap (λ (x : ℕ). min x (2 ^ 64 - 1)) q ∙ min-eq_left (omega arith) in
    λ i. cond (v.0 i) ((4 - a i % 4) % 4) (a i % 4)

-- ---- n - 3 × 2^51, which is r or -r
small : (s : Bool) (n r : ℕ) → n + loss s r ≡ 3 * 2 ^ 51 + gain s r → n < 2 ^ 53 → r ≤ 2 ^ 53
small true n r e l = omega arith
small false n r e l = omega arith

quarters : (s : Bool) (n r : ℕ) → n + loss s r ≡ 3 * 2 ^ 51 + gain s r → (0 + 1074 * 2 ^ 52 + n) % 4 ≡ cond s ((4 - r % 4) % 4) (r % 4)
quarters true n r e = omega arith
quarters false n r e = omega arith

quarter_whole : (m k : ℕ) → 2 ^ 52 ≤ m * 2 ^ k → m * 2 ^ k < 2 ^ 53 → to_bits binary64 (fin false m (pos k)) % 4 ≡ quarter_of (fin false m (pos k) ⊖ big)
quarter_whole m k h l =
    let n = m * 2 ^ k in
    let d = sub_rounds binary64 (fin false m (pos k)) big tt tt in
    let s = d.sign in
    let r = d.size in
    let e : n + loss s r ≡ 3 * 2 ^ 51 + gain s r = omega (arith, d.value) in
    let R = small s n r e l in
    ap (λ (b : ℕ). b % 4) (whole_bits m k h l)
    ∙ quarters s n r e
    ∙ sym (ap quarter_of d.is ∙ quarter_value (round binary64 s r 1) s r (round_whole binary64 s r R) (omega arith))

-- ---- a float from 2^52 to 2^53 - 1 is a whole number: with a fraction it would have more than 53
-- digits
abbrev least : Float
least = fin false 1 (pos 52)

abbrev most : Float
most = fin false (2 ^ 53 - 1) (pos 0)

held : (s : Bool) (m : ℕ) (e : ℤ) → T (fits binary64 (fin s (suc m) e)) → suc m < 2 ^ 53
unfolding fits
held s m e h =
    let a = eqb (suc m % 2) 1 in
    let b = ltb (suc m) (2 ^ 53) in
    let c = leb (down e) (2 ^ 1074) in
    ltb→lt (suc m) (2 ^ 53) (and_r a b (and_l (a && b) c (and_l (a && b && c) (ltb (suc m * up e) (2 ^ 1024 * down e)) h)))

quarter_bits : (s : Float) → T (fits binary64 s) → Between least most s → to_bits binary64 s % 4 ≡ quarter_of (s ⊖ big)
quarter_bits s h b = go s h (between_finite tt tt b) b.low b.high
  where
    go : (s : Float) → T (fits binary64 s) → T (finite s) → T (le least s) → T (le s most) → to_bits binary64 s % 4 ≡ quarter_of (s ⊖ big)
    go nan h p l m = absurd p
    go (inf t) h p l m = absurd p
    go (fin true n e) h p l m = absurd (omega (arith, le→cross least (fin true n e) tt tt l, down_pos e))
    go (fin false zero e) h p l m = absurd (omega (arith, le→cross least (fin false zero e) tt tt l, down_pos e, zero-mul (up e)))
    go (fin false (suc n) (pos k)) h p l m = quarter_whole (suc n) k (omega (arith, le→cross least (fin false (suc n) (pos k)) tt tt l)) (omega (arith, le→cross (fin false (suc n) (pos k)) most tt tt m))
    go (fin false (suc n) (negsuc k)) h p l m = absurd (omega (arith, le→cross least (fin false (suc n) (negsuc k)) tt tt l, held false n (negsuc k) h, pow_pos k, pow-succ' 2 k))

-- ---- y, at most 1024 in size, shifted
shifted_in : (y : Float) → T (le (abs_of y) (fin false 1 (pos 10))) → Between least most (y ⊕ big)
unfolding le add neg
shifted_in y h = add_in binary64 least most tt (size_between h) (exactly big tt)

module _ (y : Float) (h : T (le (abs_of y) (fraction 1024 1))) where
  pub shifted_no_nan : T (not (is_nan (y ⊕ fraction 6755399441055744 1)))
  unfolding fraction round
  shifted_no_nan = no_nan_finite (y ⊕ big) (between_finite tt tt (shifted_in y h))

  pub shifted_quarter : to_bits binary64 (y ⊕ fraction 6755399441055744 1) % 4 ≡ quarter_of (near_of y)
  unfolding near_of fraction round
  shifted_quarter = quarter_bits (y ⊕ big) (add-fits binary64 y big) (shifted_in y h)

-- ---- v, at most 1000 in size, in quarter turns
pub turns_small : (v : Float) → T (le (abs_of v) (fraction 1000 1)) → T (le (abs_of (v ⊗ factor)) (fraction 1024 1))
unfolding fraction round mul le abs_of negative
turns_small v h = trans_le (abs_of (v ⊗ factor)) (fraction 1000 1 ⊗ factor) (fraction 1024 1) (mul_size binary64 v factor (fraction 1000 1) factor tt tt h tt) tt
