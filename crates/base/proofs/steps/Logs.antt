-- The exponent and the digits of a number above zero, and `ln_of` by the sorts of bit patterns.
-- Assumes nothing.
use Rattle.std.proofs.Common.{◌≡◌, ℕ, zero, suc, ◌+◌, ◌-◌, ◌*◌, ◌/◌, ◌%◌, ◌^◌, ◌<◌, ◌≤◌, Bool, true, false, cond, not, T, ltb, leb, ◌⊎◌, ℤ, pos, negsuc, ◌+ℤ◌, sym, refl, ap, ◌∙◌, subst, inl, inr, true≢false, le_trans, le_of_eq, lt_of_lt_of_le, lt_of_le_of_lt, lt_irrefl, mul-le-mul_right, mul_assoc, eq-zero-or-pos, le_antisymm, eq-or-lt_of_le, mul-lt-mul_of_pos_right, mul-pos, lt_of_not-le, zero-mul, mul-one, mul_right_comm, not-le_of_lt, arith, le→leb, ltb→lt, nltb→le, pow_pos, pow_mono, pow-add, Float}
use mathlib.Core.Bool.{false≢true}
use native.Mathlib.Nat.{eq_of_mul-eq-mul_right}
use lib.Count.{count_leading_zeros}
use lib.Arith.{lt→nleb}
use lib.IntN.{sub_ℕ}
use lib.Ieee.{nan, inf, fin, binary64, up, minus, size, odd, units, round, neg, of_int, of_fields, of_bits}
use lib.Ieee.Digits.{size-lt, size_reaches}
use lib.Ieee.Fits.{down_pos}
use lib.Ieee.Exact.{HasValue}
use lib.Ieee.Scale.{round_same}
use lib.Ieee.Nearest.{closest}
use lib.Ieee.Bits.{is_true, is_false}
use Rattle.base.specs.Double.{fraction}
use Rattle.base.specs.Elementary.{ln_sum, ln_of}
use Rattle.base.proofs.verdicts.Picks.{cond_true, cond_false}
use Rattle.base.proofs.rounding.Fields.{decode, field_val, subnormal_val, infinite}
use Rattle.base.proofs.rounding.Rounding.{size_gt}
use Rattle.base.proofs.rounding.Sorts.{normal_value, subnormal_value, lead, no_wrap}

-- ---- a rounded fraction, turned
neg_odd : (d q k l : ℕ) → neg (odd d false q k l) ≡ odd d true q k l
unfolding neg odd
neg_odd d zero k l = refl
neg_odd d (suc q) k l = refl

neg_units : (q k : ℕ) → neg (units binary64 false q k) ≡ units binary64 true q k
unfolding units neg
neg_units q k = go (ltb (q * 2 ^ k) (2 ^ 2098))
  where
    go : (b : Bool) → neg (cond b (odd 54 false q k 1074) (inf false)) ≡ cond b (odd 54 true q k 1074) (inf true)
    go true = neg_odd 54 q k 1074
    go false = refl

neg_round : (a c : ℕ) → neg (round binary64 false a c) ≡ round binary64 true a c
unfolding round
neg_round a c =
    let k = size (a * 2 ^ 1074 / c) - 53 in
    neg_units (closest (a * 2 ^ 1074) (c * 2 ^ k)) k

-- ---- a - b as a float
minus_pos : (a b : ℕ) → b ≤ a → minus a b ≡ pos (a - b)
minus_pos a b h = cond_true _ _ (is_true (leb b a) (le→leb b a h))

minus_neg : (a b : ℕ) → a < b → minus a b ≡ negsuc (b - suc a)
minus_neg a b h = cond_false _ _ (is_false (leb b a) (lt→nleb b a h))

pub exponent_down : (a b : ℕ) → a < b → neg (of_int binary64 (pos (b - a))) ≡ of_int binary64 (minus a b)
unfolding of_int
exponent_down a b h =
    let e : b - a ≡ suc (b - suc a) = omega arith in
    neg_round (b - a) 1 ∙ ap (λ (n : ℕ). round binary64 true n 1) e ∙ ap (of_int binary64) (sym (minus_neg a b h))

-- ---- two ways to write a number have the same leading place
module _ (a b i j p q : ℕ) (h : a * 2 ^ i ≡ b * 2 ^ j) where
  place_le : a < 2 ^ suc p → 2 ^ q ≤ b → q + j ≤ p + i
  place_le x y =
      let lo : 2 ^ (q + j) ≤ a * 2 ^ i = le_trans (le_of_eq (pow-add 2 q j)) (le_trans (mul-le-mul_right (2 ^ j) y) (le_of_eq (sym h))) in
      let hi : a * 2 ^ i < 2 ^ (suc p + i) = lt_of_lt_of_le (mul-lt-mul_of_pos_right x (pow_pos i)) (le_of_eq (sym (pow-add 2 (suc p) i))) in
      let l : q + j < suc p + i = lt_of_not-le (λ (g : suc p + i ≤ q + j). not-le_of_lt (lt_of_le_of_lt lo hi) (pow_mono g)) in
      omega arith

  digits_same : p + i ≡ q + j → a * 2 ^ q ≡ b * 2 ^ p
  digits_same e =
      let l : a * 2 ^ q * 2 ^ i ≡ b * 2 ^ (q + j) = mul_right_comm a (2 ^ q) (2 ^ i) ∙ ap (λ (x : ℕ). x * 2 ^ q) h ∙ mul_right_comm b (2 ^ j) (2 ^ q) ∙ mul_assoc b (2 ^ q) (2 ^ j) ∙ ap (λ (x : ℕ). b * x) (sym (pow-add 2 q j)) in
      let r : b * 2 ^ p * 2 ^ i ≡ b * 2 ^ (q + j) = mul_assoc b (2 ^ p) (2 ^ i) ∙ ap (λ (x : ℕ). b * x) (sym (pow-add 2 p i) ∙ ap (λ (x : ℕ). 2 ^ x) e) in
      eq_of_mul-eq-mul_right (2 ^ i) (pow_pos i) (a * 2 ^ q) (b * 2 ^ p) (l ∙ sym r)

-- one less than the digits of n + 1
abbrev places : ℕ → ℕ
places n = size (suc n) - 1

some : (n : ℕ) → 0 < size (suc n)
some n = size_gt (suc n) 0 (omega arith)

-- the number n + 1, times 2 ^ e, is m * 2 ^ f / 2 ^ 1127, where m has 53 digits
module _ (n m f : ℕ) (lo : 2 ^ 52 ≤ m) (hi : m < 2 ^ 53) where
  least : 2 ^ places n ≤ suc n
  least = size_reaches (suc n) (places n) (omega (arith, some n))

  most : suc n < 2 ^ suc (places n)
  most = lt_of_lt_of_le (size-lt (suc n)) (pow_mono {i = size (suc n)} {j = suc (places n)} (omega arith))

  place : (i j : ℕ) → suc n * 2 ^ i ≡ m * 2 ^ j → places n + i ≡ 52 + j
  place i j h = le_antisymm (place_le m (suc n) j i 52 (places n) (sym h) hi least) (place_le (suc n) m i j (places n) 52 h most lo)

  by_place : (e : ℤ) (i j : ℕ) → suc n * 2 ^ i ≡ m * 2 ^ j → (places n + i ≡ 52 + j → minus f 1075 ≡ e +ℤ pos (places n)) → ln_sum (of_int binary64 (minus f 1075)) (fraction m (2 ^ 52)) ≡ ln_of (fin false (suc n) e)
  unfolding ln_of fraction
  by_place e i j h g =
      let p = place i j h in
      let x : round binary64 false m (2 ^ 52) ≡ round binary64 false (suc n) (2 ^ places n) = sym (round_same binary64 false (suc n) (2 ^ places n) m (2 ^ 52) (pow_pos (places n)) (pow_pos 52) (digits_same (suc n) m i j (places n) 52 h p)) in
      let y = g p in
      λ t. ln_sum (of_int binary64 (y t)) (x t)

  module _ (w : ℕ) (v : w * 2 ^ 53 ≡ m * 2 ^ f) where
    ln_up : (k : ℕ) → suc n * 2 ^ k * 2 ^ 1074 ≡ w * 1 → ln_sum (of_int binary64 (minus f 1075)) (fraction m (2 ^ 52)) ≡ ln_of (fin false (suc n) (pos k))
    ln_up k h =
        let i : suc n * 2 ^ (k + 1127) ≡ m * 2 ^ f = ap (λ (x : ℕ). suc n * x) (pow-add 2 k 1127) ∙ sym (mul_assoc (suc n) (2 ^ k) (2 ^ 1127)) ∙ sym (mul_assoc (suc n * 2 ^ k) (2 ^ 1074) (2 ^ 53)) ∙ ap (λ (x : ℕ). x * 2 ^ 53) (h ∙ mul-one w) ∙ v in
        by_place (pos k) (k + 1127) f i (λ (p : places n + (k + 1127) ≡ 52 + f).
        let e : f - 1075 ≡ k + places n = omega arith in
        minus_pos f 1075 (omega arith) ∙ ap pos e)

    ln_down : (k : ℕ) → suc n * 1 * 2 ^ 1074 ≡ w * 2 ^ suc k → ln_sum (of_int binary64 (minus f 1075)) (fraction m (2 ^ 52)) ≡ ln_of (fin false (suc n) (negsuc k))
    ln_down k h =
        let r : w * 2 ^ suc k * 2 ^ 53 ≡ m * 2 ^ (f + suc k) = mul_right_comm w (2 ^ suc k) (2 ^ 53) ∙ ap (λ (x : ℕ). x * 2 ^ suc k) v ∙ mul_assoc m (2 ^ f) (2 ^ suc k) ∙ ap (λ (x : ℕ). m * x) (sym (pow-add 2 f (suc k))) in
        let i : suc n * 2 ^ 1127 ≡ m * 2 ^ (f + suc k) = sym (mul_assoc (suc n) (2 ^ 1074) (2 ^ 53)) ∙ ap (λ (x : ℕ). x * 2 ^ 1074 * 2 ^ 53) (sym (mul-one (suc n))) ∙ ap (λ (x : ℕ). x * 2 ^ 53) h ∙ r in
        by_place (negsuc k) 1127 (f + suc k) i (λ (p : places n + 1127 ≡ 52 + (f + suc k)). shifted (places n) k p)
      where
        shifted : (d k : ℕ) → d + 1127 ≡ 52 + (f + suc k) → minus f 1075 ≡ sub_ℕ d (suc k)
        shifted d k p = go (ltb d (suc k)) (ltb→lt d (suc k)) (nltb→le d (suc k))
          where
            go : (b : Bool) → (T b → d < suc k) → (T (not b) → suc k ≤ d) → minus f 1075 ≡ cond b (negsuc (suc k - suc d)) (pos (d - suc k))
            go true y z =
                let l = y tt in
                let e : 1075 - suc f ≡ suc k - suc d = omega arith in
                minus_neg f 1075 (omega arith) ∙ ap negsuc e
            go false y z =
                let l = z tt in
                let e : f - 1075 ≡ d - suc k = omega arith in
                minus_pos f 1075 (omega arith) ∙ ap pos e

-- ---- the logarithm of a number by its value
abbrev pub ln_by : ℕ → ℕ → Float
ln_by m f = ln_sum (of_int binary64 (minus f 1075)) (fraction m (2 ^ 52))

ln_value : (x : Float) (w m f : ℕ) → HasValue x false w (2 ^ 1074) → 0 < w → w * 2 ^ 53 ≡ m * 2 ^ f → 2 ^ 52 ≤ m → m < 2 ^ 53 → ln_by m f ≡ ln_of x
ln_value nan w m f h W v lo hi = absurd h
ln_value (inf s) w m f h W v lo hi = absurd h
ln_value (fin s zero e) w m f h W v lo hi = absurd (lt_irrefl 0 (subst (λ (x : ℕ). 0 < x) (sym h.1 ∙ ap (λ (x : ℕ). x * 2 ^ 1074) (zero-mul (up e))) (mul-pos W (down_pos e))))
ln_value (fin true (suc n) e) w m f h W v lo hi = absurd (true≢false h.0)
ln_value (fin false (suc n) (pos k)) w m f h W v lo hi = ln_up n m f lo hi w v k h.1
ln_value (fin false (suc n) (negsuc k)) w m f h W v lo hi = ln_down n m f lo hi w v k h.1

pub normal_ln : (b : ℕ) → 2 ^ 52 ≤ b → b < 2047 * 2 ^ 52 → ln_by (b % 2 ^ 52 + 2 ^ 52) (b / 2 ^ 52 + 52) ≡ ln_of (of_bits binary64 b)
normal_ln b l h =
    let x = b / 2 ^ 52 in
    let m = b % 2 ^ 52 + 2 ^ 52 in
    let n : x - 1 + 53 ≡ x + 52 = omega arith in
    ln_value (of_bits binary64 b) (m * 2 ^ (x - 1)) m (x + 52) (normal_value b l h) (mul-pos (omega arith) (pow_pos (x - 1)))
    (mul_assoc m (2 ^ (x - 1)) (2 ^ 53) ∙ ap (λ (z : ℕ). m * z) (sym (pow-add 2 (x - 1) 53) ∙ ap (λ (z : ℕ). 2 ^ z) n)) (omega arith) (omega arith)

pub subnormal_ln : (b : ℕ) (p : 0 < b) (h : b < 2 ^ 52) → ln_by (b * 2 ^ (count_leading_zeros 64 b - 11) % 2 ^ 64) (53 - (count_leading_zeros 64 b - 11)) ≡ ln_of (of_bits binary64 b)
subnormal_ln b p h =
    let s = count_leading_zeros 64 b - 11 in
    let d = (lead b p h).1 in
    let n : s + (53 - s) ≡ 53 = omega arith in
    subst (λ (m : ℕ). ln_by m (53 - s) ≡ ln_of (of_bits binary64 b)) (sym (no_wrap b p h))
    (ln_value (of_bits binary64 b) b (b * 2 ^ s) (53 - s) (subnormal_value b h) p
    (sym (mul_assoc b (2 ^ s) (2 ^ (53 - s)) ∙ ap (λ (z : ℕ). b * z) (sym (pow-add 2 s (53 - s)) ∙ ap (λ (z : ℕ). 2 ^ z) n))) (lead b p h).2 (lead b p h).3)

-- ---- where no logarithm is taken
pub ln_nan : (x : Float) → x ≡ nan → x ≡ ln_of x
unfolding ln_of
ln_nan x e = e ∙ ap ln_of (sym e)

pub ln_plus_zero : inf true ≡ ln_of (of_bits binary64 0)
unfolding ln_of of_bits
ln_plus_zero = refl

pub ln_minus_zero : inf true ≡ ln_of (of_bits binary64 (2 ^ 63))
unfolding ln_of of_bits
ln_minus_zero = refl

pub ln_infinity : of_bits binary64 (2047 * 2 ^ 52) ≡ ln_of (of_bits binary64 (2047 * 2 ^ 52))
unfolding ln_of of_bits
ln_infinity = refl

below_val : (v : Float) (w : ℕ) → HasValue v true w (2 ^ 1074) → 0 < w → ln_of v ≡ nan
unfolding ln_of
below_val nan w h W = absurd h
below_val (inf s) w h W = absurd h
below_val (fin s zero d) w h W = absurd (lt_irrefl 0 (subst (λ (x : ℕ). 0 < x) (sym h.1 ∙ ap (λ (x : ℕ). x * 2 ^ 1074) (zero-mul (up d))) (mul-pos W (down_pos d))))
below_val (fin true (suc m) d) w h W = refl
below_val (fin false (suc m) d) w h W = absurd (false≢true h.0)

below_inf : ln_of (inf true) ≡ nan
unfolding ln_of
below_inf = refl

pub ln_below_zero : (b : ℕ) → 0 < b → b ≤ 2047 * 2 ^ 52 → ln_of (of_bits binary64 (2 ^ 63 + b)) ≡ nan
ln_below_zero b p h = ap ln_of (decode true b (omega arith)) ∙ go (eq-or-lt_of_le h) (eq-zero-or-pos (b / 2 ^ 52))
  where
    go : (b ≡ 2047 * 2 ^ 52) ⊎ (b < 2047 * 2 ^ 52) → (b / 2 ^ 52 ≡ 0) ⊎ (0 < b / 2 ^ 52) → ln_of (of_fields binary64 true (b / 2 ^ 52) (b % 2 ^ 52)) ≡ nan
    go (inl e) o = ap (λ (x : ℕ). ln_of (of_fields binary64 true (x / 2 ^ 52) (x % 2 ^ 52))) e ∙ ap ln_of (infinite true) ∙ below_inf
    go (inr l) (inl e) = ap (λ (x : ℕ). ln_of (of_fields binary64 true x (b % 2 ^ 52))) e ∙ below_val (of_fields binary64 true 0 (b % 2 ^ 52)) (b % 2 ^ 52 * 2 ^ 0) (subnormal_val true (b % 2 ^ 52)) (omega arith)
    go (inr l) (inr g) = below_val (of_fields binary64 true (b / 2 ^ 52) (b % 2 ^ 52)) ((b % 2 ^ 52 + 2 ^ 52) * 2 ^ (b / 2 ^ 52 - 1)) (field_val true (b / 2 ^ 52) (b % 2 ^ 52) g (omega arith)) (mul-pos (omega arith) (pow_pos (b / 2 ^ 52 - 1)))
