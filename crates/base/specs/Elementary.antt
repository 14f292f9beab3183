-- Document 01, Elementary steps: worked in f64, every operation rounded once, in the order written.
-- Assumes nothing.
use Rattle.std.specs.Prelude.{ℕ, zero, suc, ◌+◌, ◌-◌, ◌*◌, ◌%◌, ◌^◌, true, false, cond, List, [], ◌∷◌, map, pos, ◌+ℤ◌, ◌==◌, Float}
use Rattle.std.specs.Float.{nan, inf, fin, binary32, binary64}
use Rattle.std.specs.Float.Ieee.{round, size, neg, lt, le, of_int, to_unsigned}
use Rattle.base.specs.Double.{◌⊕◌, ◌⊖◌, ◌⊗◌, ◌⊘◌, fraction}
use Rattle.base.specs.Number.{negative, abs_of, with_sign, narrow_of, sqrt_of}

-- ---- whole numbers

-- near(y) = (y + 6755399441055744) - 6755399441055744
unfoldable pub near_of : Float → Float
near_of y = y ⊕ fraction 6755399441055744 1 ⊖ fraction 6755399441055744 1

-- n mod 4, 0 to 3 for negative n too
unfoldable pub quarter_of : Float → ℕ
quarter_of n = let k = to_unsigned 64 (abs_of n) % 4 in cond (negative n) ((4 - k) % 4) k

-- 2^n
unfoldable pub power_of_two : Float → Float
power_of_two n = let k = to_unsigned 64 (abs_of n) in cond (negative n) (fraction 1 (2 ^ k)) (fraction (2 ^ k) 1)

-- ---- Horner: starts at the highest term; a coefficient is the f64 nearest its fraction

-- c0 + x (c1 + x (c2 + ..))
unfoldable pub horner : List Float → Float → Float
horner [] x = fin false 0 (pos 0)
horner (c ∷ []) x = c
horner (c ∷ (d ∷ cs)) x = horner (d ∷ cs) x ⊗ x ⊕ c

-- the sum s so far times x, and the next term
abbrev pub turn : Float → Float → Float → Float
turn x s c = s ⊗ x ⊕ c

unfoldable pub factorial : ℕ → ℕ
factorial zero = 1
factorial (suc n) = suc n * factorial n

-- the k of a series: from, from + 1, .., of which there are n
unfoldable pub up_from : ℕ → ℕ → List ℕ
up_from from zero = []
up_from from (suc n) = from ∷ up_from (suc from) n

-- (-1)^k/d
unfoldable pub alternating : ℕ → ℕ → Float
alternating k d = round binary64 (k % 2 == 1) 1 d

-- (-1)^k/(2k+1)!, k = 0 to 7
unfoldable pub sin_terms : List Float
sin_terms = map (λ (k : ℕ). alternating k (factorial (2 * k + 1))) (up_from 0 8)

-- (-1)^k/(2k)!, k = 0 to 8
unfoldable pub cos_terms : List Float
cos_terms = map (λ (k : ℕ). alternating k (factorial (2 * k))) (up_from 0 9)

-- (-1)^k/(2k+1), k = 0 to 6
unfoldable pub atan_terms : List Float
atan_terms = map (λ (k : ℕ). alternating k (2 * k + 1)) (up_from 0 7)

-- 1/k!, k = 0 to 13
unfoldable pub exp_terms : List Float
exp_terms = map (λ (k : ℕ). fraction 1 (factorial k)) (up_from 0 14)

-- 1/(2j+1), j = 0 to 15
unfoldable pub ln_terms : List Float
ln_terms = map (λ (j : ℕ). fraction 1 (2 * j + 1)) (up_from 0 16)

-- ---- sin, cos

unfoldable pub half_pi : Float
half_pi = fraction 15707963267948966 (10 ^ 16)

-- n = near(v × 0.6366197723675814)
unfoldable pub turns_of : Float → Float
turns_of v = near_of (v ⊗ fraction 6366197723675814 (10 ^ 16))

-- r = (v - n × 1.5707963267948966) - n × 6.123233995736766e-17
unfoldable pub reduced_of : Float → Float → Float
reduced_of v n = v ⊖ n ⊗ half_pi ⊖ n ⊗ fraction 6123233995736766 (10 ^ 32)

-- S and C
unfoldable pub sin_series : Float → Float
sin_series r = r ⊗ horner sin_terms (r ⊗ r)

unfoldable pub cos_series : Float → Float
cos_series r = horner cos_terms (r ⊗ r)

-- by n mod 4: S, C, -S, -C
unfoldable pub sin_at : ℕ → Float → Float
sin_at zero r = sin_series r
sin_at (suc zero) r = cos_series r
sin_at (suc (suc zero)) r = neg (sin_series r)
sin_at (suc (suc (suc q))) r = neg (cos_series r)

-- by n mod 4: C, -S, -C, S
unfoldable pub cos_at : ℕ → Float → Float
cos_at zero r = cos_series r
cos_at (suc zero) r = neg (sin_series r)
cos_at (suc (suc zero)) r = neg (cos_series r)
cos_at (suc (suc (suc q))) r = sin_series r

-- |argument| <= 1000, else NaN
unfoldable pub sin_of : Float → Float
sin_of v = let n = turns_of v in cond (le (abs_of v) (fraction 1000 1)) (sin_at (quarter_of n) (reduced_of v n)) nan

unfoldable pub cos_of : Float → Float
cos_of v = let n = turns_of v in cond (le (abs_of v) (fraction 1000 1)) (cos_at (quarter_of n) (reduced_of v n)) nan

-- ---- atan, acos

-- a/(1 + sqrt(1 + a²))
unfoldable pub half_angle : Float → Float
half_angle a = a ⊘ (fraction 1 1 ⊕ sqrt_of binary64 (fraction 1 1 ⊕ a ⊗ a))

unfoldable pub atan_series : Float → Float
atan_series a = a ⊗ horner atan_terms (a ⊗ a)

-- three times a/(1 + sqrt(1 + a²)); a × Horner in a²; times 8
unfoldable pub atan_within : Float → Float
atan_within a = atan_series (half_angle (half_angle (half_angle a))) ⊗ fraction 8 1

-- inverted if above 1; if inverted, 1.5707963267948966 less that
unfoldable pub atan_from : Float → Float
atan_from a = cond (lt (fraction 1 1) a) (half_pi ⊖ atan_within (fraction 1 1 ⊘ a)) (atan_within a)

-- a = |v|; sign of v
unfoldable pub atan_of : Float → Float
atan_of v = with_sign v (atan_from (abs_of v))

-- NaN beyond 1 in size, else 2 × atan(sqrt((1 - v)/(1 + v)))
unfoldable pub acos_of : Float → Float
acos_of v =
    cond (le (abs_of v) (fraction 1 1))
    (fraction 2 1 ⊗ atan_of (sqrt_of binary64 ((fraction 1 1 ⊖ v) ⊘ (fraction 1 1 ⊕ v))))
    nan

-- ---- exp, ln

unfoldable pub ln2 : Float
ln2 = fraction 6931471805599453 (10 ^ 16)

-- n = near(v × 1.4426950408889634), r = v - n × 0.6931471805599453; Horner, times 2^n
unfoldable pub exp_within : Float → Float
exp_within v = let n = near_of (v ⊗ fraction 14426950408889634 (10 ^ 16)) in horner exp_terms (v ⊖ n ⊗ ln2) ⊗ power_of_two n

-- above 700 infinity, below -700 zero
unfoldable pub exp_of : Float → Float
exp_of v = cond (lt (fraction 700 1) v) (inf false) (cond (lt v (neg (fraction 700 1))) (fraction 0 1) (exp_within v))

-- 2q × Horner in q²
unfoldable pub ln_series : Float → Float
ln_series q = fraction 2 1 ⊗ q ⊗ horner ln_terms (q ⊗ q)

-- q = (m - 1)/(m + 1); k × 0.6931471805599453 + 2q × Horner in q²
unfoldable pub ln_sum : Float → Float → Float
ln_sum k m = k ⊗ ln2 ⊕ ln_series ((m ⊖ fraction 1 1) ⊘ (m ⊕ fraction 1 1))

-- Below 0 NaN, 0 minus infinity, infinity itself; v = m × 2^k, 1 <= m < 2.
-- A number above 0 is n * 2 ^ e = n / 2 ^ d * 2 ^ (e + d), where n has d + 1 binary digits.
unfoldable pub ln_of : Float → Float
ln_of nan = nan
ln_of (inf true) = nan
ln_of (inf false) = inf false
ln_of (fin s zero e) = inf true
ln_of (fin true (suc n) e) = nan
ln_of (fin false (suc n) e) = let d = size (suc n) - 1 in ln_sum (of_int binary64 (e +ℤ pos d)) (fraction (suc n) (2 ^ d))

-- ---- an f32 call widens, works, narrows to nearest even

unfoldable pub sin32_of : Float → Float
sin32_of x = narrow_of (sin_of x)

unfoldable pub cos32_of : Float → Float
cos32_of x = narrow_of (cos_of x)

unfoldable pub atan32_of : Float → Float
atan32_of x = narrow_of (atan_of x)

unfoldable pub acos32_of : Float → Float
acos32_of x = narrow_of (acos_of x)

unfoldable pub exp32_of : Float → Float
exp32_of x = narrow_of (exp_of x)

unfoldable pub ln32_of : Float → Float
ln32_of x = narrow_of (ln_of x)

-- ---- all of them with the root, in f64 and in f32

abbrev pub elementary_functions : List (Float → Float)
elementary_functions =
    sin_of
    ∷ cos_of
    ∷ atan_of
    ∷ acos_of
    ∷ exp_of
    ∷ ln_of
    ∷ sqrt_of binary64
    ∷ sin32_of
    ∷ cos32_of
    ∷ atan32_of
    ∷ acos32_of
    ∷ exp32_of
    ∷ ln32_of
    ∷ sqrt_of binary32
    ∷ []
