-- Powers of two as bit patterns, from the least to the greatest and beyond. Assumes nothing.
use Rattle.std.proofs.Common.{◌≡◌, ℕ, ◌+◌, ◌-◌, ◌*◌, ◌/◌, ◌%◌, ◌^◌, ◌<◌, ◌≤◌, false, ◌⊎◌, sym, refl, ap, ◌∙◌, inl, inr, mod-eq_of_lt, mul_assoc, eq-or-lt_of_le, zero-add, mul-one, div-one, arith, lit<, lit≤, pow_pos, pow_mono, pow-add}
use native.Mathlib.Nat.{div-eq_of_lt}
use lib.Pow.{pow-lt}
use lib.Ieee.{inf, binary64, of_bits}
use lib.Ieee.Nearest.{closest}
use Rattle.base.specs.Double.{fraction}
use Rattle.base.proofs.rounding.Rounding.{round_bits, round_inf}
use Rattle.base.proofs.rounding.Halves.{nearest_below}

join : (a b c d : ℕ) → a + b ≡ c + d → 2 ^ a * 2 ^ b ≡ 2 ^ c * 2 ^ d
join a b c d e = sym (pow-add 2 a b) ∙ ap (λ (x : ℕ). 2 ^ x) e ∙ pow-add 2 c d

closest_one : (m : ℕ) → closest m 1 ≡ m
closest_one m = nearest_below (m / 1) (m % 1 * 2) 1 (omega arith) ∙ div-one m

-- ---- 2 ^ k
up_eq : (k : ℕ) → 2 ^ k * 2 ^ 1074 * 2 ^ 0 ≡ 2 ^ 52 * 2 ^ (k + 1022) * 1
up_eq k = mul-one (2 ^ k * 2 ^ 1074) ∙ join k 1074 52 (k + 1022) (omega arith) ∙ sym (mul-one (2 ^ 52 * 2 ^ (k + 1022)))

pub up_bits : (k : ℕ) → k < 1024 → of_bits binary64 ((k + 1023) * 2 ^ 52) ≡ fraction (2 ^ k) 1
unfolding fraction
up_bits k h =
    let e : 0 + ((k + 1022) * 2 ^ 52 + 2 ^ 52) ≡ (k + 1023) * 2 ^ 52 = omega arith in
    sym (round_bits binary64 false (2 ^ k) 1 (2 ^ 52) 0 (k + 1022) (lit< tt) (up_eq k) (lit< tt, inr (lit≤ tt)) (omega arith) ∙ ap (of_bits binary64) e)

pub up_inf : (k : ℕ) → 1024 ≤ k → inf false ≡ fraction (2 ^ k) 1
unfolding fraction
up_inf k h = sym (round_inf binary64 false (2 ^ k) 1 (2 ^ 52) 0 (k + 1022) (lit< tt) (up_eq k) (lit< tt, inr (lit≤ tt)) (lit≤ tt) (omega arith))

-- ---- 1 / 2 ^ k
pub down_bits : (k : ℕ) → k < 1023 → of_bits binary64 ((1023 - k) * 2 ^ 52) ≡ fraction 1 (2 ^ k)
unfolding fraction
down_bits k h =
    let e : 0 + ((1022 - k) * 2 ^ 52 + 2 ^ 52) ≡ (1023 - k) * 2 ^ 52 = omega arith in
    let g : 1 * 2 ^ 1074 * 2 ^ 0 ≡ 2 ^ 52 * 2 ^ (1022 - k) * 2 ^ k = join 1074 0 (52 + (1022 - k)) k (omega arith) ∙ ap (λ (x : ℕ). x * 2 ^ k) (pow-add 2 52 (1022 - k)) in
    sym (round_bits binary64 false 1 (2 ^ k) (2 ^ 52) 0 (1022 - k) (pow_pos k) g (lit< tt, inr (lit≤ tt)) (omega arith) ∙ ap (of_bits binary64) e)

pub down_low : (k : ℕ) → 1023 ≤ k → k < 1075 → of_bits binary64 (2 ^ (1074 - k)) ≡ fraction 1 (2 ^ k)
unfolding fraction
down_low k l h =
    let m = 2 ^ (1074 - k) in
    let e : 0 + (0 * 2 ^ 52 + closest m (2 ^ 0)) ≡ m = zero-add (0 + closest m 1) ∙ zero-add (closest m 1) ∙ closest_one m in
    let g : 1 * 2 ^ 1074 * 2 ^ 0 ≡ m * 2 ^ 0 * 2 ^ k = join 1074 0 (1074 - k) k (omega arith) ∙ ap (λ (x : ℕ). x * 2 ^ k) (sym (mul-one m)) in
    sym (round_bits binary64 false 1 (2 ^ k) m 0 0 (pow_pos k) g (pow-lt {i = 1074 - k} {j = 53} (omega arith), inl refl) (lit≤ tt) ∙ ap (of_bits binary64) e)

-- half of the least value, and anything below it
half_closest : (n : ℕ) → 0 < n → closest 1 (2 ^ n) ≡ 0
half_closest n p = go (eq-or-lt_of_le p)
  where
    go : (1 ≡ n) ⊎ (1 < n) → closest 1 (2 ^ n) ≡ 0
    go (inl e) = ap (λ (x : ℕ). closest 1 (2 ^ x)) (sym e)
    go (inr l) =
        let g : 4 ≤ 2 ^ n = pow_mono {i = 2} {j = n} l in
        let d : 1 < 2 ^ n = omega arith in
        nearest_below (1 / 2 ^ n) (1 % 2 ^ n * 2) (2 ^ n) (rw (mod-eq_of_lt d) (omega arith)) ∙ div-eq_of_lt d

pub down_zero : (k : ℕ) → 1075 ≤ k → of_bits binary64 0 ≡ fraction 1 (2 ^ k)
unfolding fraction
down_zero k h =
    let n = k - 1074 in
    let e : 0 + (0 * 2 ^ 52 + closest 1 (2 ^ n)) ≡ 0 = ap (λ (x : ℕ). 0 + (0 * 2 ^ 52 + x)) (half_closest n (omega arith)) in
    let g : 1 * 2 ^ 1074 * 2 ^ n ≡ 1 * 2 ^ 0 * 2 ^ k = join 1074 n 0 k (omega arith) in
    sym (round_bits binary64 false 1 (2 ^ k) 1 n 0 (pow_pos k) g (pow-lt {i = 0} {j = 53 + n} (omega arith), inl refl) (lit≤ tt) ∙ ap (of_bits binary64) e)

-- ---- m / 2 ^ 52, for an m of 53 digits
pub digits_bits : (m : ℕ) → 2 ^ 52 ≤ m → m < 2 ^ 53 → of_bits binary64 (m + 1022 * 2 ^ 52) ≡ fraction m (2 ^ 52)
unfolding fraction
digits_bits m l h =
    let e : 0 + (1022 * 2 ^ 52 + closest m (2 ^ 0)) ≡ m + 1022 * 2 ^ 52 = omega (arith, closest_one m) in
    let g : m * 2 ^ 1074 * 2 ^ 0 ≡ m * 2 ^ 1022 * 2 ^ 52 = mul-one (m * 2 ^ 1074) ∙ sym (mul_assoc m (2 ^ 1022) (2 ^ 52)) in
    sym (round_bits binary64 false m (2 ^ 52) m 0 1022 (lit< tt) g (h, inr l) (lit≤ tt) ∙ ap (of_bits binary64) e)
