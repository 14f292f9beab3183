-- `sqrt_of` by the sorts of bit patterns: subnormal, normal, zero, below zero, infinite. Assumes
-- nothing.
use Rattle.std.proofs.Common.{◌≡◌, ℕ, zero, suc, ◌+◌, ◌-◌, ◌*◌, ◌/◌, ◌%◌, ◌^◌, ◌<◌, ◌≤◌, true, false, ◌⊎◌, sym, refl, ap, ◌∙◌, subst, inl, inr, le_trans, le_of_eq, lt_of_lt_of_le, lt_irrefl, mul-le-mul_right, mod-eq_of_lt, mul_assoc, eq-zero-or-pos, eq-or-lt_of_le, mul-lt-mul_of_pos_right, mul-pos, lt_of_not-le, zero-add, zero-mul, mul-one, not-le_of_lt, arith, pow_pos, pow_mono, pow-add}
use mathlib.Core.Bool.{false≢true}
use lib.Count.{count_leading_zeros, leading_top}
use lib.Ieee.{Float, nan, inf, fin, binary64, up, of_fields, of_bits}
use lib.Ieee.Fits.{down_pos}
use lib.Ieee.Exact.{HasValue}
use Rattle.base.specs.Number.{closest_root, sqrt_of}
use Rattle.base.proofs.rounding.Fields.{decode, field_val, subnormal_val, infinite}
use Rattle.base.proofs.roots.Rooted.{root_small, root_pattern}

-- ---- the value of a positive pattern
read : (b : ℕ) → b < 2 ^ 63 → of_fields binary64 false (b / 2 ^ 52) (b % 2 ^ 52) ≡ of_bits binary64 b
read b h = sym (decode false b h) ∙ ap (of_bits binary64) (zero-add b)

pub normal_value : (b : ℕ) → 2 ^ 52 ≤ b → b < 2047 * 2 ^ 52 → HasValue (of_bits binary64 b) false ((b % 2 ^ 52 + 2 ^ 52) * 2 ^ (b / 2 ^ 52 - 1)) (2 ^ 1074)
normal_value b l h =
    subst (λ (v : Float). HasValue v false ((b % 2 ^ 52 + 2 ^ 52) * 2 ^ (b / 2 ^ 52 - 1)) (2 ^ 1074)) (read b (omega arith)) (field_val false (b / 2 ^ 52) (b % 2 ^ 52) (omega arith) (omega arith))

pub subnormal_value : (b : ℕ) → b < 2 ^ 52 → HasValue (of_bits binary64 b) false b (2 ^ 1074)
subnormal_value b h =
    let e : b / 2 ^ 52 ≡ 0 = omega arith in
    let g : b % 2 ^ 52 ≡ b = omega arith in
    subst (λ (v : Float). HasValue v false b (2 ^ 1074)) (ap (λ (x : ℕ). of_fields binary64 false x b) (sym e) ∙ ap (λ (x : ℕ). of_fields binary64 false (b / 2 ^ 52) x) (sym g) ∙ read b (omega arith))
    (subst (λ (w : ℕ). HasValue (of_fields binary64 false 0 b) false w (2 ^ 1074)) (mul-one b) (subnormal_val false b))

-- ---- the bits of a root, as `root_bits` has them
abbrev pub bits_of : ℕ → ℕ → ℕ
bits_of m f = (f + f % 2) / 2 * 2 ^ 52 + closest_root (m * (2 - f % 2) * 2 ^ 52) 1

abbrev pub Rooted : ℕ → ℕ → Type 0
Rooted b r = (r < 2047 * 2 ^ 52) × (of_bits binary64 r ≡ sqrt_of binary64 (of_bits binary64 b))

bits_lt : (m f : ℕ) → m < 2 ^ 53 → f < 3072 → bits_of m f < 2047 * 2 ^ 52
bits_lt m f h g = omega (arith, root_small m (f % 2) h)

pub normal_root : (b : ℕ) → 2 ^ 52 ≤ b → b < 2047 * 2 ^ 52 → Rooted b (bits_of (b % 2 ^ 52 + 2 ^ 52) (b / 2 ^ 52 + 1020))
normal_root b l h =
    let x = b / 2 ^ 52 in
    let m = b % 2 ^ 52 + 2 ^ 52 in
    let n : x - 1 + 1074 ≡ x + 1020 + 53 = omega arith in (
      bits_lt m (x + 1020) (omega arith) (omega arith),
      sym (root_pattern (of_bits binary64 b) (m * 2 ^ (x - 1)) m (x + 1020) (normal_value b l h) (mul-pos (omega arith) (pow_pos (x - 1)))
          (mul_assoc m (2 ^ (x - 1)) (2 ^ 1074) ∙ ap (λ (z : ℕ). m * z) (sym (pow-add 2 (x - 1) 1074) ∙ ap (λ (z : ℕ). 2 ^ z) n)) (omega arith) (omega arith) (omega arith)),
    )

module _ (b : ℕ) (p : 0 < b) (h : b < 2 ^ 52) where
  pub lead : (11 ≤ count_leading_zeros 64 b) × (count_leading_zeros 64 b < 64) × (2 ^ 52 ≤ b * 2 ^ (count_leading_zeros 64 b - 11)) × (b * 2 ^ (count_leading_zeros 64 b - 11) < 2 ^ 53)
  lead =
      let t = leading_top 64 b p (omega arith) in
      let j = t.0 in
      let s = count_leading_zeros 64 b - 11 in
      let e = t.1 in
      let l : j < 52 = lt_of_not-le (λ (g : 52 ≤ j). not-le_of_lt h (le_trans (pow_mono g) t.2)) in
      let n : j + s ≡ 52 = omega arith in
      let n' : suc j + s ≡ 53 = omega arith in (
        omega arith,
        omega arith,
        le_trans (le_of_eq (ap (λ (x : ℕ). 2 ^ x) (sym n) ∙ pow-add 2 j s)) (mul-le-mul_right (2 ^ s) t.2),
        lt_of_lt_of_le (mul-lt-mul_of_pos_right t.3 (pow_pos s)) (le_of_eq (sym (pow-add 2 (suc j) s) ∙ ap (λ (x : ℕ). 2 ^ x) n')),
      )

  pub no_wrap : b * 2 ^ (count_leading_zeros 64 b - 11) % 2 ^ 64 ≡ b * 2 ^ (count_leading_zeros 64 b - 11)
  no_wrap = mod-eq_of_lt (omega (arith, lead.3))

  pub subnormal_root : Rooted b (bits_of (b * 2 ^ (count_leading_zeros 64 b - 11) % 2 ^ 64) (1021 - (count_leading_zeros 64 b - 11)))
  subnormal_root =
      let s = count_leading_zeros 64 b - 11 in
      let d = lead.1 in
      let n : s + (1021 - s + 53) ≡ 1074 = omega arith in
      subst (λ (m : ℕ). Rooted b (bits_of m (1021 - s))) (sym no_wrap) (
        bits_lt (b * 2 ^ s) (1021 - s) lead.3 (omega arith),
        sym (root_pattern (of_bits binary64 b) b (b * 2 ^ s) (1021 - s) (subnormal_value b h) p
            (sym (mul_assoc b (2 ^ s) (2 ^ (1021 - s + 53)) ∙ ap (λ (z : ℕ). b * z) (sym (pow-add 2 s (1021 - s + 53)) ∙ ap (λ (z : ℕ). 2 ^ z) n))) lead.2 lead.3 (omega arith)),
      )

-- ---- where no root is taken
pub fixed : (x : Float) (n : ℕ) → x ≡ of_bits binary64 n → of_bits binary64 n ≡ sqrt_of binary64 (of_bits binary64 n) → x ≡ sqrt_of binary64 x
fixed x n e h = e ∙ h ∙ ap (sqrt_of binary64) (sym e)

pub plus_zero : of_bits binary64 0 ≡ sqrt_of binary64 (of_bits binary64 0)
unfolding sqrt_of of_bits
plus_zero = refl

pub minus_zero : of_bits binary64 (2 ^ 63) ≡ sqrt_of binary64 (of_bits binary64 (2 ^ 63))
unfolding sqrt_of of_bits
minus_zero = refl

pub infinity : of_bits binary64 (2047 * 2 ^ 52) ≡ sqrt_of binary64 (of_bits binary64 (2047 * 2 ^ 52))
unfolding sqrt_of of_bits
infinity = refl

pub nan_root : (x : Float) → x ≡ nan → x ≡ sqrt_of binary64 x
unfolding sqrt_of
nan_root x e = e ∙ ap (sqrt_of binary64) (sym e)

below_val : (v : Float) (w : ℕ) → HasValue v true w (2 ^ 1074) → 0 < w → sqrt_of binary64 v ≡ nan
unfolding sqrt_of
below_val nan w h W = absurd h
below_val (inf s) w h W = absurd h
below_val (fin s zero d) w h W = absurd (lt_irrefl 0 (subst (λ (x : ℕ). 0 < x) (sym h.1 ∙ ap (λ (x : ℕ). x * 2 ^ 1074) (zero-mul (up d))) (mul-pos W (down_pos d))))
below_val (fin true (suc m) d) w h W = refl
below_val (fin false (suc m) d) w h W = absurd (false≢true h.0)

below_inf : sqrt_of binary64 (inf true) ≡ nan
unfolding sqrt_of
below_inf = refl

pub below_zero : (b : ℕ) → 0 < b → b ≤ 2047 * 2 ^ 52 → sqrt_of binary64 (of_bits binary64 (2 ^ 63 + b)) ≡ nan
below_zero b p h = ap (sqrt_of binary64) (decode true b (omega arith)) ∙ go (eq-or-lt_of_le h) (eq-zero-or-pos (b / 2 ^ 52))
  where
    go : (b ≡ 2047 * 2 ^ 52) ⊎ (b < 2047 * 2 ^ 52) → (b / 2 ^ 52 ≡ 0) ⊎ (0 < b / 2 ^ 52) → sqrt_of binary64 (of_fields binary64 true (b / 2 ^ 52) (b % 2 ^ 52)) ≡ nan
    go (inl e) o = ap (λ (x : ℕ). sqrt_of binary64 (of_fields binary64 true (x / 2 ^ 52) (x % 2 ^ 52))) e ∙ ap (sqrt_of binary64) (infinite true) ∙ below_inf
    go (inr l) (inl e) = ap (λ (x : ℕ). sqrt_of binary64 (of_fields binary64 true x (b % 2 ^ 52))) e ∙ below_val (of_fields binary64 true 0 (b % 2 ^ 52)) (b % 2 ^ 52 * 2 ^ 0) (subnormal_val true (b % 2 ^ 52)) (omega arith)
    go (inr l) (inr g) = below_val (of_fields binary64 true (b / 2 ^ 52) (b % 2 ^ 52)) ((b % 2 ^ 52 + 2 ^ 52) * 2 ^ (b / 2 ^ 52 - 1)) (field_val true (b / 2 ^ 52) (b % 2 ^ 52) g (omega arith)) (mul-pos (omega arith) (pow_pos (b / 2 ^ 52 - 1)))
