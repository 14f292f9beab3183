-- What `narrow::magnitude` computes, case by case of the exponent's field. Assumes nothing.
use Rattle.std.proofs.Common.{◌≡◌, ℕ, zero, suc, ◌+◌, ◌-◌, ◌*◌, ◌/◌, ◌%◌, ◌^◌, ◌<◌, ◌≤◌, Bool, true, false, cond, ◌⊎◌, sym, refl, ap, ◌∙◌, inl, inr, lt_of_lt_of_le, mod-eq_of_lt, mul_assoc, eq-or-lt_of_le, zero-add, mul-one, arith, lit≤, pow_pos, pow_mono, shl_lt, Float}
use native.Mathlib.Nat.{div-eq_of_lt}
use native.Mathlib.Decide.{dec_lt}
use lib.Ieee.{nan, inf, fin, binary32, binary64, up, down, round, of_fields, of_bits}
use lib.Ieee.Fits.{down_pos}
use lib.Ieee.Exact.{HasValue}
use lib.Ieee.Scale.{round_same}
use lib.Ieee.Nearest.{closest}
use Rattle.base.specs.Number.{narrow_of}
use Rattle.base.proofs.rounding.Fields.{decode, field_val, subnormal_val, infinite}
use Rattle.base.proofs.rounding.Rounding.{shifts, inf_bits, round_bits, round_inf}
use Rattle.base.proofs.rounding.Halves.{nearest_below}

pub narrow_val : (x : Float) (s : Bool) (a c : ℕ) → 0 < c → HasValue x s a c → narrow_of x ≡ round binary32 s a c
unfolding narrow_of
narrow_val nan s a c C h = absurd h
narrow_val (inf t) s a c C h = absurd h
narrow_val (fin t m e) s a c C h = round_same binary32 t (m * up e) (down e) a c (down_pos e) C h.1 ∙ ap (λ (b : Bool). round binary32 b a c) h.0

narrow_inf : (s : Bool) → inf s ≡ narrow_of (inf s)
unfolding narrow_of
narrow_inf s = refl

abbrev pub Narrows : ℕ → ℕ → Type 0
Narrows b r = (s : Bool) → of_bits binary32 (cond s (2 ^ 31) 0 + r) ≡ narrow_of (of_bits binary64 (cond s (2 ^ 63) 0 + b))

-- below half of the smallest `f32`
tiny_closest : (a : ℕ) → a < 2 ^ 924 → closest a (2 ^ 925) ≡ 0
tiny_closest a h =
    let l : a < 2 ^ 925 = lt_of_lt_of_le h (lit≤ tt) in
    nearest_below (a / 2 ^ 925) (a % 2 ^ 925 * 2) (2 ^ 925) (rw (mod-eq_of_lt l) (shl_lt 924 1 h)) ∙ div-eq_of_lt l

tiny : (s : Bool) (a : ℕ) → a < 2 ^ 924 → round binary32 s a (2 ^ 1074) ≡ of_bits binary32 (cond s (2 ^ 31) 0 + 0)
tiny s a h =
    round_bits binary32 s a (2 ^ 1074) a 925 0 (pow_pos 1074) (mul_assoc a (2 ^ 149) (2 ^ 925) ∙ ap (λ (z : ℕ). z * 2 ^ 1074) (sym (mul-one a))) (lt_of_lt_of_le h (lit≤ tt), inl refl) (lit≤ tt)
    ∙ ap (λ (z : ℕ). of_bits binary32 (cond s (2 ^ 31) 0 + z)) (zero-add (closest a (2 ^ 925)) ∙ tiny_closest a h)

module _ (b : ℕ) (h : b ≤ 2047 * 2 ^ 52) where
  by_value : (s : Bool) (a r : ℕ) → HasValue (of_fields binary64 s (b / 2 ^ 52) (b % 2 ^ 52)) s a (2 ^ 1074) → round binary32 s a (2 ^ 1074) ≡ of_bits binary32 r → of_bits binary32 r ≡ narrow_of (of_bits binary64 (cond s (2 ^ 63) 0 + b))
  by_value s a r v e = sym (ap narrow_of (decode s b (omega arith)) ∙ narrow_val (of_fields binary64 s (b / 2 ^ 52) (b % 2 ^ 52)) s a (2 ^ 1074) (pow_pos 1074) v ∙ e)

  -- the result is subnormal, or rounds up to the least that is not
  pub low_case : 0 < b / 2 ^ 52 → b / 2 ^ 52 < 897 → Narrows b (closest (b % 2 ^ 52 + 2 ^ 52) (2 ^ (926 - b / 2 ^ 52)))
  low_case p q s =
      let x = b / 2 ^ 52 in
      let m = b % 2 ^ 52 + 2 ^ 52 in
      let n = 926 - x in
      by_value s (m * 2 ^ (x - 1)) _ (field_val s x (b % 2 ^ 52) p (omega arith))
      (round_bits binary32 s (m * 2 ^ (x - 1)) (2 ^ 1074) m n 0 (pow_pos 1074) (shifts m (x - 1) 149 n 0 1074 (omega arith))
      (lt_of_lt_of_le (omega arith) (pow_mono {i = 53} {j = 24 + n} (omega arith)), inl refl) (lit≤ tt)
      ∙ ap (λ (z : ℕ). of_bits binary32 (cond s (2 ^ 31) 0 + z)) (zero-add (closest m (2 ^ n))))

  pub mid_case : 897 ≤ b / 2 ^ 52 → b / 2 ^ 52 < 1151 → Narrows b ((b / 2 ^ 52 - 897) * 2 ^ 23 + closest (b % 2 ^ 52 + 2 ^ 52) (2 ^ 29))
  mid_case p q s =
      let x = b / 2 ^ 52 in
      let m = b % 2 ^ 52 + 2 ^ 52 in
      by_value s (m * 2 ^ (x - 1)) _ (field_val s x (b % 2 ^ 52) (omega arith) (omega arith))
      (round_bits binary32 s (m * 2 ^ (x - 1)) (2 ^ 1074) m 29 (x - 897) (pow_pos 1074) (shifts m (x - 1) 149 29 (x - 897) 1074 (omega arith))
      (omega arith, inr (omega arith)) (omega arith))

  pub zero_case : b / 2 ^ 52 ≤ 872 → Narrows b 0
  zero_case q s = go (b / 2 ^ 52) refl
    where
      go : (x : ℕ) → b / 2 ^ 52 ≡ x → of_bits binary32 (cond s (2 ^ 31) 0 + 0) ≡ narrow_of (of_bits binary64 (cond s (2 ^ 63) 0 + b))
      go zero e = by_value s (b % 2 ^ 52 * 2 ^ 0) _ (rw e (subnormal_val s (b % 2 ^ 52))) (tiny s (b % 2 ^ 52 * 2 ^ 0) (lt_of_lt_of_le (omega arith) (lit≤ {m = 2 ^ 52} tt)))
      go (suc y) e =
          let x = b / 2 ^ 52 in
          let m = b % 2 ^ 52 + 2 ^ 52 in
          by_value s (m * 2 ^ (x - 1)) _ (field_val s x (b % 2 ^ 52) (omega arith) (omega arith))
          (tiny s (m * 2 ^ (x - 1)) (lt_of_lt_of_le (shl_lt 53 (x - 1) (omega arith)) (pow_mono {i = 53 + (x - 1)} {j = 924} (omega arith))))

  pub inf_case : 1151 ≤ b / 2 ^ 52 → Narrows b (255 * 2 ^ 23)
  inf_case p s = go (eq-or-lt_of_le h)
    where
      go : (b ≡ 2047 * 2 ^ 52) ⊎ (b < 2047 * 2 ^ 52) → of_bits binary32 (cond s (2 ^ 31) 0 + 255 * 2 ^ 23) ≡ narrow_of (of_bits binary64 (cond s (2 ^ 63) 0 + b))
      go (inl e) = sym (inf_bits binary32 s) ∙ narrow_inf s ∙ ap narrow_of (sym (decode s b (omega arith) ∙ ap (λ (z : ℕ). of_fields binary64 s (z / 2 ^ 52) (z % 2 ^ 52)) e ∙ infinite s))
      go (inr l) =
          let x = b / 2 ^ 52 in
          let m = b % 2 ^ 52 + 2 ^ 52 in
          by_value s (m * 2 ^ (x - 1)) _ (field_val s x (b % 2 ^ 52) (omega arith) (omega arith))
          (round_inf binary32 s (m * 2 ^ (x - 1)) (2 ^ 1074) m 29 (x - 897) (pow_pos 1074) (shifts m (x - 1) 149 29 (x - 897) 1074 (omega arith)) (omega arith, inr (omega arith)) (omega arith) (omega arith)
          ∙ inf_bits binary32 s)

-- ---- either sign
pub either_sign : (b r : ℕ) → b < 2 ^ 64 → Narrows (b % 2 ^ 63) r → of_bits binary32 (b / 2 ^ 63 * 2 ^ 31 + r) ≡ narrow_of (of_bits binary64 b)
either_sign b r h n = elim (dec_lt b (2 ^ 63)) [
  | yes l ↦ ap (of_bits binary32) (omega arith) ∙ n false ∙ ap (λ (x : ℕ). narrow_of (of_bits binary64 x)) (omega arith)
  | no l ↦ ap (of_bits binary32) (omega arith) ∙ n true ∙ ap (λ (x : ℕ). narrow_of (of_bits binary64 x)) (omega arith)
]
