-- `narrowed` is `narrow_of`: the bits with 29 digits cleared are those of the `f64` that has the
-- same value as the `f32` of `mid_case`, and two floats of one format with the same value are the
-- same, since their bits are.
use Rattle.std.proofs.Common.{◌≡◌, ℕ, ◌+◌, ◌-◌, ◌*◌, ◌/◌, ◌%◌, ◌^◌, ◌<◌, ◌≤◌, Bool, true, false, cond, not, T, sym, refl, ap, ◌∙◌, subst, inr, lt_of_lt_of_le, mul_right_comm, arith, lit≤, pow_pos, pow_mono, shl_lt, Float}
use native.Mathlib.Decide.{dec_lt}
use lib.Ieee.{nan, inf, fin, Format, binary32, binary64, prec, low, up, down, hid, top, size, units, nan_bits, of_bits, to_bits, fits}
use lib.Ieee.Fits.{down_pos, fits_widens}
use lib.Ieee.Exact.{HasValue, units_val}
use lib.Ieee.Nearest.{closest, div_same}
use lib.Ieee.Bits.{of_bits-to_bits}
use Rattle.base.specs.Number.{narrow_of}
use Rattle.base.proofs.rounding.Halves.{half_up}
use Rattle.base.proofs.rounding.Narrowing.{mid_case}
use Rattle.base.proofs.rounding.Patterns.{is_nan_law, no_nan_bits, wide, read_back}
use Rattle.base.proofs.rounding.Rounding.{shifts, closest_le, closest_ge, units_fit, units_bits}
use Rattle.base.proofs.rounding.Signs.{by_test}
use Rattle.base.proofs.number.narrowed.Goals as goal

-- ---- the same value, the same float

scaled : (a c b d p : ℕ) → 0 < c → 0 < d → a * d ≡ b * c → a * p / c ≡ b * p / d
scaled a c b d p C D e =
    div_same (a * p) c (b * p) d C D (mul_right_comm a p d ∙ ap (λ (x : ℕ). x * p) e ∙ sym (mul_right_comm b p c))

abbrev bits : Format → Bool → ℕ → ℕ
bits f s n = cond s (top f) 0 + (size n - prec f) * hid f + n / 2 ^ (size n - prec f)

-- the bits are made from the sign and the size
bits_of : (f : Format) (x : Float) (s : Bool) (a c : ℕ) → 0 < c → HasValue x s a c → to_bits f x ≡ bits f s (a * 2 ^ low f / c)
unfolding to_bits
bits_of f nan s a c C h = absurd h
bits_of f (inf t) s a c C h = absurd h
bits_of f (fin t m e) s a c C h =
    ap (bits f t) (scaled (m * up e) (down e) a c (2 ^ low f) (down_pos e) C h.1) ∙ ap (λ (b : Bool). bits f b (a * 2 ^ low f / c)) h.0

same_value :
    (f : Format) (x y : Float) (s : Bool) (a c b d : ℕ) → T (fits f x) → T (fits f y) → 0 < c → 0 < d → a * d ≡ b * c →
    HasValue x s a c → HasValue y s b d → x ≡ y
same_value f x y s a c b d p q C D e v w =
    sym (of_bits-to_bits f x p)
    ∙ ap (of_bits f) (bits_of f x s a c C v ∙ ap (bits f s) (scaled a c b d (2 ^ low f) C D e) ∙ sym (bits_of f y s b d D w))
    ∙ of_bits-to_bits f y q

-- ---- q * 2 ^ (e - 897) units of an `f32`, as an `f64`

module _ (s : Bool) (e q : ℕ) (low' : 897 ≤ e) (high : e < 1150) (least : 2 ^ 23 ≤ q) (most : q ≤ 2 ^ 24) where
  room : q * 2 ^ (e - 897) < 2 ^ 277
  room = lt_of_lt_of_le (shl_lt 25 (e - 897) (omega arith)) (pow_mono {i = 25 + (e - 897)} {j = 277} (omega arith))

  wide_room : q * 2 ^ 29 * 2 ^ (e - 1) < 2 ^ 2098
  wide_room = lt_of_lt_of_le (shl_lt 54 (e - 1) (omega arith)) (pow_mono {i = 54 + (e - 1)} {j = 2098} (omega arith))

  wide_bits :
      of_bits binary64 (cond s (2 ^ 63) 0 + ((e - 1) * 2 ^ 52 + q * 2 ^ 29)) ≡ of_bits binary32 (cond s (2 ^ 31) 0 + ((e - 897) * 2 ^ 23 + q))
  wide_bits =
      sym (units_bits binary64 s (q * 2 ^ 29) (e - 1) (omega arith, inr (omega arith)) wide_room)
      ∙ same_value binary64 (units binary64 s (q * 2 ^ 29) (e - 1)) (units binary32 s q (e - 897)) s
      (q * 2 ^ 29 * 2 ^ (e - 1)) (2 ^ 1074) (q * 2 ^ (e - 897)) (2 ^ 149)
      (units_fit binary64 s (q * 2 ^ 29) (e - 1) (omega arith) wide_room) (fits_widens _ (units_fit binary32 s q (e - 897) most room))
      (pow_pos 1074) (pow_pos 149) (shifts q 29 (e - 1) 149 (e - 897) 1074 (omega arith))
      (units_val binary64 s (q * 2 ^ 29) (e - 1) wide_room) (units_val binary32 s q (e - 897) room)
      ∙ units_bits binary32 s q (e - 897) (most, inr least) room

-- ---- the code's numbers

nan_case : (x : Float) → x ≡ nan → x ≡ narrow_of x
unfolding narrow_of
nan_case x e = e ∙ ap narrow_of (sym e)

pub returns-then-is_nan : goal.returns-then-is_nan
returns-then-is_nan c = nan_case c.args.x (is_nan_law c.args.x (by_test _ c.is_nan.ensures.value c.if-is_nan.true))

-- rounding does not see the digits above
above : (k m o : ℕ) → k * 2 ^ 29 + m + 268435455 + o - (k * 2 ^ 29 + m + 268435455 + o) % 2 ^ 29 ≡ k * 2 ^ 29 + (m + 268435455 + o) / 2 ^ 29 * 2 ^ 29
above k m o = omega arith

placed : (p e q s : ℕ) → p * 2 ^ 63 ≡ s → (p * 2 ^ 34 + e * 2 ^ 23) * 2 ^ 29 + q * 2 ^ 29 ≡ s + (e * 2 ^ 52 + q * 2 ^ 29)
placed p e q s h = omega arith

below : (p e q : ℕ) → e < 1150 → q ≤ 2 ^ 24 → ((p * 2 ^ 34 + (e - 1) * 2 ^ 23) * 2 ^ 29 + q * 2 ^ 29) % 2 ^ 63 ≤ 2047 * 2 ^ 52
below p e q h l = omega arith

module _ (b : ℕ) (few : 897 ≤ b % 2 ^ 63 / 2 ^ 52) (many : b % 2 ^ 63 / 2 ^ 52 < 1150) where
  -- the exponent's field and the digits
  abbrev E : ℕ
  E = b % 2 ^ 63 / 2 ^ 52

  abbrev M : ℕ
  M = b % 2 ^ 63 % 2 ^ 52 + 2 ^ 52

  -- what the code makes of the bits, before it clears
  abbrev R : ℕ
  R = b + 268435455 + b / 2 ^ 29 % 2

  same_digit : b / 2 ^ 29 % 2 ≡ M / 2 ^ 29 % 2
  same_digit = omega arith

  split : b ≡ (b / 2 ^ 63 * 2 ^ 34 + (E - 1) * 2 ^ 23) * 2 ^ 29 + M
  split = omega arith

  cleared : R - R % 2 ^ 29 ≡ (b / 2 ^ 63 * 2 ^ 34 + (E - 1) * 2 ^ 23) * 2 ^ 29 + closest M (2 ^ 29) * 2 ^ 29
  cleared =
      let k = b / 2 ^ 63 * 2 ^ 34 + (E - 1) * 2 ^ 23 in
      let e : R ≡ k * 2 ^ 29 + M + 268435455 + M / 2 ^ 29 % 2 = ap (λ (x : ℕ). x + 268435455 + b / 2 ^ 29 % 2) split ∙ ap (λ (x : ℕ). k * 2 ^ 29 + M + 268435455 + x) same_digit in
      ap (λ (x : ℕ). x - x % 2 ^ 29) e
      ∙ above k M (M / 2 ^ 29 % 2)
      ∙ ap (λ (x : ℕ). k * 2 ^ 29 + x * 2 ^ 29) (half_up M (2 ^ 28) (2 ^ 29) (lit≤ tt) refl)

  kept : (2 ^ 23 ≤ closest M (2 ^ 29)) × (closest M (2 ^ 29) ≤ 2 ^ 24)
  kept = (closest_ge 23 M 29 (omega arith), closest_le 24 M 29 (omega arith))

  pub no_pattern : T (not (nan_bits binary64 (R - R % 2 ^ 29)))
  no_pattern =
      no_nan_bits binary64 (R - R % 2 ^ 29)
      (subst (λ (n : ℕ). n % 2 ^ 63 ≤ 2047 * 2 ^ 52) (sym cleared) (below (b / 2 ^ 63) E (closest M (2 ^ 29)) many kept.1))

  signed : (s : Bool) → b / 2 ^ 63 * 2 ^ 63 ≡ cond s (2 ^ 63) 0 → of_bits binary64 (R - R % 2 ^ 29) ≡ narrow_of (of_bits binary64 b)
  signed s h =
      let q = closest M (2 ^ 29) in
      let e : (b / 2 ^ 63 * 2 ^ 34 + (E - 1) * 2 ^ 23) * 2 ^ 29 + q * 2 ^ 29 ≡ cond s (2 ^ 63) 0 + ((E - 1) * 2 ^ 52 + q * 2 ^ 29) =
      placed (b / 2 ^ 63) (E - 1) q (cond s (2 ^ 63) 0) h in
      let d : cond s (2 ^ 63) 0 + b % 2 ^ 63 ≡ b = omega arith in
      ap (of_bits binary64) (cleared ∙ e)
      ∙ wide_bits s E q few many kept.0 kept.1
      ∙ mid_case (b % 2 ^ 63) (omega arith) few (omega arith) s
      ∙ ap (λ (x : ℕ). narrow_of (of_bits binary64 x)) d

  pub number : b < 2 ^ 64 → of_bits binary64 (R - R % 2 ^ 29) ≡ narrow_of (of_bits binary64 b)
  number h = elim (dec_lt b (2 ^ 63)) [ yes l ↦ signed false (omega arith) | no l ↦ signed true (omega arith) ]

pub overflow_add-up : goal.overflow_add-up
overflow_add-up c = omega (arith, wide binary64 c.args.x c.well_formed.0.1)

pub overflow_add-up-2 : goal.overflow_add-up-2
overflow_add-up-2 c = omega (arith, wide binary64 c.args.x c.well_formed.0.1)

pub float_from_bits-result : goal.float_from_bits-result
float_from_bits-result c = no_pattern (to_bits binary64 c.args.x) (omega arith) (omega arith)

pub returns : goal.returns
returns c =
    let k = c in
    number (to_bits binary64 k.args.x) (omega arith) (omega arith) (wide binary64 k.args.x k.well_formed.0.1)
    ∙ ap narrow_of (read_back binary64 k.args.x k.well_formed.0.1)
