-- The bit pattern of a rounded root, from whole numbers that a program can hold. Assumes nothing.
use Rattle.std.proofs.Common.{◌≡◌, ℕ, zero, suc, ◌+◌, ◌-◌, ◌*◌, ◌/◌, ◌%◌, ◌^◌, ◌<◌, ◌≤◌, true, false, sym, refl, ap, ◌∙◌, subst, inr, true≢false, le_trans, le_of_eq, lt_of_lt_of_le, lt_of_le_of_lt, lt_irrefl, mul-le-mul_right, mul_assoc, mul_comm, mul-le-mul_left, mul-lt-mul_of_pos_right, mul-pos, pow-suc, zero-add, zero-mul, mul-one, mul_right_comm, mul-div_cancel, sub-le, arith, pow_pos, pow-add}
use native.Mathlib.Nat.{mul-mul-mul_comm}
use lib.Pow.{pow-lt}
use lib.Ieee.{Float, nan, inf, fin, Format, binary64, prec, emax, low, hid, up, down, size, units, of_bits}
use lib.Ieee.Digits.{size-le}
use lib.Ieee.Fits.{down_pos}
use lib.Ieee.Exact.{HasValue}
use Rattle.base.specs.Number.{root, closest_root, rounded, sqrt_of}
use Rattle.base.proofs.rounding.Rounding.{shifts, tail, prec_tail, size_gt, just, units_bits}
use Rattle.base.proofs.roots.Roots.{root_ge, root_lt, closest_root_le, closest_root_ge, closest_root_scale}

pub four : (k : ℕ) → 4 ^ k ≡ 2 ^ k * 2 ^ k
four zero = refl
four (suc k) = pow-suc 4 k ∙ ap (λ (x : ℕ). x * 4) (four k) ∙ mul-mul-mul_comm (2 ^ k) (2 ^ k) 2 2 ∙ ap (λ (x : ℕ). x * x) (sym (pow-suc 2 k))

-- ---- a root of a has suc p digits, so one of a * 4 ^ k has k more
module _ (p a k : ℕ) (lo : 2 ^ p * 2 ^ p ≤ a) (hi : a < 2 ^ suc p * 2 ^ suc p) where
  square : (i : ℕ) → 2 ^ (i + k) * 2 ^ (i + k) ≡ 2 ^ i * 2 ^ i * 4 ^ k
  square i = ap (λ (x : ℕ). x * x) (pow-add 2 i k) ∙ mul-mul-mul_comm (2 ^ i) (2 ^ k) (2 ^ i) (2 ^ k) ∙ ap (λ (x : ℕ). 2 ^ i * 2 ^ i * x) (sym (four k))

  four_pos : 0 < 4 ^ k
  four_pos = subst (λ (x : ℕ). 0 < x) (sym (four k)) (mul-pos (pow_pos k) (pow_pos k))

  root_drop : size (root (a * 4 ^ k)) - suc p ≡ k
  root_drop =
      let r = root (a * 4 ^ k) in
      let l : 2 ^ (p + k) ≤ r = root_ge (a * 4 ^ k) (2 ^ (p + k)) (le_trans (le_of_eq (square p)) (mul-le-mul_right (4 ^ k) lo)) in
      let h : r < 2 ^ (suc p + k) = root_lt (a * 4 ^ k) (2 ^ (suc p + k)) (lt_of_lt_of_le (mul-lt-mul_of_pos_right hi four_pos) (le_of_eq (sym (square (suc p))))) in
      just (size r) p k (size-le r (suc p + k) h) (size_gt r (p + k) l)

module _ (f : Format) (n c a k : ℕ) (C : 0 < c) (h : n * 4 ^ low f ≡ a * 4 ^ k * c) (lo : 2 ^ tail f * 2 ^ tail f ≤ a) (hi : a < 2 ^ suc (tail f) * 2 ^ suc (tail f)) where
  pub rounded_units : rounded f n c ≡ units f false (closest_root a 1) k
  unfolding rounded
  rounded_units =
      let w = n * 4 ^ low f in
      let e1 : size (root (w / c)) - prec f ≡ k = ap (λ (x : ℕ). size (root (x / c)) - prec f) h ∙ ap (λ (x : ℕ). size (root x) - prec f) (mul-div_cancel (a * 4 ^ k) C) ∙ ap (λ (x : ℕ). size (root (a * 4 ^ k)) - x) (prec_tail f) ∙ root_drop (tail f) a k lo hi in
      let e2 : w ≡ a * (c * 4 ^ k) = h ∙ mul_assoc a (4 ^ k) c ∙ ap (λ (x : ℕ). a * x) (mul_comm (4 ^ k) c) in
      ap (λ (j : ℕ). units f false (closest_root w (c * 4 ^ j)) j) e1
      ∙ ap (λ (x : ℕ). units f false (closest_root x (c * 4 ^ k)) k) e2
      ∙ ap (λ (x : ℕ). units f false x k) (closest_root_scale a (c * 4 ^ k) (mul-pos C (four_pos (tail f) a k lo hi)))

  pub rounded_bits : prec f + k < low f + suc (emax f) → rounded f n c ≡ of_bits f (k * hid f + closest_root a 1)
  rounded_bits g =
      let q = closest_root a 1 in
      let l : q ≤ 2 ^ suc (tail f) = closest_root_le a (suc (tail f)) hi in
      let o : q * 2 ^ k < 2 ^ (low f + suc (emax f)) = lt_of_le_of_lt (mul-le-mul_right (2 ^ k) (subst (λ (p : ℕ). q ≤ 2 ^ p) (sym (prec_tail f)) l)) (lt_of_le_of_lt (le_of_eq (sym (pow-add 2 (prec f) k))) (pow-lt g)) in
      rounded_units ∙ units_bits f false q k (l, inr (closest_root_ge a (2 ^ tail f) lo)) o ∙ ap (of_bits f) (zero-add (k * hid f + q))

-- ---- `sqrt_of`, of a value that is not zero
sqrt_val : (v : Float) (w a k : ℕ) → HasValue v false w (2 ^ 1074) → 0 < w → w * 2 ^ 1074 ≡ a * 4 ^ k → 2 ^ 52 * 2 ^ 52 ≤ a → a < 2 ^ 53 * 2 ^ 53 → k < 2045
    → sqrt_of binary64 v ≡ of_bits binary64 (k * 2 ^ 52 + closest_root a 1)
unfolding sqrt_of
sqrt_val nan w a k h W e lo hi K = absurd h
sqrt_val (inf s) w a k h W e lo hi K = absurd h
sqrt_val (fin s zero d) w a k h W e lo hi K = absurd (lt_irrefl 0 (subst (λ (x : ℕ). 0 < x) (sym h.1 ∙ ap (λ (x : ℕ). x * 2 ^ 1074) (zero-mul (up d))) (mul-pos W (down_pos d))))
sqrt_val (fin true (suc m) d) w a k h W e lo hi K = absurd (true≢false h.0)
sqrt_val (fin false (suc m) d) w a k h W e lo hi K =
    rounded_bits binary64 (suc m * up d) (down d) a k (down_pos d)
    (sym (mul_assoc (suc m * up d) (2 ^ 1074) (2 ^ 1074)) ∙ ap (λ (x : ℕ). x * 2 ^ 1074) h.1 ∙ mul_right_comm w (down d) (2 ^ 1074) ∙ ap (λ (x : ℕ). x * down d) e) lo hi (omega arith)

-- ---- the two ways to shift, by the exponent's parity
scale : (m f k o : ℕ) → k + k ≡ f + o → o < 2 → m * 2 ^ (f + 53) ≡ m * (2 - o) * 2 ^ 52 * 4 ^ k
scale m f k zero e h =
    sym (mul-one (m * 2 ^ (f + 53))) ∙ sym (shifts m 1 52 (k + k) (f + 53) 0 (omega arith)) ∙ ap (λ (x : ℕ). m * 2 * 2 ^ 52 * x) (pow-add 2 k k ∙ sym (four k))
scale m f k (suc zero) e h =
    sym (mul-one (m * 2 ^ (f + 53))) ∙ sym (shifts m 0 52 (k + k) (f + 53) 0 (omega arith)) ∙ ap (λ (x : ℕ). m * 1 * 2 ^ 52 * x) (pow-add 2 k k ∙ sym (four k))
scale m f k (suc (suc o)) e h = absurd (omega arith)

pub at_least : (m o : ℕ) → o < 2 → m ≤ m * (2 - o)
at_least m o h = le_trans (le_of_eq (sym (mul-one m))) (mul-le-mul_left m (omega arith))

pub at_most : (m o : ℕ) → m * (2 - o) ≤ m * 2
at_most m o = mul-le-mul_left m (sub-le 2 o)

pub root_small : (m o : ℕ) → m < 2 ^ 53 → closest_root (m * (2 - o) * 2 ^ 52) 1 ≤ 2 ^ 53
root_small m o h = closest_root_le (m * (2 - o) * 2 ^ 52) 53 (omega (arith, at_most m o))

pub root_pattern : (v : Float) (w m f : ℕ) → HasValue v false w (2 ^ 1074) → 0 < w → w * 2 ^ 1074 ≡ m * 2 ^ (f + 53) → 2 ^ 52 ≤ m → m < 2 ^ 53 → f < 3072
    → sqrt_of binary64 v ≡ of_bits binary64 ((f + f % 2) / 2 * 2 ^ 52 + closest_root (m * (2 - f % 2) * 2 ^ 52) 1)
root_pattern v w m f h W e lo hi F =
    let k = (f + f % 2) / 2 in
    sqrt_val v w (m * (2 - f % 2) * 2 ^ 52) k h W (e ∙ scale m f k (f % 2) (omega arith) (omega arith)) (omega (arith, at_least m (f % 2) (omega arith))) (omega (arith, at_most m (f % 2))) (omega arith)
