-- Of an `f32` the root rounded to an `f64`, and that rounded to an `f32`, is the root rounded to an
-- `f32` at once: `sqrt_narrow`. In units of the `f32`'s last digit the root is √a, for a whole
-- number a. The `f64` has 29 digits more, and keeps the whole number Q that is nearest to √a * 2 ^
-- 29. The middle of q and q + 1 has the square q * q + q + 1 / 4, and a is a whole number, so √a is
-- not so close to the middle that Q could reach it, or pass it (`same_side`). Assumes nothing.
use Rattle.std.proofs.Common.{◌≡◌, ℕ, zero, suc, ◌+◌, ◌-◌, ◌*◌, ◌/◌, ◌%◌, ◌^◌, ◌<◌, ◌≤◌, Bool, true, false, T, ◌⊎◌, ℤ, sym, refl, ap, ◌∙◌, subst, inl, inr, zero-le, zero-lt-suc, mul_assoc, mul-le-mul, lt_of_not-le, zero-mul, mul-one, mul_right_comm, arith, lt→ltb, pow_pos, pow-add, Float}
use native.Mathlib.Nat.{mul-mul-mul_comm}
use lib.Ieee.{nan, inf, fin, binary32, binary64, up, down, round, units, fits}
use lib.Ieee.Fits.{round-fits}
use lib.Ieee.Exact.{HasValue}
use lib.Ieee.Nearest.{closest}
use lib.Ieee.Back.{round_whole, whole_unique}
use lib.Ieee.Positive.{num, den, positive}
use Rattle.base.specs.Number.{narrow_of, closest_root, sqrt_of}
use Rattle.base.proofs.rounding.Rounding.{shifts, round_units}
use Rattle.base.proofs.rounding.Halves.{nearest_below, nearest_above}
use Rattle.base.proofs.rounding.Narrowing.{narrow_val}
use Rattle.base.proofs.roots.NearestRoot.{le_or_lt, Near, closest_near, Scaled, scaled, sqrt_units, root_value}

-- ---- a nearest number is on the root's side of each middle: b * b + b is (b + 1 / 2) ^ 2 less a
-- quarter
near_le : (a q b : ℕ) → Near a q → a ≤ b * b + b → q ≤ b
near_le a zero b n h = zero-le
near_le a (suc c) b n h = lt_of_not-le (λ (g : b ≤ c). let m = mul-le-mul g g in let l = n.0 in omega arith)

near_ge : (a q b : ℕ) → Near a q → b * b < a + b → b ≤ q
near_ge a q zero n h = zero-le
near_ge a q (suc c) n h = lt_of_not-le (λ (g : q ≤ c). let m = mul-le-mul g g in let l = n.1 in omega arith)

-- ---- so 29 digits more do not cross the middle
module _ (a q Q : ℕ) (L : 0 < q) (H : q ≤ 2 ^ 24) (n : Near a q) (N : Near (a * 2 ^ 58) Q) where
  below_middle : Q < q * 2 ^ 29 + 2 ^ 28
  below_middle = let h = n.1 in omega (arith, near_le (a * 2 ^ 58) Q (q * 2 ^ 29 + (2 ^ 28 - 1)) N (omega arith))

  above_middle : q * 2 ^ 29 < Q + 2 ^ 28
  above_middle =
      let c = q - 1 in
      let e : q ≡ c + 1 = omega arith in
      let h : (c + 1) * (c + 1) < a + (c + 1) = subst (λ (x : ℕ). x * x < a + x) e n.0 in
      omega (arith, near_ge (a * 2 ^ 58) Q (c * 2 ^ 29 + (2 ^ 28 + 1)) N (omega arith))

  same_side : closest Q (2 ^ 29) ≡ q
  same_side = go (le_or_lt (q * 2 ^ 29) Q)
    where
      go : (q * 2 ^ 29 ≤ Q) ⊎ (Q < q * 2 ^ 29) → closest Q (2 ^ 29) ≡ q
      go (inl l) = nearest_below (Q / 2 ^ 29) (Q % 2 ^ 29 * 2) (2 ^ 29) (omega (arith, below_middle)) ∙ omega (arith, below_middle)
      go (inr l) = nearest_above (Q / 2 ^ 29) (Q % 2 ^ 29 * 2) (2 ^ 29) (omega (arith, above_middle)) ∙ omega (arith, above_middle)

-- how many digits the two nearest numbers have: the wider is no power of two that it was rounded up
-- to
module _ (a : ℕ) (l : 2 ^ 46 ≤ a) (h : a < 2 ^ 48) where
  narrow_digits : (q : ℕ) → Near a q → (0 < q) × (q ≤ 2 ^ 24)
  narrow_digits q n = (near_ge a q 1 n (omega arith), near_le a q (2 ^ 24) n (omega arith))

  wide_digits : (Q : ℕ) → Near (a * 2 ^ 58) Q → (Q < 2 ^ 53) × (2 ^ 52 ≤ Q)
  wide_digits Q N = (omega (arith, near_le (a * 2 ^ 58) Q (2 ^ 53 - 1) N (omega arith)), near_ge (a * 2 ^ 58) Q (2 ^ 52) N (omega arith))

-- ---- the two roots of a positive `f32`: an `f64`'s unit is 2 ^ 925 times as small, 29 of these
-- digits go to a and 896 to k
double : (x : Float) → Scaled binary32 x → Scaled binary64 x
double x s =
    let a = s.a in
    let k = s.k in
    let e : a * 4 ^ k * 4 ^ 925 ≡ a * 2 ^ 58 * 4 ^ (k + 896) = mul-mul-mul_comm a (4 ^ k) (2 ^ 58) (4 ^ 896) ∙ ap (λ (y : ℕ). a * 2 ^ 58 * y) (sym (pow-add 4 k 896)) in
    record {
      a = a * 2 ^ 58;
      k = k + 896;
      value = sym (mul_assoc (num x) (4 ^ 149) (4 ^ 925)) ∙ ap (λ (y : ℕ). y * 4 ^ 925) s.value ∙ mul_right_comm (a * 4 ^ k) (den x) (4 ^ 925) ∙ ap (λ (y : ℕ). y * den x) e;
      least = let h = s.least in omega arith;
      most = let h = s.most in omega arith;
      room = let h = s.room in omega arith;
    }

positive_root : (x : Float) → T (fits binary32 x) → T (positive x) → narrow_of (sqrt_of binary64 x) ≡ sqrt_of binary32 x
unfolding double
positive_root x t p =
    let s = scaled binary32 x t p in
    let a = s.a in
    let k = s.k in
    let d = double x s in
    let l = s.least in
    let h = s.most in
    let q = closest_root a 1 in
    let Q = closest_root (a * 2 ^ 58) 1 in
    let n : Near a q = closest_near a (omega arith) in
    let N : Near (a * 2 ^ 58) Q = closest_near (a * 2 ^ 58) (omega arith) in
    let o = narrow_digits a l h q n in
    let w = wide_digits a l h Q N in
    ap narrow_of (sqrt_units binary64 x p d)
    ∙ narrow_val (units binary64 false Q (k + 896)) false (Q * 2 ^ (k + 896)) (2 ^ 1074) (pow_pos 1074) (root_value binary64 x d)
    ∙ round_units binary32 false (Q * 2 ^ (k + 896)) (2 ^ 1074) Q 29 k (pow_pos 1074) (shifts Q (k + 896) 149 29 k 1074 (omega arith)) (w.0, inr w.1)
    ∙ ap (λ (y : ℕ). units binary32 false y k) (same_side a q Q o.0 o.1 n N)
    ∙ sym (sqrt_units binary32 x p s)

-- ---- and of any other `f32`
zero_root : (s : Bool) (e : ℤ) → T (fits binary32 (fin s zero e)) → narrow_of (fin s zero e) ≡ fin s zero e
zero_root s e t =
    let v : HasValue (fin s zero e) s 0 1 = (refl, mul-one (0 * up e) ∙ zero-mul (up e) ∙ sym (zero-mul (down e))) in
    narrow_val (fin s zero e) s 0 1 (pow_pos 0) v
    ∙ whole_unique binary32 (round binary32 s 0 1) (fin s zero e) s 0 (round-fits binary32 s 0 1) t (round_whole binary32 s 0 zero-le) v

pub sqrt_narrow : (x : Float) → T (fits binary32 x) → narrow_of (sqrt_of binary64 x) ≡ sqrt_of binary32 x
unfolding narrow_of sqrt_of
sqrt_narrow nan t = refl
sqrt_narrow (inf true) t = refl
sqrt_narrow (inf false) t = refl
sqrt_narrow (fin s zero e) t = zero_root s e t
sqrt_narrow (fin true (suc m) e) t = refl
sqrt_narrow (fin false (suc m) e) t = positive_root (fin false (suc m) e) t (lt→ltb 0 (suc m) (zero-lt-suc m))
