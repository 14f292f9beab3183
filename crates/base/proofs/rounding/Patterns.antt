-- What a float that is no NaN, and a bit pattern that is no NaN's, tell of each other. Assumes
-- nothing.
use Rattle.std.proofs.Common.{◌≡◌, ℕ, zero, suc, ◌+◌, ◌-◌, ◌*◌, ◌/◌, ◌%◌, ◌^◌, ◌<◌, ◌≤◌, Bool, true, false, cond, not, T, leb, ℤ, pos, sym, refl, ap, ◌∙◌, subst, inl, inr, le_trans, add_assoc, mod-eq_of_lt, zero-lt-suc, eq-zero-or-pos, mul-pos, zero-add, zero-mul, arith, le→leb, nltb→le, Float}
use native.Mathlib.Nat.{zero-div, add-mod_left, mod-le}
use lib.Dec.{not_T}
use lib.Arith.{le→nltb, lt→nleb}
use lib.Ieee.{nan, inf, fin, Format, binary32, binary64, prec, low, up, down, size, div, neg, le, ne, fits, is_nan, hid, ones, top, nan_bits, of_bits, to_bits}
use lib.Ieee.Fits.{inf-fits, up_pos}
use lib.Ieee.Compare.{differs_from_itself, nan_differs}
use lib.Ieee.Bits.{is_true, is_false, of_bits-to_bits, to_bits-lt, nan_bits_is, nan_bits_above}
use Rattle.base.specs.Number.{negative, abs_of}
use Rattle.base.proofs.order.Order.{nought, le→cross, cross→le}

-- the test `x != x`
pub is_nan_law : (x : Float) → ne x x ≡ true → x ≡ nan
is_nan_law x e = differs_from_itself x (subst T (sym e) tt)

pub no_nan : (x : Float) → ne x x ≡ false → T (not (is_nan x))
unfolding is_nan
no_nan nan e = absurd (subst T (sym nan_differs ∙ e) tt)
no_nan (inf s) e = tt
no_nan (fin s m d) e = tt

-- the magnitude's bits of a float that is no NaN
pub magnitude_le : (f : Format) (x : Float) → T (fits f x) → T (not (is_nan x)) → to_bits f x % top f ≤ ones f * hid f
magnitude_le f x h n =
    nltb→le (ones f * hid f) (to_bits f x % top f) (subst (λ (b : Bool). T (not b)) (sym (ap is_nan (of_bits-to_bits f x h)) ∙ sym (nan_bits_is f (to_bits f x)) ∙ nan_bits_above f (to_bits f x)) n)

pub no_nan_bits : (f : Format) (n : ℕ) → n % top f ≤ ones f * hid f → T (not (nan_bits f n))
no_nan_bits f n h = subst (λ (b : Bool). T (not b)) (sym (nan_bits_above f n)) (le→nltb (ones f * hid f) (n % top f) h)

-- ---- the bits without the sign: those of the size
module _ (f : Format) (n : ℕ) (h : top f + n < 2 * top f) where
  signless : n < top f
  signless = omega arith

  signless_bits : (s : Bool) → (cond s (top f) 0 + n) % top f ≡ n
  signless_bits true = add-mod_left (top f) n ∙ mod-eq_of_lt signless
  signless_bits false = ap (λ (x : ℕ). x % top f) (zero-add n) ∙ mod-eq_of_lt signless

-- the digits' and the exponent's bits of a finite number
abbrev body : Format → ℕ → ℤ → ℕ
body f m e = let n = m * up e * 2 ^ low f / down e in let k = size n - prec f in k * hid f + n / 2 ^ k

split : (f : Format) (s : Bool) (m : ℕ) (e : ℤ) → to_bits f (fin s m e) ≡ cond s (top f) 0 + body f m e
unfolding to_bits
split f s m e = add_assoc (cond s (top f) 0) _ _

fits_either : (f : Format) (s t : Bool) (m : ℕ) (e : ℤ) → T (fits f (fin s m e)) → T (fits f (fin t m e))
unfolding fits
fits_either f s t zero e h = h
fits_either f s t (suc m) e h = h

body_lt : (f : Format) (s : Bool) (m : ℕ) (e : ℤ) → T (fits f (fin s m e)) → top f + body f m e < 2 * top f
body_lt f s m e h = subst (λ (b : ℕ). b < 2 * top f) (split f true m e) (to_bits-lt f (fin true m e) (fits_either f s true m e h))

-- the bits of a size, under either sign
module _ (f : Format) (s t : Bool) where
  signed_fin : (m : ℕ) (e : ℤ) → T (fits f (fin s m e)) → of_bits f (cond t (top f) 0 + to_bits f (fin s m e) % top f) ≡ fin t m e
  signed_fin m e h =
      let rest : to_bits f (fin s m e) % top f ≡ body f m e = ap (λ (b : ℕ). b % top f) (split f s m e) ∙ signless_bits f (body f m e) (body_lt f s m e h) s in
      ap (of_bits f) (ap (λ (b : ℕ). cond t (top f) 0 + b) rest ∙ sym (split f t m e)) ∙ of_bits-to_bits f (fin t m e) (fits_either f s t m e h)

  signed_inf : of_bits f (cond t (top f) 0 + to_bits f (inf s) % top f) ≡ inf t
  unfolding to_bits
  signed_inf =
      let l : top f + ones f * hid f < 2 * top f = to_bits-lt f (inf true) (inf-fits f true) in
      ap (λ (b : ℕ). of_bits f (cond t (top f) 0 + b)) (signless_bits f (ones f * hid f) l s) ∙ of_bits-to_bits f (inf t) (inf-fits f t)

pub signed_size : (f : Format) (t : Bool) (x : Float) → T (fits f x) → T (not (is_nan x)) → of_bits f (cond t (top f) 0 + to_bits f x % top f) ≡ cond t (neg (abs_of x)) (abs_of x)
unfolding abs_of negative neg is_nan
signed_size f t nan h n = absurd n
signed_size f true (inf true) h n = signed_inf f true true
signed_size f true (inf false) h n = signed_inf f false true
signed_size f true (fin true m e) h n = signed_fin f true true m e h
signed_size f true (fin false m e) h n = signed_fin f false true m e h
signed_size f false (inf true) h n = signed_inf f true false
signed_size f false (inf false) h n = signed_inf f false false
signed_size f false (fin true m e) h n = signed_fin f true false m e h
signed_size f false (fin false m e) h n = signed_fin f false false m e h

pub abs_bits : (f : Format) (x : Float) → T (fits f x) → T (not (is_nan x)) → of_bits f (to_bits f x % top f) ≡ abs_of x
abs_bits f x h n = ap (of_bits f) (sym (zero-add (to_bits f x % top f))) ∙ signed_size f false x h n

pub abs_nan : (x : Float) → x ≡ nan → x ≡ abs_of x
unfolding abs_of negative
abs_nan x e = e ∙ ap abs_of (sym e)

pub abs_no_nan : (f : Format) (x : Float) → T (fits f x) → T (not (is_nan x)) → T (not (nan_bits f (to_bits f x % top f)))
abs_no_nan f x h n = no_nan_bits f (to_bits f x % top f) (le_trans (mod-le (to_bits f x % top f) (top f)) (magnitude_le f x h n))

-- ---- not below zero: the bits are at most those of -0
no_digits : (f : Format) → (size 0 - prec f) * hid f + 0 / 2 ^ (size 0 - prec f) ≡ 0
unfolding size
no_digits binary32 = refl
no_digits binary64 = refl

body_zero : (f : Format) (e : ℤ) → body f 0 e ≡ 0
body_zero f e = ap (λ (n : ℕ). (size n - prec f) * hid f + n / 2 ^ (size n - prec f)) none ∙ no_digits f
  where
    none : 0 * up e * 2 ^ low f / down e ≡ 0
    none = ap (λ (n : ℕ). n * 2 ^ low f / down e) (zero-mul (up e)) ∙ ap (λ (n : ℕ). n / down e) (zero-mul (2 ^ low f)) ∙ zero-div (down e)

minus_zero : (f : Format) → of_bits f (top f + 0) ≡ fin true 0 (pos 0)
unfolding of_bits
minus_zero binary32 = refl
minus_zero binary64 = refl

body_pos : (f : Format) (m : ℕ) (e : ℤ) → T (fits f (fin true (suc m) e)) → 0 < body f (suc m) e
body_pos f m e h = elim (eq-zero-or-pos (body f (suc m) e)) [
  | inl z ↦ absurd (subst (λ (x : Float). T (is_zero x)) (sym (minus_zero f) ∙ ap (of_bits f) (sym (split f true (suc m) e ∙ ap (λ (b : ℕ). top f + b) z)) ∙ of_bits-to_bits f (fin true (suc m) e) h) tt)
  | inr p ↦ p
]
  where
    is_zero : Float → Bool
    is_zero nan = false
    is_zero (inf s) = false
    is_zero (fin s zero d) = true
    is_zero (fin s (suc k) d) = false

inf_not_below : (f : Format) (s : Bool) → le nought (inf s) ≡ leb (to_bits f (inf s)) (top f)
unfolding le to_bits
inf_not_below binary32 true = refl
inf_not_below binary32 false = refl
inf_not_below binary64 true = refl
inf_not_below binary64 false = refl

pub not_below_bits : (f : Format) (x : Float) → T (fits f x) → T (not (is_nan x)) → le nought x ≡ leb (to_bits f x) (top f)
unfolding is_nan
not_below_bits f nan h n = absurd n
not_below_bits f (inf s) h n = inf_not_below f s
not_below_bits f (fin false m e) h n =
    is_true (le nought (fin false m e)) (cross→le nought (fin false m e) tt tt (omega (arith, zero-mul (down e))))
    ∙ sym (is_true (leb (to_bits f (fin false m e)) (top f)) (subst (λ (b : ℕ). T (leb b (top f))) (sym (split f false m e)) (le→leb (0 + body f m e) (top f) (omega (arith, body_lt f false m e h)))))
not_below_bits f (fin true zero e) h n =
    is_true (le nought (fin true 0 e)) (cross→le nought (fin true 0 e) tt tt (omega (arith, zero-mul (down e), zero-mul (up e))))
    ∙ sym (is_true (leb (to_bits f (fin true 0 e)) (top f)) (subst (λ (b : ℕ). T (leb b (top f))) (sym (split f true 0 e)) (le→leb (top f + body f 0 e) (top f) (omega (arith, body_zero f e)))))
not_below_bits f (fin true (suc m) e) h n =
    is_false (le nought (fin true (suc m) e)) (not_T (le nought (fin true (suc m) e)) (λ t. omega (arith, le→cross nought (fin true (suc m) e) tt tt t, zero-mul (down e), mul-pos (zero-lt-suc m) (up_pos e))))
    ∙ sym (is_false (leb (to_bits f (fin true (suc m) e)) (top f)) (subst (λ (b : ℕ). T (not (leb b (top f)))) (sym (split f true (suc m) e)) (lt→nleb (top f + body f (suc m) e) (top f) (omega (arith, body_pos f m e h)))))

-- ---- what owning a float tells of its bits
module _ (f : Format) (x : Float) (own : fits f x ≡ true) where
  pub held : T (fits f x)
  held = subst T (sym own) tt

  pub wide : to_bits f x < 2 * top f
  wide = to_bits-lt f x held

  pub read_back : of_bits f (to_bits f x) ≡ x
  read_back = of_bits-to_bits f x held

  pub by_bits : (n : ℕ) → to_bits f x ≡ n → x ≡ of_bits f n
  by_bits n e = sym read_back ∙ ap (of_bits f) e

  pub capped : ne x x ≡ false → to_bits f x % top f ≤ ones f * hid f
  capped e = magnitude_le f x held (no_nan x e)
