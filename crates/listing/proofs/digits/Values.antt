-- The decimals of a float by the fields of its bits, by way of its exact value; and the text of
-- some numbers, by computation. Assumes nothing.
use Rattle.std.proofs.Common.{◌≡◌, refl, sym, ap, subst, ◌∙◌, Bool, true, false, cond, List, ℕ, suc, ◌+◌, ◌-◌, ◌*◌, ◌/◌, ◌^◌, ◌≤◌, ◌<◌, mul-one, mul_comm, mul_assoc, mul-le-mul, mul-div_cancel, div-one, arith, lt-ltb, le-ltb, ne_eqb, ltb, length, length-append, pow_pos, pow-add, pow_mono, shl_lt, Float}
use native.Mathlib.Decide.{dec_lt}
use lib.Ieee.{nan, inf, fin, binary32, up, down, size, of_fields, of_bits}
use lib.Ieee.Digits.{size-lt, size-le}
use lib.Ieee.Exact.{HasValue, odd_sign}
use lib.Ieee.Fits.{down_pos}
use Rattle.base.proofs.verdicts.Picks.{cond_true, cond_false}
use Rattle.wording.specs.Token.{ascii}
use Rattle.listing.specs.Text.{digit_of, has_digit, digit_at, digits_below}
use Rattle.listing.specs.Decimal.{nearest_of, sign_text, leading_of, text_of, minus_of, scaled_text, large_text, sized_text, decimal_text}
use Rattle.listing.proofs.digits.Places.{at_most_20}
use Rattle.listing.proofs.digits.Quotients.{same_nearest, same_quotient, same_below}

-- ---- a fraction's text is the same however the fraction is written

across : (a k c : ℕ) → a * k * c ≡ a * c * k
across a k c = mul_assoc a k c ∙ ap (λ (x : ℕ). a * x) (mul_comm k c) ∙ sym (mul_assoc a c k)

module _ (s : Bool) (a c a' c' : ℕ) (h : 0 < c) (h' : 0 < c') (e : a * c' ≡ a' * c) where
  same_test : ltb a (2 ^ 24 * c) ≡ ltb a' (2 ^ 24 * c')
  same_test =
      elim (dec_lt a (2 ^ 24 * c)) [
        | yes l ↦ lt-ltb _ _ l ∙ sym (lt-ltb _ _ (same_below a c a' c' h h' e (2 ^ 24) l))
        | no l ↦
            le-ltb a (2 ^ 24 * c) (omega arith)
            ∙ sym
            (le-ltb a' (2 ^ 24 * c')
            (elim (dec_lt a' (2 ^ 24 * c')) [
              | yes q ↦ absurd (let w = same_below a' c' a c h' h (sym e) (2 ^ 24) q in omega arith)
              | no q ↦ omega arith
            ]))
      ]

  same_text : sized_text s a c ≡ sized_text s a' c'
  unfolding sized_text
  same_text =
      let m : nearest_of (a * 10 ^ 6) c ≡ nearest_of (a' * 10 ^ 6) c' =
      same_nearest (a * 10 ^ 6) c (a' * 10 ^ 6) c' h h' (across a (10 ^ 6) c' ∙ ap (λ (x : ℕ). x * 10 ^ 6) e ∙ sym (across a' (10 ^ 6) c)) in
      let q = same_quotient a c a' c' h h' e in
      λ i. cond (same_test i) (text_of (m i) s) (large_text s (q i))

pub by_value : (x : Float) (s : Bool) (a c : ℕ) → 0 < c → HasValue x s a c → decimal_text x ≡ sized_text s a c
unfolding decimal_text
by_value nan s a c h v = absurd v
by_value (inf t) s a c h v = absurd v
by_value (fin t m e) s a c h v =
    ap (λ (b : Bool). sized_text b (m * up e) (down e)) v.0 ∙ same_text s (m * up e) (down e) a c (down_pos e) h v.1

under : (a c : ℕ) → a < 2 ^ 24 → 0 < c → a < 2 ^ 24 * c
under a c h p = omega arith

-- ---- the exponent's field is 0

low_value : (s : Bool) (t : ℕ) → HasValue (of_fields binary32 s 0 t) s (t * 2 ^ 0) (2 ^ 149)
unfolding of_fields
low_value s t = odd_sign 24 s t 0 149

pub lowest : (s : Bool) (t : ℕ) → t < 2 ^ 23 → decimal_text (of_fields binary32 s 0 t) ≡ text_of (nearest_of (t * 10 ^ 6) (2 ^ 149)) s
unfolding sized_text
lowest s t h =
    by_value (of_fields binary32 s 0 t) s (t * 2 ^ 0) (2 ^ 149) (pow_pos 149) (low_value s t)
    ∙ ap (λ (a : ℕ). sized_text s a (2 ^ 149)) (mul-one t)
    ∙ cond_true _ _ (lt-ltb t (2 ^ 24 * 2 ^ 149) (under t (2 ^ 149) (omega arith) (pow_pos 149)))

-- ---- it is e

value : (s : Bool) (x t : ℕ) → suc x < 255 → HasValue (of_fields binary32 s (suc x) t) s ((2 ^ 23 + t) * 2 ^ x) (2 ^ 149)
unfolding of_fields
value s x t h =
    subst (λ (v : Float). HasValue v s ((2 ^ 23 + t) * 2 ^ x) (2 ^ 149)) (sym (cond_false _ _ (ne_eqb (suc x) 255 (λ q. omega arith)))) (odd_sign 24 s (2 ^ 23 + t) x 149)

module _ (s : Bool) (e t : ℕ) (h : t < 2 ^ 23) where
  abbrev q : ℕ
  q = 2 ^ 23 + t

  of_field : 0 < e → e < 255 → decimal_text (of_fields binary32 s e t) ≡ sized_text s (q * 2 ^ (e - 1)) (2 ^ 149)
  of_field p l =
      let k : e ≡ suc (e - 1) = omega arith in
      ap (λ (x : ℕ). decimal_text (of_fields binary32 s x t)) k
      ∙ by_value (of_fields binary32 s (suc (e - 1)) t) s (q * 2 ^ (e - 1)) (2 ^ 149) (pow_pos 149) (value s (e - 1) t (omega arith))

  pub middle : 0 < e → e ≤ 150 → decimal_text (of_fields binary32 s e t) ≡ text_of (nearest_of (q * 10 ^ 6) (2 ^ (150 - e))) s
  unfolding sized_text
  middle p l =
      let c = 2 ^ (150 - e) in
      let z = pow_pos (150 - e) in
      let w : e - 1 + (150 - e) ≡ 149 = omega arith in
      let g : q * 2 ^ (e - 1) * c ≡ q * 2 ^ 149 =
      mul_assoc q (2 ^ (e - 1)) c ∙ ap (λ (x : ℕ). q * x) (sym (pow-add 2 (e - 1) (150 - e)) ∙ ap (λ (x : ℕ). 2 ^ x) w) in
      of_field p (omega arith)
      ∙ same_text s (q * 2 ^ (e - 1)) (2 ^ 149) q c (pow_pos 149) z g
      ∙ cond_true _ _ (lt-ltb q (2 ^ 24 * c) (under q c (omega arith) z))

  -- a whole number of 24 + k binary digits
  module _ (k : ℕ) where
    from_below : 2 ^ (23 + k) ≤ q * 2 ^ k
    from_below = subst (λ (x : ℕ). x ≤ q * 2 ^ k) (sym (pow-add 2 23 k)) (mul-le-mul {m₁ = 2 ^ k} {m₂ = 2 ^ k} (omega arith) (omega arith))

    digits : size (q * 2 ^ k) ≡ 24 + k
    digits =
        let n = q * 2 ^ k in
        let a : size n ≤ 24 + k = size-le n (24 + k) (shl_lt 24 k (omega arith)) in
        elim (dec_lt (size n) (24 + k)) [
          | yes l ↦ absurd (let b = size-lt n in let m = pow_mono {i = size n} {j = 23 + k} (omega arith) in let f = from_below in omega arith)
          | no l ↦ omega arith
        ]

    highest : large_text s (q * 2 ^ k) ≡ scaled_text s q k
    unfolding large_text
    highest =
        let g : size (q * 2 ^ k) - 24 ≡ k = (let d = digits in omega arith) in
        ap (λ (j : ℕ). scaled_text s (q * 2 ^ k / 2 ^ j) j) g ∙ ap (λ (x : ℕ). scaled_text s x k) (mul-div_cancel q (pow_pos k))

  pub large : 150 < e → e < 255 → decimal_text (of_fields binary32 s e t) ≡ scaled_text s q (e - 150)
  unfolding sized_text
  large p l =
      let k = e - 150 in
      let w : k + 149 ≡ e - 1 = omega arith in
      let g : q * 2 ^ (e - 1) * 1 ≡ q * 2 ^ k * 2 ^ 149 =
      mul-one (q * 2 ^ (e - 1)) ∙ sym (mul_assoc q (2 ^ k) (2 ^ 149) ∙ ap (λ (x : ℕ). q * x) (sym (pow-add 2 k 149) ∙ ap (λ (x : ℕ). 2 ^ x) w)) in
      let m = pow_mono {i = 24} {j = 23 + k} (omega arith) in
      let f = from_below k in
      of_field (omega arith) l
      ∙ same_text s (q * 2 ^ (e - 1)) (2 ^ 149) (q * 2 ^ k) 1 (pow_pos 149) (omega arith) g
      ∙ cond_false _ _ (le-ltb (q * 2 ^ k) (2 ^ 24 * 1) (omega arith))
      ∙ ap (large_text s) (div-one (q * 2 ^ k))
      ∙ highest k

-- ---- it is the highest

pub no_number : (s : Bool) (t : ℕ) → 0 < t → decimal_text (of_fields binary32 s 255 t) ≡ ascii "             nan"
unfolding of_fields decimal_text
no_number s t h = ap decimal_text (cond_false _ _ (ne_eqb t 0 (λ q. omega arith)))

pub infinite : (s : Bool) → decimal_text (of_fields binary32 s 255 0) ≡ cond s (ascii "            -inf") (ascii "             inf")
unfolding of_fields decimal_text
infinite s = refl

-- ---- how long

pub length_minus : (s : Bool) → length (minus_of s) ≤ 1
unfolding minus_of
length_minus true = omega arith
length_minus false = omega arith

length_scaled : (s : Bool) (n k : ℕ) → length (scaled_text s n k) ≤ 44
unfolding scaled_text
length_scaled s n k =
    let a = length_minus s in
    let b = at_most_20 n in
    let d = at_most_20 k in
    simp length-append (omega arith)

length_text : (m : ℕ) (s : Bool) → length (text_of m s) ≤ 44
unfolding text_of
length_text m s = omega arith

pub either : (b : Bool) (x y : List ℕ) (n : ℕ) → length x ≤ n → length y ≤ n → length (cond b x y) ≤ n
either true x y n h k = h
either false x y n h k = k

length_large : (s : Bool) (n : ℕ) → length (large_text s n) ≤ 44
unfolding large_text
length_large s n = length_scaled s (n / 2 ^ (size n - 24)) (size n - 24)

length_sized : (s : Bool) (a c : ℕ) → length (sized_text s a c) ≤ 44
unfolding sized_text
length_sized s a c =
    let m = nearest_of (a * 10 ^ 6) c in
    either (ltb a (2 ^ 24 * c)) (text_of m s) (large_text s (a / c)) 44 (length_text m s) (length_large s (a / c))

pub length_decimal : (x : Float) → length (decimal_text x) ≤ 44
unfolding decimal_text
length_decimal nan = omega arith
length_decimal (inf s) = either s (ascii "            -inf") (ascii "             inf") 44 (omega arith) (omega arith)
length_decimal (fin s m e) = length_sized s (m * up e) (down e)

-- ---- by computation

-- 5 / 2 is 3, 9 / 4 is 2
halves : (nearest_of 5 2 ≡ 3) × (nearest_of 9 4 ≡ 2)
unfolding nearest_of
halves = (refl, refl)

-- 0, -102.340567.., 1/64, 2^24 - 1, -2^24, the largest
decimals :
    (decimal_text (of_bits binary32 0) ≡ ascii "        0.000000")
    × (decimal_text (of_bits binary32 0x80000000) ≡ ascii "       -0.000000")
    × (decimal_text (of_bits binary32 0xc2ccae5f) ≡ ascii "     -102.340569")
    × (decimal_text (of_bits binary32 0x4b7fffff) ≡ ascii " 16777215.000000")
    × (decimal_text (of_bits binary32 0xcb800000) ≡ ascii "-8388608*2^1")
    × (decimal_text (of_bits binary32 0x7f7fffff) ≡ ascii "16777215*2^104")
    × (decimal_text (of_bits binary32 0xff800000) ≡ ascii "            -inf")
    × (decimal_text nan ≡ ascii "             nan")
unfolding decimal_text sized_text large_text scaled_text minus_of text_of leading_of sign_text nearest_of has_digit digit_of digits_below digit_at of_bits size
decimals = (refl, refl, refl, refl, refl, refl, refl, refl)
