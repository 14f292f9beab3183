-- The decimal digits of a whole number, place by place, and how many there are at most. Assumes
-- nothing.
use Rattle.std.proofs.Common.{◌≡◌, refl, ap, ◌∙◌, Bool, true, false, cond, List, [], ◌∷◌, ◌++◌, ℕ, zero, suc, ◌-◌, ◌^◌, ◌≤◌, ◌<◌, arith, ne_eqb, ltb, length, length-append}
use native.Mathlib.Nat.{div-eq_of_lt, pow-le-pow_right}
use native.Mathlib.Decide.{dec_lt}
use Rattle.base.proofs.verdicts.Picks.{cond_false}
use Rattle.wording.specs.Token.{ascii}
use Rattle.listing.specs.Text.{digit_of, has_digit, digit_at, digits_below, decimal_of}

pub next_place : (n k : ℕ) → 0 < k → digits_below n k ≡ digit_at n (k - 1) ++ digits_below n (k - 1)
unfolding digits_below
next_place n k h =
    let e : k ≡ suc (k - 1) = omega arith in
    ap (digits_below n) e

pub no_place : (n k : ℕ) → k ≡ 0 → digits_below n k ≡ []
unfolding digits_below
no_place n k e = ap (digits_below n) e

-- ---- how many

one_or_none : (b : Bool) (d : ℕ) → length (cond b (d ∷ []) []) ≤ 1
one_or_none true d = omega arith
one_or_none false d = omega arith

length_places : (n k : ℕ) → length (digits_below n k) ≤ k
unfolding digits_below digit_at
length_places n zero = omega arith
length_places n (suc k) =
    let a = one_or_none (has_digit n k) (digit_of n k) in
    let b = length_places n k in
    omega (arith, length-append (digit_at n k) (digits_below n k))

pub at_most_20 : (n : ℕ) → length (decimal_of n) ≤ 20
at_most_20 n = length_places n 20

-- a place above the highest digit
no_digit : (n k : ℕ) → 0 < k → n < 10 ^ k → digit_at n k ≡ []
unfolding digit_at has_digit
no_digit n k h l =
    cond_false _ _ (cond_false _ _ (ne_eqb k 0 (λ e. omega arith)) ∙ ap (λ (q : ℕ). ltb 0 q) (div-eq_of_lt l))

no_more : (n j k : ℕ) → 0 < j → n < 10 ^ j → j ≤ k → length (digits_below n k) ≤ j
unfolding digits_below
no_more n j zero p h l = absurd (omega arith)
no_more n j (suc k) p h l =
    elim (dec_lt k j) [
      | yes q ↦ (let a = length_places n (suc k) in omega arith)
      | no q ↦
          let m : 10 ^ j ≤ 10 ^ k = pow-le-pow_right (omega arith) (omega arith) in
          let e = no_digit n k (omega arith) (omega arith) in
          let a = no_more n j k p h (omega arith) in
          omega (arith, ap (λ (d : List ℕ). length (d ++ digits_below n k)) e)
    ]

pub at_most_10 : (n : ℕ) → n < 2 ^ 32 → length (decimal_of n) ≤ 10
at_most_10 n h = no_more n 10 20 (omega arith) (omega arith) (omega arith)

-- ---- by computation

numbers : (decimal_of 0 ≡ ascii "0") × (decimal_of 38548 ≡ ascii "38548") × (decimal_of 18446744073709551615 ≡ ascii "18446744073709551615")
unfolding digits_below digit_at has_digit digit_of
numbers = (refl, refl, refl)
