-- The digits of a text as wording reads them: all of them are digits, one is there, and their value
-- is the number, place by place from the highest. Assumes nothing.
use Rattle.std.proofs.Common.{◌≡◌, refl, sym, ap, ◌∙◌, Bool, true, false, cond, List, [], ◌∷◌, ◌++◌, ℕ, zero, suc, ◌+◌, ◌-◌, ◌*◌, ◌/◌, ◌%◌, ◌^◌, ◌<◌, pow-suc, arith, le-leb, ltb-false, eqb, ltb, length, length-append}
use native.Mathlib.Nat.{div-eq_of_lt, div-div-eq-div-mul}
use Rattle.base.proofs.ladder.Ladders.{and_true, and_left, and_right}
use Rattle.base.proofs.verdicts.Picks.{never'}
use Rattle.wording.specs.Number.{is_digit, all_digits, value_from}
use Rattle.listing.specs.Text.{digit_of, has_digit, digit_at, digits_below, decimal_of}
use Rattle.listing.specs.Written.{places_text}
use Rattle.listing.proofs.digits.Quotients.{by_none}

-- ---- all are digits

a_digit : (n k : ℕ) → is_digit (digit_of n k) ≡ true
unfolding digit_of
a_digit n k = and_true (le-leb 48 (48 + n / 10 ^ k % 10) (omega arith)) (le-leb (48 + n / 10 ^ k % 10) 57 (omega arith))

pub digits_append : (l m : List ℕ) → all_digits l ≡ true → all_digits m ≡ true → all_digits (l ++ m) ≡ true
unfolding all_digits
digits_append [] m p q = q
digits_append (c ∷ l) m p q =
    and_true (and_left (is_digit c) (all_digits l) p) (digits_append l m (and_right (is_digit c) (all_digits l) p) q)

one_digit : (b : Bool) (d : ℕ) → is_digit d ≡ true → all_digits (cond b (d ∷ []) []) ≡ true
unfolding all_digits
one_digit true d h = and_true h refl
one_digit false d h = refl

below_digits : (n k : ℕ) → all_digits (digits_below n k) ≡ true
unfolding digits_below digit_at all_digits
below_digits n zero = refl
below_digits n (suc k) =
    digits_append (digit_at n k) (digits_below n k) (one_digit (has_digit n k) (digit_of n k) (a_digit n k)) (below_digits n k)

pub decimal_digits : (n : ℕ) → all_digits (decimal_of n) ≡ true
decimal_digits n = below_digits n 20

pub places_digits : (n k : ℕ) → all_digits (places_text n k) ≡ true
unfolding places_text all_digits
places_digits n zero = refl
places_digits n (suc k) = and_true (a_digit n k) (places_digits n k)

-- ---- one is there

below_some : (n k : ℕ) → 0 < length (digits_below n (suc k))
unfolding digits_below digit_at has_digit
below_some n zero = omega arith
below_some n (suc k) =
    let a = below_some n k in
    omega (arith, length-append (digit_at n (suc k)) (digits_below n (suc k)))

pub decimal_some : (n : ℕ) → 0 < length (decimal_of n)
decimal_some n = below_some n 19

-- ---- their value

pub value_append : (n : ℕ) (l m : List ℕ) → value_from n (l ++ m) ≡ value_from (value_from n l) m
unfolding value_from
value_append n [] m = refl
value_append n (c ∷ l) m = value_append (10 * n + (c - 48)) l m

fewer : (n k : ℕ) → n / 10 ^ suc k ≡ n / 10 ^ k / 10
fewer n k = ap (λ (x : ℕ). n / x) (pow-suc 10 k) ∙ sym (div-div-eq-div-mul n (10 ^ k) 10)

-- one place more
next_value : (n k : ℕ) {m : ℕ} → m ≡ n / 10 ^ suc k → 10 * m + (digit_of n k - 48) ≡ n / 10 ^ k
unfolding digit_of
next_value n k {m} e =
    let f = fewer n k in
    let q = n / 10 ^ k in
    let g : m ≡ q / 10 = e ∙ f in
    omega arith

pub value_places : (n k m : ℕ) → m ≡ n / 10 ^ k → value_from m (places_text n k) ≡ n
unfolding value_from places_text
value_places n zero m e = e ∙ by_none n 10
value_places n (suc k) m e = value_places n k (10 * m + (digit_of n k - 48)) (next_value n k e)

no_higher : (lowest there : Bool) → cond lowest true there ≡ false → there ≡ false
no_higher true there e = never' e
no_higher false there e = e

-- by whether n has a digit for the place; where not, nothing stands above it either
with_place :
    (n k m : ℕ) (b : Bool) → has_digit n k ≡ b → m ≡ n / 10 ^ suc k →
    ((m' : ℕ) → m' ≡ n / 10 ^ k → value_from m' (digits_below n k) ≡ n) →
    value_from m (cond b (digit_of n k ∷ []) [] ++ digits_below n k) ≡ n
unfolding value_from has_digit
with_place n k m true h e rest = rest (10 * m + (digit_of n k - 48)) (next_value n k e)
with_place n k m false h e rest =
    let q = n / 10 ^ k in
    let z = ltb-false 0 q (no_higher (eqb k 0) (ltb 0 q) h) in
    let f : m ≡ q / 10 = e ∙ fewer n k in
    rest m (omega arith)

value_below : (n k m : ℕ) → m ≡ n / 10 ^ k → value_from m (digits_below n k) ≡ n
unfolding value_from digits_below digit_at
value_below n zero m e = e ∙ by_none n 10
value_below n (suc k) m e = with_place n k m (has_digit n k) refl e (value_below n k)

pub value_decimal : (n : ℕ) → n < 10 ^ 20 → value_from 0 (decimal_of n) ≡ n
value_decimal n h = value_below n 20 0 (sym (div-eq_of_lt h))
