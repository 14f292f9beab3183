-- Reading a number's text gives the number: its point parts the digits, and their value and the
-- places after the point are the decimal's. Assumes nothing.
use Rattle.std.proofs.Common.{◌≡◌, refl, sym, ap, ◌∙◌, Bool, true, false, cond, List, [], ◌∷◌, ◌++◌, append-nil, ℕ, ◌/◌, ◌^◌, ◌≤◌, ◌<◌, div-le_self, arith, ne_eqb, eqb-true, lt-ltb, le-leb, leb-true, leb, eqb, length, length-append, Some}
use Rattle.base.proofs.ladder.Ladders.{and_true, and_left, and_right}
use Rattle.base.proofs.verdicts.Picks.{cond_true, cond_false}
use Rattle.wording.specs.declared.number.Decimal.{Decimal}
use Rattle.wording.specs.Number.{is_digit, all_digits, value_from, before_point, after_point, digits_in, is_unsigned, unsigned_in, number_in, is_written}
use Rattle.wording.specs.Token.{ascii}
use Rattle.listing.specs.Text.{decimal_of}
use Rattle.listing.specs.Decimal.{minus_of}
use Rattle.listing.specs.Written.{places_text, fraction_text, digits_text, number_text}
use Rattle.listing.proofs.pieces.Fractions.{no_digits, few_digits, few_places, length_fraction}
use Rattle.listing.proofs.reread.Digits.{digits_append, decimal_digits, places_digits, decimal_some, value_append, value_places, value_decimal}

-- ---- the point

-- a digit is no point and no sign
pub digit_not : (c x : ℕ) → is_digit c ≡ true → x < 48 → eqb c x ≡ false
digit_not c x h l =
    let a = leb-true 48 c (and_left (leb 48 c) (leb c 57) h) in
    ne_eqb c x (λ e. omega arith)

before_digits : (l x : List ℕ) → all_digits l ≡ true → before_point (l ++ x) ≡ l ++ before_point x
unfolding all_digits before_point
before_digits [] x h = refl
before_digits (c ∷ l) x h =
    cond_false _ _ (digit_not c 46 (and_left (is_digit c) (all_digits l) h) (omega arith))
    ∙ ap (λ (m : List ℕ). c ∷ m) (before_digits l x (and_right (is_digit c) (all_digits l) h))

after_digits : (l x : List ℕ) → all_digits l ≡ true → after_point (l ++ x) ≡ after_point x
unfolding all_digits after_point
after_digits [] x h = refl
after_digits (c ∷ l) x h =
    cond_false _ _ (digit_not c 46 (and_left (is_digit c) (all_digits l) h) (omega arith))
    ∙ after_digits l x (and_right (is_digit c) (all_digits l) h)

-- of a fraction: nothing before the point, and after it the digits
before_fraction : (b : Bool) (l : List ℕ) → before_point (cond b [] (ascii "." ++ l)) ≡ []
unfolding before_point
before_fraction true l = refl
before_fraction false l = refl

after_fraction : (b : Bool) (l : List ℕ) → (b ≡ true → l ≡ []) → after_point (cond b [] (ascii "." ++ l)) ≡ l
unfolding after_point
after_fraction true l h = sym (h refl)
after_fraction false l h = refl

-- ---- a number without its sign

abbrev pub whole_part : Decimal → ℕ
whole_part d = d.digits / 10 ^ d.places

abbrev pub whole_text : Decimal → List ℕ
whole_text d = decimal_of (whole_part d)

-- the digits after the point
abbrev pub last_text : Decimal → List ℕ
last_text d = places_text d.digits d.places

abbrev pub unsigned_text : Decimal → List ℕ
unsigned_text d = whole_text d ++ fraction_text d

pub last_digits : (d : Decimal) → all_digits (last_text d) ≡ true
last_digits d = places_digits d.digits d.places

module _ (d : Decimal) (h : is_written d ≡ true) where
  after : after_point (unsigned_text d) ≡ last_text d
  unfolding fraction_text
  after =
      after_digits (whole_text d) (fraction_text d) (decimal_digits (whole_part d))
      ∙ after_fraction (eqb d.places 0) (last_text d) (λ e. no_digits d.digits d.places (eqb-true d.places 0 e))

  before : before_point (unsigned_text d) ≡ whole_text d
  unfolding fraction_text
  before =
      before_digits (whole_text d) (fraction_text d) (decimal_digits (whole_part d))
      ∙ ap (λ (l : List ℕ). whole_text d ++ l) (before_fraction (eqb d.places 0) (last_text d))
      ∙ append-nil (whole_text d)

  digits : digits_in (unsigned_text d) ≡ whole_text d ++ last_text d
  digits = λ i. before i ++ after i

  value : value_from 0 (digits_in (unsigned_text d)) ≡ d.digits
  value =
      let few = few_digits d h in
      let small : whole_part d ≤ d.digits = div-le_self d.digits (10 ^ d.places) in
      ap (value_from 0) digits
      ∙ value_append 0 (whole_text d) (last_text d)
      ∙ value_places d.digits d.places (value_from 0 (whole_text d)) (value_decimal (whole_part d) (omega arith))

  places : length (after_point (unsigned_text d)) ≡ d.places
  places = ap length after ∙ length_fraction d.digits d.places

  unsigned : is_unsigned (unsigned_text d) ≡ true
  unfolding is_unsigned
  unsigned =
      let some = decimal_some (whole_part d) in
      let few = few_digits d h in
      let short = few_places d h in
      let size : 0 < length (digits_in (unsigned_text d)) = omega (arith, ap length digits, length-append (whole_text d) (last_text d)) in
      and_true
      (and_true
      (and_true
      (ap all_digits digits ∙ digits_append (whole_text d) (last_text d) (decimal_digits (whole_part d)) (last_digits d))
      (lt-ltb 0 (length (digits_in (unsigned_text d))) size))
      (lt-ltb (value_from 0 (digits_in (unsigned_text d))) (10 ^ 18) (omega (arith, value))))
      (le-leb (length (after_point (unsigned_text d))) 18 (omega (arith, places)))

  read_unsigned :
      (negative : Bool) →
      unsigned_in negative (unsigned_text d) ≡ Some (record { negative = negative; digits = d.digits; places = d.places })
  unfolding unsigned_in
  read_unsigned negative =
      cond_true _ _ unsigned ∙ λ i. Some (record { negative = negative; digits = value i; places = places i })

-- ---- the sign

no_sign : (l x : List ℕ) → all_digits l ≡ true → 0 < length l → number_in (l ++ x) ≡ unsigned_in false (l ++ x)
unfolding all_digits number_in
no_sign [] x p h = absurd (omega arith)
no_sign (c ∷ l) x p h =
    let a = and_left (is_digit c) (all_digits l) p in
    cond_false _ _ (digit_not c 45 a (omega arith)) ∙ cond_false _ _ (digit_not c 43 a (omega arith))

signed : (negative : Bool) (d : Decimal) → number_in (minus_of negative ++ unsigned_text d) ≡ unsigned_in negative (unsigned_text d)
unfolding minus_of number_in
signed true d = refl
signed false d = no_sign (whole_text d) (fraction_text d) (decimal_digits (whole_part d)) (decimal_some (whole_part d))

pub read_number : (d : Decimal) → is_written d ≡ true → number_in (number_text d) ≡ Some d
unfolding number_text digits_text
read_number d h = ap number_in (cond_true _ _ h) ∙ signed d.negative d ∙ read_unsigned d h d.negative
