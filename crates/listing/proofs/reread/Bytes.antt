-- A number's text is one word of a line: it has no blank, comment or newline in it, and it begins
-- as only a number does. Each byte is a digit, the sign or the point. Assumes nothing.
use Rattle.std.proofs.Common.{◌≡◌, refl, ap, ◌∙◌, Bool, true, false, cond, not, ◌&&◌, ◌||◌, List, [], ◌∷◌, ◌++◌, ℕ, ◌<◌, arith, eqb, length}
use Rattle.base.proofs.ladder.Ladders.{and_true, and_left, and_right}
use Rattle.base.proofs.verdicts.Picks.{cond_true}
use Rattle.wording.specs.declared.number.Decimal.{Decimal}
use Rattle.wording.specs.Number.{is_digit, all_digits, is_written}
use Rattle.wording.specs.Token.{ascii}
use Rattle.listing.specs.Text.{decimal_of}
use Rattle.listing.specs.Decimal.{minus_of}
use Rattle.listing.specs.Written.{fraction_text, digits_text, number_text}
use Rattle.listing.proofs.reread.Digits.{decimal_digits, decimal_some}
use Rattle.listing.proofs.reread.Reading.{digit_not, whole_part, whole_text, last_text, unsigned_text, last_digits}

-- ---- the tests

-- neither a blank (32, 9, 13) nor '#' (35) nor a newline (10)
abbrev pub in_word : ℕ → Bool
in_word c = not (eqb c 32 || eqb c 9 || eqb c 13) && not (eqb c 35) && not (eqb c 10)

abbrev pub all : (ℕ → Bool) → List ℕ → Bool
all f [] = true
all f (c ∷ l) = f c && all f l

-- with a digit, '-' (45) or '.' (46)
abbrev pub begins_number : List ℕ → Bool
begins_number [] = false
begins_number (c ∷ l) = is_digit c || eqb c 45 || eqb c 46

all_append : (f : ℕ → Bool) (l m : List ℕ) → all f l ≡ true → all f m ≡ true → all f (l ++ m) ≡ true
all_append f [] m p q = q
all_append f (c ∷ l) m p q =
    and_true (and_left (f c) (all f l) p) (all_append f l m (and_right (f c) (all f l) p) q)

-- ---- within a word

digit_in_word : (c : ℕ) → is_digit c ≡ true → in_word c ≡ true
digit_in_word c h =
    let n : (x : ℕ) → x < 48 → eqb c x ≡ false = λ x l. digit_not c x h l in
    λ i.
    not (n 32 (omega arith) i || n 9 (omega arith) i || n 13 (omega arith) i)
    && not (n 35 (omega arith) i)
    && not (n 10 (omega arith) i)

digits_in_word : (l : List ℕ) → all_digits l ≡ true → all in_word l ≡ true
unfolding all_digits
digits_in_word [] h = refl
digits_in_word (c ∷ l) h =
    and_true (digit_in_word c (and_left (is_digit c) (all_digits l) h)) (digits_in_word l (and_right (is_digit c) (all_digits l) h))

whole_in_word : (n : ℕ) → all in_word (decimal_of n) ≡ true
whole_in_word n = digits_in_word (decimal_of n) (decimal_digits n)

minus_in_word : (negative : Bool) → all in_word (minus_of negative) ≡ true
unfolding minus_of
minus_in_word true = refl
minus_in_word false = refl

point_in_word : (b : Bool) (l : List ℕ) → all in_word l ≡ true → all in_word (cond b [] (ascii "." ++ l)) ≡ true
point_in_word true l h = refl
point_in_word false l h = h

pub number_in_word : (d : Decimal) → is_written d ≡ true → all in_word (number_text d) ≡ true
unfolding number_text digits_text fraction_text
number_in_word d h =
    let f = point_in_word (eqb d.places 0) (last_text d) (digits_in_word (last_text d) (last_digits d)) in
    ap (all in_word) (cond_true _ _ h)
    ∙ all_append in_word (minus_of d.negative) (unsigned_text d) (minus_in_word d.negative)
    (all_append in_word (whole_text d) (fraction_text d) (whole_in_word (whole_part d)) f)

-- ---- how it begins

begins_digit : (l x : List ℕ) → all_digits l ≡ true → 0 < length l → begins_number (l ++ x) ≡ true
unfolding all_digits
begins_digit [] x p h = absurd (omega arith)
begins_digit (c ∷ l) x p h = ap (λ (b : Bool). b || eqb c 45 || eqb c 46) (and_left (is_digit c) (all_digits l) p)

signed_begins : (negative : Bool) (d : Decimal) → begins_number (minus_of negative ++ unsigned_text d) ≡ true
unfolding minus_of
signed_begins true d = refl
signed_begins false d = begins_digit (whole_text d) (fraction_text d) (decimal_digits (whole_part d)) (decimal_some (whole_part d))

pub number_begins : (d : Decimal) → is_written d ≡ true → begins_number (number_text d) ≡ true
unfolding number_text digits_text
number_begins d h = ap begins_number (cond_true _ _ h) ∙ signed_begins d.negative d
