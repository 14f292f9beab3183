-- Every number that a line's words hold is one that can be written: at most 18 digits, at most 18 of
-- them after the point. By how a word is read. Assumes nothing.
use Rattle.std.proofs.Common.{ℕ, zero, suc, ◌^◌, Bool, true, false, cond, ◌&&◌, List, [], ◌∷◌, ◌++◌, map, ◌≡◌, refl, eqb, leb, ltb, length, get_or, take, replicate, Option, Some, None}
use Rattle.base.proofs.ladder.Ladders.{and_true, and_left, and_right}
use Rattle.wording.specs.declared.number.Decimal.{Decimal}
use Rattle.wording.specs.declared.token.Word.{Word as AWord}
use Rattle.wording.specs.declared.token.Token.{Token}
use Rattle.wording.specs.declared.token.Token.TheVariants.{End}
use Rattle.wording.specs.Number.{all_digits, value_from, after_point, digits_in, is_unsigned, unsigned_in, number_in, is_written}
use Rattle.wording.specs.Token.{line_words, word_named, number_or, name_or, token_of, first_tokens, tokens_of, token_at}
use Rattle.wording.specs.Line.{decimal_in}

-- ---- a number

abbrev CanBeWritten : Option Decimal → Type 0
CanBeWritten (Some d) = is_written d ≡ true
CanBeWritten None = Unit

choice : (b : Bool) (x y : Option Decimal) → CanBeWritten x → CanBeWritten y → CanBeWritten (cond b x y)
choice true x y p q = p
choice false x y p q = q

unsigned_most :
    (a b c d : Bool) → (a && b && c && d) ≡ true → (c && d) ≡ true
unsigned_most a b c d e = and_true (and_right (a && b) c (and_left (a && b && c) d e)) (and_right (a && b && c) d e)

unsigned_written : (negative : Bool) (l : List ℕ) → CanBeWritten (unsigned_in negative l)
unfolding unsigned_in is_unsigned
unsigned_written negative l = by (is_unsigned l) refl
  where
    by :
        (b : Bool) → is_unsigned l ≡ b →
        CanBeWritten
        (cond b
        (Some (record { negative = negative; digits = value_from 0 (digits_in l); places = length (after_point l) })) None)
    by true e =
        unsigned_most (all_digits (digits_in l)) (ltb 0 (length (digits_in l)))
        (ltb (value_from 0 (digits_in l)) (10 ^ 18)) (leb (length (after_point l)) 18) e
    by false e = tt

number_written : (l : List ℕ) → CanBeWritten (number_in l)
unfolding number_in
number_written [] = tt
number_written (c ∷ l) =
    choice (eqb c 45) _ _ (unsigned_written true l)
    (choice (eqb c 43) _ _ (unsigned_written false l) (unsigned_written false (c ∷ l)))

-- ---- a word

-- what no number stands for is 0
abbrev Sound : Token → Type 0
Sound t = is_written (decimal_in t) ≡ true

number_sound : (x : Option Decimal) → CanBeWritten x → Sound (number_or x)
number_sound (Some d) h = h
number_sound None h = refl

either_sound : (o : Option AWord) (w : List ℕ) → Sound (name_or o w)
either_sound (Some x) w = refl
either_sound None w = number_sound (number_in w) (number_written w)

word_sound : (w : List ℕ) → Sound (token_of w)
unfolding token_of
word_sound w = either_sound (word_named w) w

-- ---- the words of a line

abbrev AllSound : List Token → Type 0
AllSound [] = Unit
AllSound (x ∷ l) = Sound x × AllSound l

words_sound : (ws : List (List ℕ)) → AllSound (map token_of ws)
words_sound [] = tt
words_sound (w ∷ ws) = (word_sound w, words_sound ws)

ends_sound : (n : ℕ) → AllSound (replicate n End)
ends_sound zero = tt
ends_sound (suc n) = (refl, ends_sound n)

both_sound : (l m : List Token) → AllSound l → AllSound m → AllSound (l ++ m)
both_sound [] m p q = q
both_sound (x ∷ l) m p q = (p.0, both_sound l m p.1 q)

first_sound : (n : ℕ) (l : List Token) → AllSound l → AllSound (take n l)
first_sound zero l h = tt
first_sound (suc n) [] h = tt
first_sound (suc n) (x ∷ l) h = (h.0, first_sound n l h.1)

at_sound : (l : List Token) (k : ℕ) → AllSound l → Sound (get_or l k End)
at_sound [] k h = refl
at_sound (x ∷ l) zero h = h.0
at_sound (x ∷ l) (suc k) h = at_sound l k h.1

-- WHAT STANDS AT A PLACE of a line can be written
pub token_sound : (l : List ℕ) (k : ℕ) → is_written (decimal_in (token_at (tokens_of l) k)) ≡ true
unfolding token_at tokens_of first_tokens
token_sound l k =
    let ws = line_words l in
    let ends : List Token = replicate 25 End in
    let all = map token_of ws ++ ends in
    at_sound (take 25 all) k (first_sound 25 all (both_sound (map token_of ws) ends (words_sound ws) (ends_sound 25)))
