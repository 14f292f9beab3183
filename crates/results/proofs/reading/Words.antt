-- Words written with a blank before each read as just those words, and make one line: no word has a
-- blank, a '#' or a newline in it. By the words in their order. Assumes nothing.
use Rattle.std.proofs.Common.{ℕ, ◌≤◌, Bool, true, false, not, ◌&&◌, ◌||◌, List, [], ◌∷◌, ◌++◌, map, append-nil, append_assoc, ◌≡◌, refl, sym, ap, ◌∙◌, arith, eqb, leb, ltb, take, replicate, ne_eqb, leb-true, ltb-true, eqb-true, Option, None}
use lib.Seq.{append_snoc}
use borrow.Author.Tests.{not-true}
use Rattle.base.proofs.ladder.Ladders.{and_true, and_left, and_right, not_left}
use Rattle.base.proofs.verdicts.Picks.{cond_false, never}
use Rattle.wording.specs.declared.number.Decimal.{Decimal}
use Rattle.std.specs.List.{find}
use Rattle.std.specs.Str.{bytes_eq}
use Rattle.wording.specs.declared.token.Word.{Word as AWord}
use Rattle.wording.specs.declared.token.Token.{Token}
use Rattle.wording.specs.declared.token.Token.TheVariants.{End, Word, Number, Other}
use Rattle.wording.specs.declared.token.Tokens.{Tokens}
use Rattle.wording.specs.Number.{is_digit, is_written}
use Rattle.wording.specs.Token.{name_of, words, ascii, uncommented, closed, words_from, line_words, word_named, number_or, name_or, token_of, first_tokens, tokens_of}
use Rattle.listing.specs.Written.{number_text}
use Rattle.listing.proofs.reread.Bytes.{in_word, all, begins_number, number_in_word, number_begins}
use Rattle.listing.proofs.reread.Reading.{read_number}

-- ---- words and their text

-- as it is written: a name, or a number; no other word is
abbrev pub token_text : Token → List ℕ
token_text (Word x) = ascii (name_of x)
token_text (Number d) = number_text d
token_text Other = []
token_text End = []

-- what its text is and reads as
pub record Read (x : Token) : Type 0 where
  pub in_word_law : all in_word (token_text x) ≡ true
  pub some : closed (token_text x) ≡ token_text x ∷ []
  pub reads : token_of (token_text x) ≡ x

pub data AllRead : List Token → Type 0 where
  none : AllRead []
  more : {x : Token} {l : List Token} → Read x → AllRead l → AllRead (x ∷ l)

-- a blank and the word, for each
unfoldable pub trailing : List Token → List ℕ
trailing [] = []
trailing (x ∷ l) = 32 ∷ (token_text x ++ trailing l)

pub trailing_both : (l m : List Token) → trailing (l ++ m) ≡ trailing l ++ trailing m
unfolding trailing
trailing_both [] m = refl
trailing_both (x ∷ l) m =
    ap (λ (y : List ℕ). 32 ∷ (token_text x ++ y)) (trailing_both l m)
    ∙ sym (ap (λ (y : List ℕ). 32 ∷ y) (append_assoc (token_text x) (trailing l) (trailing m)))

pub all_both : {l m : List Token} → AllRead l → AllRead m → AllRead (l ++ m)
all_both none q = q
all_both (more r p) q = more r (all_both p q)

-- ---- the bytes of a word

abbrev pub on_line : ℕ → Bool
on_line c = not (eqb c 10)

module _ (c : ℕ) (h : in_word c ≡ true) where
  abbrev blank : Bool
  blank = eqb c 32 || eqb c 9 || eqb c 13

  no_blank : blank ≡ false
  no_blank =
      not-true blank
      (and_left (not blank) (not (eqb c 35)) (and_left (not blank && not (eqb c 35)) (on_line c) h))

  no_comment : eqb c 35 ≡ false
  no_comment =
      not-true (eqb c 35)
      (and_right (not blank) (not (eqb c 35)) (and_left (not blank && not (eqb c 35)) (on_line c) h))

  on_line_law : on_line c ≡ true
  on_line_law = and_right (not blank && not (eqb c 35)) (on_line c) h

-- ---- a word before other bytes

past_comment : (w l : List ℕ) → all in_word w ≡ true → uncommented (w ++ l) ≡ w ++ uncommented l
unfolding uncommented
past_comment [] l h = refl
past_comment (c ∷ w) l h =
    cond_false _ _ (no_comment c (and_left (in_word c) (all in_word w) h))
    ∙ ap (λ (x : List ℕ). c ∷ x) (past_comment w l (and_right (in_word c) (all in_word w) h))

word_goes_on : (v w l : List ℕ) → all in_word w ≡ true → words_from v (w ++ l) ≡ words_from (v ++ w) l
unfolding words_from
word_goes_on v [] l h = sym (ap (λ (x : List ℕ). words_from x l) (append-nil v))
word_goes_on v (c ∷ w) l h =
    cond_false _ _ (no_blank c (and_left (in_word c) (all in_word w) h))
    ∙ word_goes_on (v ++ (c ∷ [])) w l (and_right (in_word c) (all in_word w) h)
    ∙ ap (λ (x : List ℕ). words_from x l) (append_snoc v c w)

word_on_line : (w l : List ℕ) → all in_word w ≡ true → all on_line l ≡ true → all on_line (w ++ l) ≡ true
word_on_line [] l h p = p
word_on_line (c ∷ w) l h p =
    and_true (on_line_law c (and_left (in_word c) (all in_word w) h))
    (word_on_line w l (and_right (in_word c) (all in_word w) h) p)

-- ---- words with blanks

no_comments : {l : List Token} → AllRead l → uncommented (trailing l) ≡ trailing l
unfolding uncommented trailing
no_comments none = refl
no_comments (more {x} {l} r h) =
    ap (λ (y : List ℕ). 32 ∷ y)
    (past_comment (token_text x) (trailing l) r.in_word_law ∙ ap (λ (y : List ℕ). token_text x ++ y) (no_comments h))

-- w being the letters of the word before them
words_after_law : (w : List ℕ) {l : List Token} → AllRead l → words_from w (trailing l) ≡ closed w ++ map token_text l
unfolding words_from trailing
words_after_law w none = sym (append-nil (closed w))
words_after_law w (more {x} {l} r h) =
    let rest = map token_text l in
    ap (λ (y : List (List ℕ)). closed w ++ y)
    (word_goes_on [] (token_text x) (trailing l) r.in_word_law
    ∙ words_after_law (token_text x) h
    ∙ ap (λ (y : List (List ℕ)). y ++ rest) r.some)

-- no newline is among them
pub trailing_on_line : {l : List Token} → AllRead l → all on_line (trailing l) ≡ true
unfolding trailing
trailing_on_line none = refl
trailing_on_line (more {x} {l} r h) = word_on_line (token_text x) (trailing l) r.in_word_law (trailing_on_line h)

-- ---- as tokens

texts_read : {l : List Token} → AllRead l → map token_of (map token_text l) ≡ l
texts_read none = refl
texts_read (more r h) = λ i. r.reads i ∷ texts_read h i

-- the places of a line whose words are these
abbrev pub held : List Token → Tokens
held l = record { 0 = take 25 (l ++ replicate 25 End) }

pub tokens_read : {l : List Token} → AllRead l → tokens_of (trailing l) ≡ held l
unfolding tokens_of first_tokens
tokens_read {l} h =
    let words : line_words (trailing l) ≡ map token_text l = ap (words_from []) (no_comments h) ∙ words_after_law [] h in
    let tokens : map token_of (line_words (trailing l)) ≡ l = ap (map token_of) words ∙ texts_read h in
    λ i. record { 0 = take 25 (tokens i ++ replicate 25 End) }

-- a blank in front changes nothing
pub blank_first : (l : List ℕ) → tokens_of (32 ∷ l) ≡ tokens_of l
unfolding tokens_of uncommented words_from
blank_first l = refl

-- ---- numbers

-- the first letter of a name comes after the digits
abbrev starts_late : List ℕ → Bool
starts_late [] = false
starts_late (c ∷ l) = ltb 57 c

abbrev all_late : List AWord → Bool
all_late [] = true
all_late (x ∷ l) = starts_late (ascii (name_of x)) && all_late l

byte_early : (c : ℕ) → (is_digit c || eqb c 45 || eqb c 46) ≡ true → c ≤ 57
byte_early c h = by (is_digit c) (eqb c 45) refl refl h
  where
    by : (a b : Bool) → is_digit c ≡ a → eqb c 45 ≡ b → (a || b || eqb c 46) ≡ true → c ≤ 57
    by true b p q e = leb-true c 57 (and_right (leb 48 c) (leb c 57) p)
    by false true p q e = omega (arith, eqb-true c 45 q)
    by false false p q e = omega (arith, eqb-true c 46 e)

differ : (l w : List ℕ) → starts_late l ≡ true → begins_number w ≡ true → bytes_eq l w ≡ false
differ [] w p q = never p
differ (c ∷ l) [] p q = refl
differ (c ∷ l) (d ∷ w) p q =
    let late = ltb-true 57 c p in
    let early = byte_early d q in
    not_left (bytes_eq l w) (ne_eqb c d (λ e. omega arith))

none_of : (l : List AWord) (w : List ℕ) → all_late l ≡ true → begins_number w ≡ true → find (λ x. bytes_eq (ascii (name_of x)) w) l ≡ None
none_of [] w p q = refl
none_of (x ∷ l) w p q =
    let name = ascii (name_of x) in
    cond_false _ _ (differ name w (and_left (starts_late name) (all_late l) p) q)
    ∙ none_of l w (and_right (starts_late name) (all_late l) p) q

no_name : (w : List ℕ) → begins_number w ≡ true → word_named w ≡ None
unfolding word_named
no_name w q = none_of words w refl q

begun_closed : (w : List ℕ) → begins_number w ≡ true → closed w ≡ w ∷ []
begun_closed [] h = never h
begun_closed (c ∷ w) h = refl

pub number_read : (d : Decimal) → is_written d ≡ true → Read (Number d)
unfolding token_of
number_read d h =
    let w = number_text d in
    record {
      in_word_law = number_in_word d h;
      some = begun_closed w (number_begins d h);
      reads =
          ap (λ (o : Option AWord). name_or o w) (no_name w (number_begins d h))
          ∙ ap number_or (read_number d h);
    }
