-- The words of a line, and what each is: a word that calls are written with, a number, or neither.
-- Assumes nothing.
use Rattle.std.specs.Prelude.{Option, Some, None, ℕ, Bool, cond, ◌||◌, List, [], ◌∷◌, ◌++◌, ◌+◌, eqb, get_or, take, replicate, map}
use Prim.Native.Char.{code}
use Prim.Native.String.{String, [] as []ˢ, ◌∷◌ as ◌∷ˢ◌}
use Rattle.wording.specs.declared.number.Decimal.{Decimal}
use Rattle.std.specs.List.{find}
use Rattle.std.specs.Str.{bytes_eq}
use Rattle.wording.specs.declared.token.Word.{Word}
use Rattle.wording.specs.declared.token.Word.TheVariants as word
use Rattle.wording.specs.declared.token.Token.{Token}
use Rattle.wording.specs.declared.token.Token.TheVariants as token
use Rattle.wording.specs.declared.token.Tokens.{Tokens}
use Rattle.wording.specs.Number.{number_in}

-- ---- the words that calls are written with

abbrev pub name_of : Word → String
name_of word.Open = "open"
name_of word.Month = "month"
name_of word.Sunspot = "sunspot"
name_of word.Hour = "hour"
name_of word.From = "from"
name_of word.To = "to"
name_of word.Long = "long"
name_of word.Factors = "factors"
name_of word.Pole = "pole"
name_of word.Model = "model"
name_of word.Ccir = "ccir"
name_of word.Ursi = "ursi"
name_of word.Begin = "begin"
name_of word.Path = "path"
name_of word.Commit = "commit"
name_of word.Cancel = "cancel"
name_of word.Show = "show"
name_of word.Take = "take"
name_of word.Back = "back"
name_of (word.Another n) = "another"

-- those that a line can have
abbrev pub words : List Word
words =
    word.Open ∷ word.Month ∷ word.Sunspot ∷ word.Hour ∷ word.From ∷ word.To ∷ word.Long ∷ word.Factors
    ∷ word.Pole ∷ word.Model ∷ word.Ccir ∷ word.Ursi ∷ word.Begin ∷ word.Path ∷ word.Commit
    ∷ word.Cancel ∷ word.Show ∷ word.Take ∷ word.Back ∷ []

-- a word's place among them; of any other a place behind them, by its number
abbrev pub word_place : Word → ℕ
word_place word.Open = 0
word_place word.Month = 1
word_place word.Sunspot = 2
word_place word.Hour = 3
word_place word.From = 4
word_place word.To = 5
word_place word.Long = 6
word_place word.Factors = 7
word_place word.Pole = 8
word_place word.Model = 9
word_place word.Ccir = 10
word_place word.Ursi = 11
word_place word.Begin = 12
word_place word.Path = 13
word_place word.Commit = 14
word_place word.Cancel = 15
word_place word.Show = 16
word_place word.Take = 17
word_place word.Back = 18
word_place (word.Another n) = 19 + n

-- the bytes of a text in ASCII
abbrev pub ascii : String → List ℕ
ascii []ˢ = []
ascii (c ∷ˢ s) = code c ∷ ascii s

-- ---- words

-- a blank, a tab or the carriage return that some editors put at a line's end
abbrev pub is_blank : ℕ → Bool
is_blank c = eqb c 32 || eqb c 9 || eqb c 13

-- a comment begins at '#'
unfoldable pub uncommented : List ℕ → List ℕ
uncommented [] = []
uncommented (c ∷ l) = cond (eqb c 35) [] (c ∷ uncommented l)

-- the word w, if it has a letter
abbrev pub closed : List ℕ → List (List ℕ)
closed [] = []
closed (c ∷ w) = (c ∷ w) ∷ []

-- the words of the bytes that follow, w being the letters of the word that was begun
unfoldable pub words_from : List ℕ → List ℕ → List (List ℕ)
words_from w [] = closed w
words_from w (c ∷ l) = cond (is_blank c) (closed w ++ words_from [] l) (words_from (w ++ (c ∷ [])) l)

-- the runs of a line's bytes that are no blanks, up to a comment
abbrev pub line_words : List ℕ → List (List ℕ)
line_words line = words_from [] (uncommented line)

-- ---- what a word is

-- the first of the words that has these letters
unfoldable pub word_named : List ℕ → Option Word
word_named w = find (λ x. bytes_eq (ascii (name_of x)) w) words

-- a number, if it is no such word
abbrev pub number_or : Option Decimal → Token
number_or (Some d) = token.Number d
number_or None = token.Other

abbrev pub name_or : Option Word → List ℕ → Token
name_or (Some x) w = token.Word x
name_or None w = number_or (number_in w)

unfoldable pub token_of : List ℕ → Token
token_of w = name_or (word_named w) w

-- ---- the words of a line by their places

-- 25 of them, `End` after the last
unfoldable pub first_tokens : List (List ℕ) → Tokens
first_tokens words = record { 0 = take 25 (map token_of words ++ replicate 25 token.End) }

unfoldable pub tokens_of : List ℕ → Tokens
tokens_of line = first_tokens (line_words line)

-- the word at place k, from 0 on
unfoldable pub token_at : Tokens → ℕ → Token
token_at t k = get_or t.0 k token.End
