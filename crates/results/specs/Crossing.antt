-- What crosses to bytes and words? Fields as words and read off them are crates/maps/specs/
-- Inputs.antt (`field_words`, `inputs_from`), a worksheet as 96 words crates/jutetrowel/specs/
-- Words.antt (`sheet_words`, `worksheet_of`), a list of the library's calls Calls.antt beside it.
-- Assumes nothing.
use Rattle.base.specs.declared.refusal.Refusal.{Refusal}
use Rattle.std.specs.Prelude.{List, not, ◌⊎◌, ◌≡◌, ℕ, ◌^◌, ◌<◌, T, get_or, Ok, Result}
use Rattle.std.specs.Float.{binary32}
use Rattle.std.specs.Float.Ieee.{is_nan, of_bits}
use Rattle.base.specs.Refusal.{Verdict}
use Rattle.maps.specs.declared.inputs.Inputs.{Inputs}
use Rattle.maps.specs.Inputs.{inputs_from, words_to, field_words, Singles}
use Rattle.worksheet.specs.declared.desks.Worksheet.{Worksheet}
use Rattle.worksheet.specs.Showing.{Source}
use Rattle.worksheet.specs.Journal.{Call, run}
use Rattle.jutetrowel.specs.Answers.{answer_of, showing_of}
use Rattle.jutetrowel.specs.Words.{worksheet_of, sheet_words, SheetSingles}
use Rattle.jutetrowel.specs.Calls.{CallsSingles, entries_over, words_over}

-- ---- demand 3, 'bit for bit': fields cross to words and back. f k is the word of field k, counted
-- from 0

-- Fields written as 15 words and read again are the same fields, if their numbers are values of an
-- f32
abbrev pub FieldsBack : Type 0
FieldsBack = (i : Inputs) → Singles i → inputs_from (λ (k : ℕ). get_or (field_words i) k 0) ≡ i

-- The numbers of fields that are read off words are values of an f32
abbrev pub FromSingle : Type 0
FromSingle = (f : ℕ → ℕ) → Singles (inputs_from f)

-- the bits of an f32 that is no NaN, or of the NaN that is written, 7fc00000
abbrev pub WrittenWord : ℕ → Type 0
WrittenWord w = (w < 2 ^ 32) × (T (not (is_nan (of_bits binary32 w))) ⊎ (w ≡ 2143289344))

-- 15 words read as fields and written again are the same words, if those of the numbers, which are
-- all but the month (0), the flag (7) and the model (14), are the bits of an f32 that is no NaN, or 7fc00000
abbrev pub WordsBack : Type 0
WordsBack =
    (f : ℕ → ℕ) → ((k : ℕ) → k < 14 → (k ≡ 0 → ⊥) → (k ≡ 7 → ⊥) → WrittenWord (f k)) →
    field_words (inputs_from f) ≡ words_to f

-- ---- demand 1: 'either does its work or refuses by a number of document 01'

-- Where a call that answers by number and place alone (`answer_of`) hands back the number 0, nothing
-- was refused
abbrev pub AcceptedNumber : Type 0
AcceptedNumber = (v : Verdict) → (answer_of v).number ≡ 0 → v ≡ Ok tt

-- Where a showing hands back the number 0, it was accepted with the points that it hands back
abbrev pub ShownNumber : Type 0
ShownNumber = (x : Result ℕ Refusal) → (showing_of x).number ≡ 0 → x ≡ Ok (showing_of x).points

-- ---- demand 3 of the library's calls rests on this

-- A worksheet written as 96 words and read is the same worksheet, if its numbers are values of an
-- f32
abbrev pub ReadBack : Type 0
ReadBack = (w : Worksheet) → SheetSingles w → worksheet_of (sheet_words w) ≡ w

-- From words that hold w, a list of the library's calls answers as the same list on w, and leaves
-- words that hold the worksheet that the list leaves, if the numbers of the changes are values of
-- an f32
abbrev pub AllCalls : Type 0
AllCalls =
    (source : Source) (cs : List Call) (l : List ℕ) (w : Worksheet) → worksheet_of l ≡ w → CallsSingles cs →
    (entries_over source cs l ≡ (run source cs w).entries)
    × (worksheet_of (words_over source cs l) ≡ (run source cs w).sheet)
