-- A worksheet as the 96 words that another language lends: six sets of 16, which are the inputs,
-- the earlier set and the drafts of desks 1 to 4. Assumes nothing.
use Rattle.std.specs.Prelude.{cond, List, ◌∷◌, ◌++◌, ℕ, ◌+◌, eqb, get_or, replicate, None, Option, Some}
use Rattle.base.specs.Refusal.{written_over}
use Rattle.maps.specs.Inputs.{inputs_from, field_words, Singles}
use Rattle.maps.specs.declared.inputs.Inputs.{Inputs}
use Rattle.worksheet.specs.declared.desks.Draft.{Draft}
use Rattle.worksheet.specs.declared.desks.Draft.TheVariants.{Closed, Fresh, Stale}
use Rattle.worksheet.specs.declared.desks.Outcome.{Outcome}
use Rattle.worksheet.specs.declared.desks.Worksheet.{Worksheet}
use Rattle.worksheet.specs.Desks.{EarlierHas, DraftHas, SheetHas}

-- a set's words: what it is, and its 15 fields
abbrev pub set_size : ℕ
set_size = 16

-- a worksheet's words
abbrev pub sheet_size : ℕ
sheet_size = 96

-- ---- words read

abbrev pub word_in : List ℕ → ℕ → ℕ
word_in l k = get_or l k 0

-- the field k, counted from 0, of the set at `at`
abbrev pub field_in : List ℕ → ℕ → ℕ → ℕ
field_in l at k = word_in l (at + 1 + k)

unfoldable pub inputs_in : List ℕ → ℕ → Inputs
inputs_in l at = inputs_from (field_in l at)

-- a first word of 0: no earlier set
unfoldable pub earlier_in : List ℕ → ℕ → Option Inputs
earlier_in l at = cond (eqb (word_in l at) 0) None (Some (inputs_in l at))

-- a first word of 0: closed; of 1: fresh; of any other number: stale
unfoldable pub draft_in : List ℕ → ℕ → Draft
draft_in l at =
    cond (eqb (word_in l at) 0) Closed (cond (eqb (word_in l at) 1) (Fresh (inputs_in l at)) (Stale (inputs_in l at)))

-- any 96 words are a worksheet; the first word of all is not looked at
unfoldable pub worksheet_of : List ℕ → Worksheet
worksheet_of l =
    record {
      inputs = inputs_in l 0;
      earlier = earlier_in l 16;
      d1 = draft_in l 32;
      d2 = draft_in l 48;
      d3 = draft_in l 64;
      d4 = draft_in l 80;
    }

-- ---- words written

-- a set that is there: what it is, and its 15 fields
unfoldable pub set_words : ℕ → Inputs → List ℕ
set_words what i = what ∷ field_words i

-- a set that is not there
abbrev pub no_words : List ℕ
no_words = replicate set_size 0

unfoldable pub earlier_words : Option Inputs → List ℕ
earlier_words None = no_words
earlier_words (Some i) = set_words 1 i

unfoldable pub draft_words : Draft → List ℕ
draft_words Closed = no_words
draft_words (Fresh i) = set_words 1 i
draft_words (Stale i) = set_words 2 i

unfoldable pub sheet_words : Worksheet → List ℕ
sheet_words w =
    set_words 1 w.inputs
    ++ (earlier_words w.earlier
    ++ (draft_words w.d1 ++ (draft_words w.d2 ++ (draft_words w.d3 ++ draft_words w.d4))))

-- the lent words after an outcome: 'A refusal changes neither worksheet nor lent buffer'
abbrev pub words_after : Outcome → List ℕ → List ℕ
words_after o lent = written_over o.answer (sheet_words o.sheet) lent

-- ---- worksheets of numbers that an f32 can be

abbrev pub EarlierSingles : Option Inputs → Type 0
EarlierSingles = EarlierHas Singles

abbrev pub DraftSingles : Draft → Type 0
DraftSingles = DraftHas Singles

abbrev pub SheetSingles : Worksheet → Type 0
SheetSingles = SheetHas Singles
