-- The exported calls as demand 3's, and demand 3 over lent words: a list of them, each on the words
-- that the one before it left. Assumes nothing.
use Rattle.std.specs.Prelude.{ℕ, List, [], ◌∷◌, ◌≡◌, Float}
use Rattle.base.specs.Refusal.{written_over}
use Rattle.maps.specs.Inputs.{Single}
use Rattle.worksheet.specs.declared.desks.Worksheet.{Worksheet}
use Rattle.worksheet.specs.declared.inputs.Edit.{Edit}
use Rattle.worksheet.specs.declared.inputs.Edit.TheVariants.{Sunspot, Hour, Path, Psc, Pole, Month, Model}
use Rattle.worksheet.specs.Showing.{Source}
use Rattle.worksheet.specs.Journal.{Call, begin, commit, cancel, change, take_back, show, Answer, told, shown, Entry, step, entry_of, shorter, calls_of}
use Rattle.jutetrowel.specs.declared.answers.Answer.{Answer as Numbers}
use Rattle.jutetrowel.specs.declared.answers.Showing.{Showing}
use Rattle.jutetrowel.specs.Answers.{answer_of, showing_of, shown_numbers}
use Rattle.jutetrowel.specs.Words.{worksheet_of, sheet_words}

-- ---- answers as they cross

-- an answer's number and place
abbrev pub answer_numbers : Answer → Numbers
answer_numbers (told v) = answer_of v
answer_numbers (shown s after) = shown_numbers s

-- what is handed back of a showing, beside the buffer afterwards; a verdict shows nothing
abbrev pub Shows : Answer → Showing → List Float → Type 0
Shows (told v) r buffer = ⊥
Shows (shown s after) r buffer = (r ≡ showing_of s) × (buffer ≡ after)

-- ---- the calls over words

-- the words l after a call that answered so and left w: where it is accepted those of w, else and
-- after a showing l
abbrev pub words_by : Answer → Worksheet → List ℕ → List ℕ
words_by (told v) w l = written_over v (sheet_words w) l
words_by (shown s after) w l = l

module _ (source : Source) where
  -- the words that a call leaves
  unfoldable pub words_left : Call → List ℕ → List ℕ
  words_left c l =
      let s = step source c (worksheet_of l) in
      words_by s.answer s.sheet l

-- the call c on the words l answers r and leaves the words `after`, whatever the files: it shows
-- nothing
pub record Made (c : Call) (l : List ℕ) (r : Numbers) (after : List ℕ) : Type 0 where
  pub answer : (source : Source) → r ≡ answer_numbers (step source c (worksheet_of l)).answer
  pub words : (source : Source) → after ≡ words_left source c l

-- ---- demand 3

module _ (source : Source) where
  -- 'Each call gets the worksheet that the one before it left': the words after a list
  unfoldable pub words_over : List Call → List ℕ → List ℕ
  words_over [] l = l
  words_over (c ∷ cs) l = words_over cs (words_left source c l)

  -- the calls of a list with their answers, which are those of the worksheet that the words hold
  unfoldable pub entries_over : List Call → List ℕ → List Entry
  entries_over [] l = []
  entries_over (c ∷ cs) l = entry_of source c (worksheet_of l) ∷ entries_over cs (words_left source c l)

  -- the shorter list of the list cs from the words l on
  abbrev pub short_over : List ℕ → List Call → List Call
  short_over l cs = calls_of (shorter [] (entries_over cs l))

  -- DEMAND 3 of the words l and the list cs
  pub record Demand3Over (l : List ℕ) (cs : List Call) : Type 0 where
    -- 'every call kept answers alike in both, each showing's whole figures included'
    pub answers : entries_over (short_over l cs) l ≡ shorter [] (entries_over cs l)
    -- 'and after both the inputs and the earlier set are equal'
    pub inputs : (worksheet_of (words_over (short_over l cs) l)).inputs ≡ (worksheet_of (words_over cs l)).inputs
    pub earlier : (worksheet_of (words_over (short_over l cs) l)).earlier ≡ (worksheet_of (words_over cs l)).earlier

-- ---- calls by numbers that an f32 can be, as every number that crosses is

abbrev pub EditSingles : Edit → Type 0
EditSingles (Sunspot x) = Single x
EditSingles (Hour x) = Single x
EditSingles (Path p) = Single p.tlat.0 × Single p.tlong.0 × Single p.rlat.0 × Single p.rlong.0
EditSingles (Psc p) = Single p.e × Single p.f1 × Single p.f2 × Single p.es
EditSingles (Pole p) = Single p.lat.0 × Single p.lon.0
EditSingles (Month m) = Unit
EditSingles (Model m) = Unit

abbrev pub CallSingles : Call → Type 0
CallSingles (begin n) = Unit
CallSingles (change n e) = EditSingles e
CallSingles (commit n) = Unit
CallSingles (cancel n) = Unit
CallSingles take_back = Unit
CallSingles (show n lent) = Unit

abbrev pub CallsSingles : List Call → Type 0
CallsSingles [] = Unit
CallsSingles (c ∷ cs) = CallSingles c × CallsSingles cs
