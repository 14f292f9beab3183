-- What do cancelled edits leave behind? Document 01, Demand 3: the shorter list (`shorter`, `own`)
-- and the claim itself (`Demand3`) stand in crates/worksheet/specs/Journal.antt, the same over the
-- library's words (`Demand3Over`) in crates/jutetrowel/specs/Calls.antt. Where the library's calls
-- are named, the numbers of their changes are values of an f32 (`CallsSingles`), as every number
-- that crosses is. Assumes nothing.
use mathlib.Core.List.{Memᴰ}
use Rattle.std.specs.Prelude.{true, false, ◌⊎◌, ◌≡◌, ℕ, Float, Err, Ok, List, [], ◌∷◌, ◌++◌, reverse}
use Rattle.base.specs.declared.refusal.Refusal.{Refusal}
use Rattle.maps.specs.declared.inputs.Inputs.{Inputs}
use Rattle.worksheet.specs.declared.desks.Worksheet.{Worksheet}
use Rattle.worksheet.specs.Desks.{open_of, opened_of, sheet_opened_of}
use Rattle.worksheet.specs.Showing.{Source, pair, show_of, show_buffer}
use Rattle.worksheet.specs.Journal.{Call, commit, show, shown, Entry, good, step, run, own, shorter, keep, kept_by_itself, OwnCall, kept_of, Demand3, accepted}
use Rattle.jutetrowel.specs.Words.{worksheet_of, words_after}
use Rattle.jutetrowel.specs.Calls.{CallsSingles, words_left, Demand3Over}
use Rattle.results.specs.Insurer.{DesksClosed}

-- ---- demand 3: 'every call kept answers alike in both, each showing's whole figures included, and
-- after both the inputs and the earlier set are equal, bit for bit'

-- Of every list of calls on a worksheet that opens, refused calls included, with one record and one
-- month file lent throughout: run on the same worksheet, the shorter list of document 01 answers
-- call by call as in the full list, and inputs and earlier set end the same
abbrev pub DemandThree : Type 0
DemandThree =
    (f2 file : List ℕ) (i : Inputs) → (open_of i).answer ≡ Ok tt → (cs : List Call) →
    Demand3 (pair f2 file) (open_of i).sheet cs

-- The same of the library's calls, each on the words that the one before it left, whatever words
-- were lent to the open, if the numbers of the changes are values of an f32
abbrev pub DemandThreeOver : Type 0
DemandThreeOver =
    (f2 file s lent : List ℕ) → (opened_of s).answer ≡ Ok tt → (cs : List Call) → CallsSingles cs →
    Demand3Over (pair f2 file) (words_after (opened_of s) lent) cs

-- The same over any source of files, of every worksheet whose desks are closed, with or without an
-- earlier set
abbrev pub DemandThreeLent : Type 0
DemandThreeLent = (source : Source) (w : Worksheet) → DesksClosed w → (cs : List Call) → Demand3 source w cs

-- The same of the library's calls, from all words that hold such a worksheet
abbrev pub DemandThreeOverLent : Type 0
DemandThreeOverLent =
    (source : Source) (l : List ℕ) → DesksClosed (worksheet_of l) → (cs : List Call) → CallsSingles cs →
    Demand3Over source l cs

-- ---- demand 3: 'form the shorter list: the accepted commits and take-backs and the worksheet's
-- showings, in their order, each such commit with its own begin, accepted changes and showings
-- moved up just before it'

-- Of the accepted commits and take-backs and the worksheet's showings, the shorter list has all, in
-- their order, each as often
abbrev pub KeptInOrder : Type 0
KeptInOrder =
    (source : Source) (w : Worksheet) (cs : List Call) →
    keep kept_by_itself (kept_of source w cs) ≡ keep kept_by_itself (run source cs w).entries

-- Where a commit of desk n is accepted, its own calls stand just before it in the shorter list,
-- after what is kept of the entries before it, and before what is kept of those after
abbrev pub JustBefore : Type 0
JustBefore =
    (n : ℕ) (before after : List Entry) (x : Entry) → x.call ≡ commit n → good x ≡ true →
    shorter [] (before ++ (x ∷ after))
    ≡ shorter [] before ++ (own n (reverse before) ++ (x ∷ shorter (x ∷ reverse before) after))

-- Whatever the shorter list has is an accepted commit or take-back, a showing of the worksheet, or
-- an own call of an accepted commit of the full list
abbrev pub NothingElse : Type 0
NothingElse =
    (full : List Entry) (y : Entry) → Memᴰ y (shorter [] full) → (kept_by_itself y ≡ true) ⊎ OwnCall full y

-- ---- demand 1: 'A refusal changes neither worksheet nor lent buffer'

-- Any of the six calls of a list (begin, change, commit, cancel, take back, show) that is refused
-- leaves the worksheet as it was, whatever worksheet and files,
abbrev pub RefusedSheet : Type 0
RefusedSheet =
    (source : Source) (c : Call) (w : Worksheet) → accepted (step source c w).answer ≡ false →
    (step source c w).sheet ≡ w

-- and of these six as the library's calls, one that is refused leaves the lent words as they were,
-- bit for bit,
abbrev pub RefusedWords : Type 0
RefusedWords =
    (source : Source) (c : Call) (l : List ℕ) → accepted (step source c (worksheet_of l)).answer ≡ false →
    words_left source c l ≡ l

-- and a showing that is refused leaves the buffer as it was lent
abbrev pub RefusedBuffer : Type 0
RefusedBuffer =
    (source : Source) (n : ℕ) (lent : List Float) (w : Worksheet) (why : Refusal) →
    show_of source n lent w ≡ Err why → show_buffer source n lent w ≡ lent

-- ---- document 01, Open: 'a refused one gives no worksheet'

-- Where an open is refused, a showing of the worksheet that stands beside the refusal is refused by
-- the same number and place, whatever is lent; of its other calls nothing is said
abbrev pub OpenRefused : Type 0
OpenRefused =
    (source : Source) (i : Inputs) (lent : List Float) (why : Refusal) → (open_of i).answer ≡ Err why →
    show_of source 0 lent (open_of i).sheet ≡ Err why

-- The same of the 14 words of a sheet, with the buffer left as it was lent
abbrev pub SheetRefused : Type 0
SheetRefused =
    (source : Source) (s : List ℕ) (lent : List Float) (why : Refusal) → (sheet_opened_of s).answer ≡ Err why →
    (step source (show 0 lent) (sheet_opened_of s).sheet).answer ≡ shown (Err why) lent
