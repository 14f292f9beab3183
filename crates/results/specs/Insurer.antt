-- The insurer's question: where does a printed line come from? The words of the answer stand in
-- crates/worksheet/specs/Journal.antt (calls, entries, `run`) and InForce.antt (`Insured`,
-- `NeverCancelled`, `taken_back`), those over the library's words in
-- crates/jutetrowel/specs/Calls.antt. Where the library's calls are named, the numbers of their
-- changes are values of an f32 (`CallsSingles`), as every number that crosses is. Assumes nothing.
use mathlib.Core.List.{Memᴰ}
use Rattle.std.specs.Prelude.{true, ◌≡◌, ℕ, length, Float, Ok, List, [], ◌∷◌, ◌++◌, reverse}
use Rattle.base.specs.Files.{files_check}
use Rattle.maps.specs.declared.inputs.Inputs.{Inputs}
use Rattle.maps.specs.Figures.{sheet_path, figures_of}
use Rattle.worksheet.specs.declared.inputs.Edit.{Edit}
use Rattle.worksheet.specs.declared.desks.Draft.TheVariants.{Closed, Fresh}
use Rattle.worksheet.specs.declared.desks.Worksheet.{Worksheet}
use Rattle.worksheet.specs.Inputs.{inputs_check}
use Rattle.worksheet.specs.Desks.{draft_at, open_of, opened_of}
use Rattle.worksheet.specs.Showing.{Source, pair}
use Rattle.worksheet.specs.Journal.{Call, begin, commit, show, shown, Entry, accepted, good, step, run}
use Rattle.worksheet.specs.InForce.{AcceptedCommit, changed, changes_by, commits_in_force, in_force, commits_left, start_left, FiguresOf, DraftUndisturbed, CommitInForce, InForceBy, NeverCancelled, Insured}
use Rattle.jutetrowel.specs.declared.answers.Showing.{Showing}
use Rattle.jutetrowel.specs.Words.{worksheet_of, words_after}
use Rattle.jutetrowel.specs.Calls.{CallsSingles, Shows, entries_over, words_over}
use Rattle.results.specs.ExhibitedFiles.{Below}

-- ---- two words of this page

-- the entry of an accepted showing of the worksheet: this buffer was lent to it, and it gave this
-- many points and these figures
abbrev pub accepted_showing : List Float → ℕ → List Float → Entry
accepted_showing lent count figures = record { call = show 0 lent; answer = shown (Ok count) figures }

-- no desk has a draft
pub record DesksClosed (w : Worksheet) : Type 0 where
  pub d1 : w.d1 ≡ Closed
  pub d2 : w.d2 ≡ Closed
  pub d3 : w.d3 ≡ Closed
  pub d4 : w.d4 ≡ Closed

-- ---- the insurer's question: 'that its layer heights, its critical frequencies and its ground all
-- came from one sunspot number, one hour and one route, and from no edit that somebody had
-- cancelled'

-- Of every list of calls on a worksheet that opens, with one record and one month file lent
-- throughout: each accepted showing of the worksheet gave the number of points and all figures of
-- ONE set of inputs: the opened inputs with the changes of exactly those commits before the showing
-- that were accepted and not taken back before it, in their order; and each of these changes, as a
-- value, was made in a draft that was committed and never cancelled (`NeverCancelled`; of each
-- commit for itself `CommitUndisturbed`)
abbrev pub InsurersSentence : Type 0
InsurersSentence =
    (f2 file : List ℕ) (opened : Inputs) → (open_of opened).answer ≡ Ok tt →
    (cs : List Call) (before later : List Entry) (lent figures : List Float) (count : ℕ) →
    (run (pair f2 file) cs (open_of opened).sheet).entries ≡ before ++ (accepted_showing lent count figures ∷ later) →
    Insured (pair f2 file) opened before count figures

-- The same of the library's calls, each on the words that the one before it left, whatever words
-- were lent to the open, if the numbers of the changes are values of an f32
abbrev pub InsurersSentenceOpened : Type 0
InsurersSentenceOpened =
    (f2 file s words : List ℕ) → (opened_of s).answer ≡ Ok tt → (cs : List Call) → CallsSingles cs →
    (before later : List Entry) (lent figures : List Float) (count : ℕ) →
    entries_over (pair f2 file) cs (words_after (opened_of s) words)
    ≡ before ++ (accepted_showing lent count figures ∷ later) →
    Insured (pair f2 file) (opened_of s).sheet.inputs before count figures

-- The same by what the caller sees: after an open that is accepted and any list of the library's
-- calls, `jt_show` of the worksheet hands back r and leaves `figures` in the buffer (`Shows`, its
-- contract); where r's number is 0, the figures and r's points are insured by the list before
abbrev pub InsurersSentenceHanded : Type 0
InsurersSentenceHanded =
    (f2 file s words : List ℕ) → (opened_of s).answer ≡ Ok tt → (cs : List Call) → CallsSingles cs →
    (lent figures : List Float) (r : Showing) →
    let l = words_after (opened_of s) words in
    Shows (step (pair f2 file) (show 0 lent) (worksheet_of (words_over (pair f2 file) cs l))).answer r figures →
    r.number ≡ 0 →
    Insured (pair f2 file) (opened_of s).sheet.inputs (entries_over (pair f2 file) cs l) r.points figures

-- ---- and there are such showings

-- After every list of calls on a worksheet that opens, its inputs are in range
abbrev pub StayInRange : Type 0
StayInRange =
    (source : Source) (opened : Inputs) → (open_of opened).answer ≡ Ok tt → (cs : List Call) →
    inputs_check (run source cs (open_of opened).sheet).sheet.inputs ≡ Ok tt

-- so over every record and month file that pass their checks a showing of the worksheet is accepted
-- then, in every buffer of 151 numbers: with the number of points and the figures of its inputs
abbrev pub AlwaysShown : Type 0
AlwaysShown =
    (f2 file : List ℕ) → files_check f2 file ≡ Ok tt → (opened : Inputs) → (open_of opened).answer ≡ Ok tt →
    (cs : List Call) (lent : List Float) → length lent ≡ 151 →
    let w = (run (pair f2 file) cs (open_of opened).sheet).sheet in
    (step (pair f2 file) (show 0 lent) w).answer
    ≡ shown (Ok (sheet_path w.inputs).count) (figures_of f2 file w.inputs)

-- The same of the worksheet that was just opened
abbrev pub FirstShowing : Type 0
FirstShowing =
    (f2 file : List ℕ) → files_check f2 file ≡ Ok tt → (i : Inputs) → (open_of i).answer ≡ Ok tt →
    (lent : List Float) → length lent ≡ 151 →
    (step (pair f2 file) (show 0 lent) (open_of i).sheet).answer
    ≡ shown (Ok (sheet_path i).count) (figures_of f2 file i)

-- There are 56 bytes, the 14 words of a sheet, that open; a 15th word, the model, then counts as 0
abbrev pub SomeOpen : Type 0
SomeOpen = (s : List ℕ) × ((length s ≡ 56) × (Below 256 s × ((opened_of s).answer ≡ Ok tt)))

-- There are a record and a month file over which every worksheet that was just opened is shown as
-- in `FirstShowing`
abbrev pub ShowingsExist : Type 0
ShowingsExist =
    (f2 : List ℕ) × ((file : List ℕ) × (
    (i : Inputs) → (open_of i).answer ≡ Ok tt → (lent : List Float) → length lent ≡ 151 →
    (step (pair f2 file) (show 0 lent) (open_of i).sheet).answer
    ≡ shown (Ok (sheet_path i).count) (figures_of f2 file i)))

-- ---- the same from other starts: a worksheet that may have an earlier set, any source of files

-- Over any source of files, of every worksheet whose desks are closed: the set has those changes on
-- top of the worksheet's inputs, or of its earlier set, where the first accepted commit or
-- take-back before the showing is a take-back (`start_left`)
abbrev pub InsurersSentenceLent : Type 0
InsurersSentenceLent =
    (source : Source) (w : Worksheet) → DesksClosed w →
    (cs : List Call) (before later : List Entry) (lent figures : List Float) (count : ℕ) →
    (run source cs w).entries ≡ before ++ (accepted_showing lent count figures ∷ later) →
    Insured source (start_left w before) before count figures

-- The same of the library's calls, from all words that hold such a worksheet
abbrev pub InsurersSentenceOver : Type 0
InsurersSentenceOver =
    (source : Source) (l : List ℕ) → DesksClosed (worksheet_of l) → (cs : List Call) → CallsSingles cs →
    (before later : List Entry) (lent figures : List Float) (count : ℕ) →
    entries_over source cs l ≡ before ++ (accepted_showing lent count figures ∷ later) →
    Insured source (start_left (worksheet_of l) before) before count figures

-- ---- 'from no edit that somebody had cancelled', of every worksheet whose desks are closed at the
-- start

-- A change in force, as a value, was accepted between an accepted begin of its desk and that desk's
-- accepted commit; between them nobody committed or took back, nor was the draft cancelled or begun
-- anew; and the commit was not taken back
abbrev pub ChangeNeverCancelled : Type 0
ChangeNeverCancelled =
    (source : Source) (w : Worksheet) → DesksClosed w → (cs : List Call) (e : Edit) →
    Memᴰ e (changes_by (commits_in_force w (run source cs w).entries)) →
    NeverCancelled (run source cs w).entries e

-- The same of the library's calls
abbrev pub ChangeNeverCancelledOver : Type 0
ChangeNeverCancelledOver =
    (source : Source) (l : List ℕ) → DesksClosed (worksheet_of l) → (cs : List Call) → CallsSingles cs → (e : Edit) →
    Memᴰ e (changes_by (commits_in_force (worksheet_of l) (entries_over source cs l))) →
    NeverCancelled (entries_over source cs l) e

-- A commit in force stands among the entries, was accepted, and was not taken back
abbrev pub CommitSource : Type 0
CommitSource =
    (source : Source) (w : Worksheet) → DesksClosed w → (cs : List Call) (c : AcceptedCommit) →
    Memᴰ c (commits_in_force w (run source cs w).entries) →
    CommitInForce (run source cs w).entries c

-- A change in force, as a value, was accepted, among the own calls of such a commit
abbrev pub ChangeSource : Type 0
ChangeSource =
    (source : Source) (w : Worksheet) → DesksClosed w → (cs : List Call) (e : Edit) →
    Memᴰ e (changes_by (commits_in_force w (run source cs w).entries)) →
    InForceBy (run source cs w).entries e

-- A draft that is committed was begun before, while the inputs were in force that still are at the
-- commit; between the two nobody committed or took back, and it was not cancelled or begun anew;
-- its own calls are that begin and what belongs to the desk between the two
abbrev pub UndisturbedDraft : Type 0
UndisturbedDraft =
    (source : Source) (w : Worksheet) → DesksClosed w →
    (cs : List Call) (before later : List Entry) (x : Entry) (n : ℕ) →
    (run source cs w).entries ≡ before ++ (x ∷ later) → x.call ≡ commit n → good x ≡ true →
    DraftUndisturbed w n before

-- So it is with each commit in force for itself, even where the same change was also made
-- elsewhere: it was accepted and not taken back, and its draft is such a one
abbrev pub CommitUndisturbed : Type 0
CommitUndisturbed =
    (source : Source) (w : Worksheet) → DesksClosed w → (cs : List Call) (c : AcceptedCommit) →
    Memᴰ c (commits_in_force w (run source cs w).entries) →
    CommitInForce (run source cs w).entries c × DraftUndisturbed w c.desk (reverse c.past)

-- ---- 'from one sunspot number, one hour and one route': the set is the inputs in force, a fold
-- over the entries that looks at no draft

-- On a worksheet that opens, each accepted showing of the worksheet gave the number of points and
-- all figures of the inputs in force after the entries before it
abbrev pub InsurersLine : Type 0
InsurersLine =
    (f2 file : List ℕ) (opened : Inputs) → (open_of opened).answer ≡ Ok tt →
    (cs : List Call) (before later : List Entry) (lent figures : List Float) (count : ℕ) →
    (run (pair f2 file) cs (open_of opened).sheet).entries ≡ before ++ (accepted_showing lent count figures ∷ later) →
    FiguresOf (pair f2 file) (in_force (open_of opened).sheet before) count figures

-- The same over any source of files, of every worksheet whose desks are closed
abbrev pub InsurersLineLent : Type 0
InsurersLineLent =
    (source : Source) (w : Worksheet) → DesksClosed w →
    (cs : List Call) (before later : List Entry) (lent figures : List Float) (count : ℕ) →
    (run source cs w).entries ≡ before ++ (accepted_showing lent count figures ∷ later) →
    FiguresOf source (in_force w before) count figures

-- The same of the library's calls, from all words that open
abbrev pub InsurersLineOver : Type 0
InsurersLineOver =
    (f2 file s words : List ℕ) → (opened_of s).answer ≡ Ok tt → (cs : List Call) → CallsSingles cs →
    (before later : List Entry) (lent figures : List Float) (count : ℕ) →
    entries_over (pair f2 file) cs (words_after (opened_of s) words)
    ≡ before ++ (accepted_showing lent count figures ∷ later) →
    FiguresOf (pair f2 file) (in_force (worksheet_of (words_after (opened_of s) words)) before) count figures

-- ---- the inputs in force are the worksheet's inputs

-- After every list of calls on a worksheet that opens, its inputs are those in force
abbrev pub OpenedInForce : Type 0
OpenedInForce =
    (f2 file : List ℕ) (opened : Inputs) → (open_of opened).answer ≡ Ok tt → (cs : List Call) →
    (run (pair f2 file) cs (open_of opened).sheet).sheet.inputs
    ≡ in_force (open_of opened).sheet (run (pair f2 file) cs (open_of opened).sheet).entries

-- The same over any source of files, of every worksheet whose desks are closed
abbrev pub InputsInForce : Type 0
InputsInForce =
    (source : Source) (w : Worksheet) → DesksClosed w → (cs : List Call) →
    (run source cs w).sheet.inputs ≡ in_force w (run source cs w).entries

-- The same of the library's calls: of the inputs that the words hold
abbrev pub InForceOver : Type 0
InForceOver =
    (source : Source) (l : List ℕ) → DesksClosed (worksheet_of l) → (cs : List Call) → CallsSingles cs →
    (worksheet_of (words_over source cs l)).inputs ≡ in_force (worksheet_of l) (entries_over source cs l)

-- Of such a worksheet, what an accepted begin copies after every list of calls is the inputs in
-- force then
abbrev pub BegunInForce : Type 0
BegunInForce =
    (source : Source) (w : Worksheet) → DesksClosed w → (cs : List Call) (n : ℕ) →
    let r = run source cs w in
    let begun = step source (begin n) r.sheet in
    accepted begun.answer ≡ true → draft_at n begun.sheet ≡ Fresh (in_force w r.entries)

-- ---- the same without the fold, of every worksheet whose desks are closed at the start

-- The commits in force are the accepted commits that were not taken back: all of them, in the same
-- order
abbrev pub CommitsExactly : Type 0
CommitsExactly =
    (source : Source) (w : Worksheet) → DesksClosed w → (cs : List Call) →
    commits_in_force w (run source cs w).entries ≡ commits_left [] (run source cs w).entries

-- The inputs in force are those at the start (`start_left`) with the changes of those commits
abbrev pub InForceExactly : Type 0
InForceExactly =
    (source : Source) (w : Worksheet) → DesksClosed w → (cs : List Call) →
    let entries = (run source cs w).entries in
    in_force w entries ≡ changed (start_left w entries) (changes_by (commits_left [] entries))

-- On a worksheet that opens, they are the opened inputs with the changes of those commits
abbrev pub OpenedExactly : Type 0
OpenedExactly =
    (f2 file : List ℕ) (opened : Inputs) → (open_of opened).answer ≡ Ok tt → (cs : List Call) →
    let entries = (run (pair f2 file) cs (open_of opened).sheet).entries in
    in_force (open_of opened).sheet entries ≡ changed opened (changes_by (commits_left [] entries))
