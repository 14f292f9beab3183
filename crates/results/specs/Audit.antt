-- An auditor's question: which call set each part of the inputs in force, and what became of each
-- draft? The words of the answer stand in crates/auditing/specs/Provenance.antt, over a run's
-- entries, and in Marks.antt, by marks and places, as a program computes them. Assumes nothing.
use Rattle.std.specs.Prelude.{ℕ, zero, suc, ◌+◌, ◌≤◌, ◌<◌, Bool, true, false, not, ◌&&◌, ◌↔◌, ◌≡◌, eqb, length, None, Ok, Some, List, [], ◌∷◌, ◌++◌, reverse}
use mathlib.Core.List.{Memᴰ}
use Rattle.maps.specs.declared.inputs.Inputs.{Inputs}
use Rattle.worksheet.specs.declared.desks.Worksheet.{Worksheet}
use Rattle.worksheet.specs.Desks.{open_of}
use Rattle.worksheet.specs.Showing.{Source}
use Rattle.worksheet.specs.Journal.{Call, commit, cancel, take_back, Role, beginning, ending, settling, belonging, returning, showing, Entry, role_in, good, run, begins, shorter, none}
use Rattle.worksheet.specs.InForce.{changed, changes_by, AcceptedCommit, commits_in_force, in_force, start_left, NeverCancelled}
use Rattle.auditing.specs.declared.marks.Fate.TheVariants.{Stands, TakenBack, Cancelled, Never}
use Rattle.auditing.specs.Provenance.{edit_part, StandingChange, standing, last_standing, origin_of, edits_named, named_changes, fate_of, ends_draft, is_refusing, refused_of}
use Rattle.auditing.specs.Marks.{marks_of, origin_before, fate_from, kept_places}
use Rattle.results.specs.ExhibitedFiles.{Below}
use Rattle.results.specs.Insurer.{DesksClosed}

-- ---- words of this page

-- none of some changes is of this part
unfoldable pub none_of_part : ℕ → List StandingChange → Bool
none_of_part part [] = true
none_of_part part (x ∷ l) = not (eqb (edit_part x.edit) part) && none_of_part part l

-- the entry at a place, as a list of one; none past the end
unfoldable pub entry_at : List Entry → ℕ → List Entry
entry_at [] k = []
entry_at (x ∷ l) zero = x ∷ []
entry_at (x ∷ l) (suc k) = entry_at l k

-- the entries at some places, in the order of the places
unfoldable pub entries_at : List Entry → List ℕ → List Entry
entries_at l [] = []
entries_at l (k ∷ ks) = entry_at l k ++ entries_at l ks

-- the change x stands among the entries: its desk made it in a draft that was begun before, never
-- disturbed and then committed, by a commit that nobody took back (`NeverCancelled`); and its own
-- place and that of its commit are those that x names
pub record StandsAt (entries : List Entry) (x : StandingChange) : Type 0 where
  pub draft : NeverCancelled entries x.edit
  pub its_desk : draft.desk ≡ x.desk
  pub change_place : length (draft.front ++ (draft.its_begin ∷ draft.to_change)) ≡ x.place
  pub commit_place :
      length (draft.front ++ (draft.its_begin ∷ (draft.to_change ++ (draft.its_change ∷ draft.to_commit))))
      ≡ x.settled
  pub change_first : x.place < x.settled

-- x is the last standing change of this part
pub record LastOfPart (part : ℕ) (x : StandingChange) (changes : List StandingChange) : Type 0 where
  pub of_part : edit_part x.edit ≡ part
  pub before : List StandingChange
  pub later : List StandingChange
  pub split : changes ≡ before ++ (x ∷ later)
  pub last : none_of_part part later ≡ true

-- the draft of desk n that was begun by b, after the entries `front`, is that of a commit in force,
-- at the place c: between the two the desk began no other
pub record CommittedAt (w : Worksheet) (entries front : List Entry) (b : Entry) (n c : ℕ) : Type 0 where
  pub its_commit : AcceptedCommit
  pub in_force_law : Memᴰ its_commit (commits_in_force w entries)
  pub its_desk : its_commit.desk ≡ n
  pub its_place : length its_commit.past ≡ c
  pub between : List Entry
  pub split : reverse its_commit.past ≡ front ++ (b ∷ between)
  pub own_begin : none (begins n) between ≡ true

-- an accepted commit or take-back, of whatever desk
abbrev pub is_moving : Role → Bool → Bool
is_moving (beginning n) good = false
is_moving (ending n) good = false
is_moving (settling n) good = good
is_moving (belonging n even es) good = false
is_moving returning good = good
is_moving showing good = false

abbrev pub moves : Entry → Bool
moves x = is_moving (role_in x) (good x)

-- of some entries, of which the first has the place `at`: the first accepted cancel or commit of desk n
-- is a cancel and has the place p
pub record CancelledAt (n at p : ℕ) (later : List Entry) : Type 0 where
  pub before : List Entry
  pub its_cancel : Entry
  pub after : List Entry
  pub split : later ≡ before ++ (its_cancel ∷ after)
  pub still_open : none (ends_draft n) before ≡ true
  pub is_cancel : its_cancel.call ≡ cancel n
  pub cancelled : good its_cancel ≡ true
  pub its_place : at + length before ≡ p

-- of such entries: the first accepted cancel or commit of desk n is a commit and has the place c, and the
-- first accepted commit or take-back after it is a take-back and has the place t
pub record TakenBackAt (n at c t : ℕ) (later : List Entry) : Type 0 where
  pub before : List Entry
  pub its_commit : Entry
  pub between : List Entry
  pub its_return : Entry
  pub after : List Entry
  pub split : later ≡ before ++ (its_commit ∷ (between ++ (its_return ∷ after)))
  pub still_open : none (ends_draft n) before ≡ true
  pub is_commit : its_commit.call ≡ commit n
  pub committed : good its_commit ≡ true
  pub commit_place : at + length before ≡ c
  pub none_between : none moves between ≡ true
  pub is_return : its_return.call ≡ take_back
  pub returned : good its_return ≡ true
  pub return_place : at + length (before ++ (its_commit ∷ between)) ≡ t

-- there are no entries, or the first is an accepted cancel or commit of desk n
abbrev pub EndsFirst : ℕ → List Entry → Type 0
EndsFirst n [] = Unit
EndsFirst n (x ∷ l) = ends_draft n x ≡ true

-- some entries in two: `during` has those before the first accepted cancel or commit of desk n, or all
-- where there is none, and `after` the others
pub record WhileOpen (n : ℕ) (later : List Entry) : Type 0 where
  pub during : List Entry
  pub after : List Entry
  pub split : later ≡ during ++ after
  pub still_open : none (ends_draft n) during ≡ true
  pub then_ended : EndsFirst n after

-- a commit of desk n, refused
abbrev pub refuses_commit : ℕ → Entry → Bool
refuses_commit n x = is_refusing n (role_in x) (good x)

-- of some entries, of which the first has the place `at`: the last refused commit of desk n while its
-- draft is open has the place p
pub record RefusedAt (n at p : ℕ) (later : List Entry) : Type 0 where
  pub while_open : WhileOpen n later
  pub before : List Entry
  pub its_refusal : Entry
  pub since : List Entry
  pub split : while_open.during ≡ before ++ (its_refusal ∷ since)
  pub is_commit : its_refusal.call ≡ commit n
  pub refused : good its_refusal ≡ false
  pub last : none (refuses_commit n) since ≡ true
  pub its_place : at + length before ≡ p

-- there is no refused commit of desk n while its draft is open
pub record NoneRefused (n : ℕ) (later : List Entry) : Type 0 where
  pub while_open : WhileOpen n later
  pub none_refused : none (refuses_commit n) while_open.during ≡ true

-- ---- which call set each part of the inputs in force

-- On a worksheet that opens, after every list of calls: the inputs in force are the opened ones with
-- the changes named, one at most for each part (`NamedStands`), and no others
abbrev pub NamedMake : Type 0
NamedMake =
    (source : Source) (opened : Inputs) → (open_of opened).answer ≡ Ok tt → (cs : List Call) →
    let w = (open_of opened).sheet in
    let entries = (run source cs w).entries in
    in_force w entries ≡ changed opened (named_changes w entries)

-- The same of every worksheet whose desks are closed: they are its inputs with those changes, or its
-- earlier set, where the first accepted commit or take-back is a take-back (`start_left`)
abbrev pub NamedMakeLent : Type 0
NamedMakeLent =
    (source : Source) (w : Worksheet) → DesksClosed w → (cs : List Call) →
    let entries = (run source cs w).entries in
    in_force w entries ≡ changed (start_left w entries) (named_changes w entries)

-- Where a change is named for a part, it is one only; it stands at the places that it names, and it
-- is the last standing change of that part
abbrev pub NamedStands : Type 0
NamedStands =
    (source : Source) (w : Worksheet) → DesksClosed w → (cs : List Call) →
    let entries = (run source cs w).entries in
    (part : ℕ) (x : StandingChange) (others : List StandingChange) → last_standing part w entries ≡ x ∷ others →
    (others ≡ []) × (StandsAt entries x × LastOfPart part x (standing w entries))

-- Where none is named for a part, no standing change is of that part
abbrev pub OpenedStands : Type 0
OpenedStands =
    (w : Worksheet) (entries : List Entry) (part : ℕ) → last_standing part w entries ≡ [] →
    none_of_part part (standing w entries) ≡ true

-- The standing changes are those of the commits in force, in their order
abbrev pub StandingChanges : Type 0
StandingChanges =
    (w : Worksheet) (entries : List Entry) →
    edits_named (standing w entries) ≡ changes_by (commits_in_force w entries)

-- ---- the same by marks

-- The origin of each part, 1 to 7, is what is found backwards through the marks of a run
abbrev pub OriginByMarks : Type 0
OriginByMarks =
    (source : Source) (w : Worksheet) → DesksClosed w → (cs : List Call) (part : ℕ) → part ≤ 7 →
    let entries = (run source cs w).entries in
    origin_before (marks_of entries) part false (length entries) ≡ origin_of part w entries

-- The shorter list of a run is its entries at the places kept, in their order
abbrev pub KeptByMarks : Type 0
KeptByMarks =
    (source : Source) (w : Worksheet) (cs : List Call) →
    let entries = (run source cs w).entries in
    shorter [] entries ≡ entries_at entries (kept_places (marks_of entries) (length entries))

-- Each of these places is a call's
abbrev pub KeptPlacesBelow : Type 0
KeptPlacesBelow =
    (entries : List Entry) → Below (length entries) (kept_places (marks_of entries) (length entries))

-- The fate of a draft of desk n is what is found forwards through the marks after its begin b
abbrev pub FateByMarks : Type 0
FateByMarks =
    (n : ℕ) (front later : List Entry) (b : Entry) →
    fate_from (marks_of (front ++ (b ∷ later))) n (suc (length front)) (length later)
    ≡ fate_of n (suc (length front)) later

-- ---- what became of each draft

-- An accepted begin's draft stands, by the commit at the place c, exactly where it is the draft of a
-- commit in force at that place
abbrev pub FateStands : Type 0
FateStands =
    (source : Source) (w : Worksheet) → DesksClosed w → (cs : List Call) →
    let entries = (run source cs w).entries in
    (n c : ℕ) (front later : List Entry) (b : Entry) → entries ≡ front ++ (b ∷ later) → begins n b ≡ true →
    (fate_of n (suc (length front)) later ≡ Stands c) ↔ CommittedAt w entries front b n c

-- The fate of a draft of desk n, by the entries after its begin, of which the first has the place `at`:
-- it was cancelled at the place p exactly where the desk's first accepted cancel or commit among them is
-- a cancel and has that place
abbrev pub FateCancelled : Type 0
FateCancelled =
    (n at p : ℕ) (later : List Entry) → (fate_of n at later ≡ Cancelled p) ↔ CancelledAt n at p later

-- It was committed at the place c and taken back at the place t exactly where the desk's first accepted
-- cancel or commit among them is a commit and has the place c, and the first accepted commit or
-- take-back after that, of whatever desk, is a take-back and has the place t
abbrev pub FateTakenBack : Type 0
FateTakenBack =
    (n at c t : ℕ) (later : List Entry) → (fate_of n at later ≡ TakenBack c t) ↔ TakenBackAt n at c t later

-- It was never ended exactly where no accepted cancel or commit of the desk is among them
abbrev pub FateNever : Type 0
FateNever = (n at : ℕ) (later : List Entry) → (fate_of n at later ≡ Never) ↔ (none (ends_draft n) later ≡ true)

-- Its last refused commit is said to have the place p exactly where that is the place of the desk's last
-- refused commit among those of the entries that stand before the desk's first accepted cancel or commit
-- (all of them, where there is none)
abbrev pub RefusedLast : Type 0
RefusedLast =
    (n at p : ℕ) (later : List Entry) →
    (refused_of n None at later ≡ Some p) ↔ RefusedAt n at p later

-- It is said to have none exactly where no refused commit of the desk is among those
abbrev pub RefusedNever : Type 0
RefusedNever =
    (n at : ℕ) (later : List Entry) →
    (refused_of n None at later ≡ None) ↔ NoneRefused n later
