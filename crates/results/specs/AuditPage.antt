-- The insurer's page: is what `desk audit` says of a journal true of that journal? The page's lines
-- are those of crates/auditing/specs/Accounts.antt, in the order of Page.antt there, made from what
-- `gather` keeps of a text (Gathered.antt); here they are said of the run of the journal's calls
-- (Provenance.antt there, and Journal.antt and InForce.antt of crates/worksheet/specs). By `gather`'s
-- contract every text whose first lines told an open and calls is an `Audited` one where the buffers have
-- room. That `desk` reads the files, and prints what is spoken of here, is run and not proved
-- (docs/STORY.md). Assumes nothing.
use Rattle.std.specs.Prelude.{ℕ, suc, ◌≤◌, min, true, false, cond, List, [], ◌∷◌, ◌++◌, ◌↔◌, ◌≡◌, length, take, Float, Err, None, Ok}
use Rattle.base.specs.declared.refusal.Refusal.{Refusal}
use Rattle.base.specs.Files.{files_check}
use Rattle.maps.specs.declared.inputs.Inputs.{Inputs}
use Rattle.worksheet.specs.declared.desks.Worksheet.{Worksheet}
use Rattle.worksheet.specs.Inputs.{edited}
use Rattle.worksheet.specs.Showing.{Source, pair}
use Rattle.worksheet.specs.Journal.{show, shown, Entry, begins, shorter, calls_of}
use Rattle.worksheet.specs.InForce.{in_force, FiguresOf}
use Rattle.wording.specs.declared.line.Line.TheVariants.{Open}
use Rattle.wording.specs.declared.written.WrittenCall.{WrittenCall}
use Rattle.wording.specs.declared.written.WrittenCall.TheVariants.{Show}
use Rattle.wording.specs.declared.written.WrittenInputs.{WrittenInputs}
use Rattle.wording.specs.Token.{ascii}
use Rattle.wording.specs.Written.{inputs_written}
use Rattle.listing.specs.declared.account.Came.{Came}
use Rattle.listing.specs.declared.account.Came.TheVariants.{Opened, Set}
use Rattle.listing.specs.Account.{came_line, title_text, drafts_head, none_line, shorter_head, sheet_head}
use Rattle.listing.specs.Columns.{columns_text}
use Rattle.listing.specs.Fields.{in_turn, field_text}
use Rattle.listing.specs.Spoken.{spoken_text}
use Rattle.listing.specs.Turn.{blank}
use Rattle.listing.specs.Written.{line_text}
use Rattle.sitting.specs.Sitting.{first_sitting}
use Rattle.auditing.specs.declared.accounts.Showing.TheVariants.{Shown, Refused}
use Rattle.auditing.specs.declared.gathering.Gathered.{Gathered}
use Rattle.auditing.specs.declared.marks.Fate.TheVariants.{Stands}
use Rattle.auditing.specs.Provenance.{StandingChange, last_standing, fate_of, refused_of}
use Rattle.auditing.specs.Marks.{kept_places}
use Rattle.auditing.specs.Gathered.{Numbered, sits, told_by, call_told, calls_told, numbers_told, sheet_opened, run_told, Gathers}
use Rattle.auditing.specs.Accounts.{number_at, showing_at, field_part, field_account, balked_by, fate_line, draft_account, line_account, sheet_account}
use Rattle.auditing.specs.Page.{drafts_text, no_drafts, page_size, page_part}
use Rattle.results.specs.Insurer.{accepted_showing}
use Rattle.results.specs.ReadBack.{call_lines, numbered_from}
use Rattle.results.specs.Heard.{heard_by}

-- ---- words of this page

-- a journal that is audited: of the first `lines` lines of a text, which told an open and calls after
-- it, `gather` made this, over these files, and no buffer was too short for the calls
pub record Audited : Type 0 where
  pub source : Source
  pub text : List ℕ
  pub lines : ℕ
  pub opening : WrittenInputs
  pub opened_at : ℕ
  pub calls : List Numbered
  pub told : told_by text lines ≡ sits opening opened_at calls
  pub kept : Gathered
  pub marks : List ℕ
  pub numbers : List ℕ
  pub starts : List ℕ
  pub gathered : Gathers source text lines kept marks numbers starts
  pub marks_room : length calls ≤ length marks
  pub numbers_room : length calls ≤ length numbers
  pub starts_room : length calls ≤ length starts

-- the worksheet that was opened, and the run of the calls on it
abbrev pub opened_sheet : Audited → Worksheet
opened_sheet a = sheet_opened a.opening

abbrev pub entries_in : Audited → List Entry
entries_in a = (run_told a.source a.opening a.calls).entries

-- the numbers of the calls' lines, by places
abbrev pub lines_in : Audited → List ℕ
lines_in a = numbers_told a.calls

-- where a field comes from, by the last standing change of its part, or none: the change's desk, its
-- line and its commit's, or the open's line
abbrev pub came_from : Audited → List StandingChange → Came
came_from a [] = Opened a.opened_at
came_from a (x ∷ l) = Set x.desk (number_at (lines_in a) x.place) (number_at (lines_in a) x.settled)

-- the page's shorter journal: the open, and the calls at the places kept, each line written anew
unfoldable pub lines_at : List ℕ → List ℕ → List ℕ → List ℕ
lines_at text starts [] = []
lines_at text starts (p ∷ ps) = line_account text (number_at starts p) ++ lines_at text starts ps

abbrev pub places_kept : Audited → List ℕ
places_kept a = kept_places a.marks a.kept.count

-- the calls at some places, as they were written; a take-back for a place past their end
unfoldable pub calls_at : List Numbered → List ℕ → List WrittenCall
calls_at cs [] = []
calls_at cs (p ∷ ps) = call_told cs p ∷ calls_at cs ps

abbrev pub calls_kept : Audited → List WrittenCall
calls_kept a = calls_at a.calls (places_kept a)

abbrev pub shorter_text : Audited → List ℕ
shorter_text a = line_account a.text a.kept.start ++ lines_at a.text a.starts (places_kept a)

-- the last call shows the worksheet, stands on this line, and was not refused
pub record ShownLast (a : Audited) (line : ℕ) : Type 0 where
  pub before : List Numbered
  pub split : a.calls ≡ before ++ (record { call = Show 0; line = line } ∷ [])
  pub points : ℕ
  pub figures : List Float
  pub answered :
      entries_in a
      ≡ (run_told a.source a.opening before).entries ++ (accepted_showing blank points figures ∷ [])

-- the last call shows the worksheet, stands on this line, and was refused
pub record RefusedShowing (a : Audited) (line : ℕ) : Type 0 where
  pub before : List Numbered
  pub split : a.calls ≡ before ++ (record { call = Show 0; line = line } ∷ [])
  pub why : Refusal
  pub buffer : List Float
  pub answered :
      entries_in a
      ≡ (run_told a.source a.opening before).entries
      ++ (record { call = show 0 blank; answer = shown (Err why) buffer } ∷ [])

-- ---- of which lines there is a page

-- `showing_at` answers `Shown`, on which `desk` prints the page, exactly where the last of the calls that
-- were gathered shows the worksheet, stands on the line asked for, and was not refused
abbrev pub PageShowing : Type 0
PageShowing =
    (a : Audited) (line : ℕ) →
    (showing_at a.marks a.numbers a.kept.count line ≡ Shown) ↔ ShownLast a line

-- It answers `Refused`, on which `desk` prints the refusal instead, exactly where the last of them shows the
-- worksheet, stands on the line asked for, and was refused. So with `PageShowing`, where neither is so, it
-- answers `Other`, which is all that is left
abbrev pub PageRefused : Type 0
PageRefused =
    (a : Audited) (line : ℕ) →
    (showing_at a.marks a.numbers a.kept.count line ≡ Refused) ↔ RefusedShowing a line

-- ---- where the fields come from

-- The line of each field has its value in the inputs in force, and the desk and line of the last
-- standing change of its part with the line of the commit that settled it, or, where none stands, the
-- line of the open
abbrev pub PageFields : Type 0
PageFields =
    (a : Audited) (k : ℕ) →
    field_account a.kept.sheet.inputs a.kept.opened a.marks a.numbers a.kept.count k
    ≡ came_line (in_force (opened_sheet a) (entries_in a)) k
    (came_from a (last_standing (field_part k) (opened_sheet a) (entries_in a)))

-- Where a change is named for a field, the field's text is what that change makes of it on any inputs.
-- That it is the change of the line named is `NamedStands` (Audit.antt)
abbrev pub PageSetValue : Type 0
PageSetValue =
    (a : Audited) (k : ℕ) → 1 ≤ k → k ≤ 15 → (x : StandingChange) (others : List StandingChange) →
    last_standing (field_part k) (opened_sheet a) (entries_in a) ≡ x ∷ others → (any : Inputs) →
    field_text (in_force (opened_sheet a) (entries_in a)) k ≡ field_text (edited x.edit any) k

-- Where none is, it is the text of the field as it was opened
abbrev pub PageOpenedValue : Type 0
PageOpenedValue =
    (a : Audited) (k : ℕ) → 1 ≤ k → k ≤ 15 →
    last_standing (field_part k) (opened_sheet a) (entries_in a) ≡ [] →
    field_text (in_force (opened_sheet a) (entries_in a)) k ≡ field_text (inputs_written a.opening) k

-- ---- the drafts that are not in it

-- Every accepted begin has the line of its draft by what became of it: none where the draft stands,
-- else the lines of its cancel, or of its commit and the take-back, or that it was not committed by then,
-- and before that the line of its last refused commit, if one was refused
abbrev pub PageDrafts : Type 0
PageDrafts =
    (a : Audited) (n : ℕ) (front later : List Entry) (b : Entry) → entries_in a ≡ front ++ (b ∷ later) →
    begins n b ≡ true →
    let p = length front in
    draft_account a.marks a.numbers a.kept.count p
    ≡ fate_line (lines_in a) n (number_at (lines_in a) p) (balked_by (lines_in a) (refused_of n None (suc p) later))
    (fate_of n (suc p) later)

-- and no other call has a line
abbrev pub PageNoDraft : Type 0
PageNoDraft =
    (a : Audited) (front later : List Entry) (x : Entry) → entries_in a ≡ front ++ (x ∷ later) →
    ((n : ℕ) → begins n x ≡ false) →
    draft_account a.marks a.numbers a.kept.count (length front) ≡ []

-- So `none` stands in their place exactly where every draft that was begun stands
abbrev pub PageNone : Type 0
PageNone =
    (a : Audited) →
    (no_drafts a.marks a.numbers a.kept.count ≡ true)
    ↔ ((n : ℕ) (front later : List Entry) (b : Entry) → entries_in a ≡ front ++ (b ∷ later) → begins n b ≡ true →
    (s : ℕ) × (fate_of n (suc (length front)) later ≡ Stands s))

-- ---- the shorter journal

-- the text is the open and the calls kept, each written anew on a line of its own, and nothing else; it
-- tells the open on line 1 and these calls from line 2 on, and they are the calls of document 01's
-- shorter list
pub record ShorterTold (a : Audited) : Type 0 where
  pub written : shorter_text a ≡ line_text (Open a.opening) ++ call_lines (calls_kept a)
  pub told : told_by (shorter_text a) (suc (length (calls_kept a))) ≡ sits a.opening 1 (numbered_from 2 (calls_kept a))
  pub shorter_list : calls_told (numbered_from 2 (calls_kept a)) ≡ calls_of (shorter [] (entries_in a))

-- The text of the shorter journal is the same open and exactly the calls of the shorter list, those of the
-- journal at the places kept with the digits that were read there, each written anew on a line of its own,
-- and it reads as these. That the places are the shorter list's is `KeptByMarks`, and that none is past the
-- calls' end `KeptPlacesBelow` (Audit.antt)
abbrev pub PageShorter : Type 0
PageShorter = (a : Audited) → ShorterTold a

-- It has no more calls than the journal, so that what has room for these has room for it
abbrev pub PageRoom : Type 0
PageRoom = (a : Audited) → length (places_kept a) ≤ length a.calls

-- So the parts that the page has of its calls (`shorter_part`), by the places that `kept_in` gave in a
-- buffer with room for the journal's calls, are all of them in their order
abbrev pub PageCalls : Type 0
PageCalls =
    (a : Audited) (places : List ℕ) (size : ℕ) → length a.calls ≤ length places →
    size ≡ min (length (places_kept a)) (suc (length places)) →
    (let n = min size (length places) in take n places ≡ take n (places_kept a)) →
    in_turn (λ (j : ℕ). line_account a.text (number_at a.starts (number_at places j))) size
    ≡ lines_at a.text a.starts (places_kept a)

-- What is said of the shorter journal, heard line by line as `desk run` hears it, ends with the same
-- showing: of the same inputs, with the same number of points and the same figures
abbrev pub PageSameSheet : Type 0
PageSameSheet =
    (a : Audited) (line : ℕ) (s : ShownLast a line) →
    let n = suc (length (calls_kept a)) in
    (before : List ℕ)
    × ((heard_by a.source first_sitting (shorter_text a) n).text
    ≡ before ++ spoken_text n (in_force (opened_sheet a) (entries_in a)) (shown (Ok s.points) s.figures))

-- ---- the sheet

-- The sheet is the page of the showing on that line: of the inputs in force, with the points and
-- figures that it was answered, and these are the figures of that one set of inputs
abbrev pub PageSheet : Type 0
PageSheet =
    (a : Audited) (line : ℕ) (s : ShownLast a line) →
    let i = in_force (opened_sheet a) (entries_in a) in
    (sheet_account a.source a.kept.sheet ≡ columns_text i s.points s.figures)
    × FiguresOf a.source i s.points s.figures

-- ---- the whole

-- The parts of the page (`page_part`), one after the other up to the last, are the title, the lines of
-- the 15 fields, the drafts' heading and their lines or `none`, the shorter journal's heading and its
-- text, and the sheet's heading and the sheet; the title has the number that is handed to it
abbrev pub PageWhole : Type 0
PageWhole =
    (a : Audited) (places : List ℕ) (size line : ℕ) → length a.calls ≤ length places →
    size ≡ min (length (places_kept a)) (suc (length places)) →
    (let n = min size (length places) in take n places ≡ take n (places_kept a)) →
    let g = a.kept in
    in_turn (page_part a.source a.text g a.marks a.numbers a.starts places size line)
    (page_size g.count size)
    ≡ title_text line
    ++ (in_turn (λ (k : ℕ). field_account g.sheet.inputs g.opened a.marks a.numbers g.count (suc k)) 15
    ++ (drafts_head
    ++ (drafts_text a.marks a.numbers g.count g.count
    ++ (cond (no_drafts a.marks a.numbers g.count) none_line []
    ++ (shorter_head ++ (shorter_text a ++ (sheet_head ++ sheet_account a.source g.sheet)))))))

-- ---- and there are such pages

-- an audited journal of two lines, an open and `show`, over these files, in buffers of this length
pub record TwoLines (files : Source) (room : ℕ) : Type 0 where
  pub audited : Audited
  pub over : audited.source ≡ files
  pub its_text : audited.text ≡ ascii "open month 6 sunspot 80 hour 12 from 62.47 6.15 to 64.13 -21.9\nshow\n"
  pub marks_are : length audited.marks ≡ room
  pub numbers_are : length audited.numbers ≡ room
  pub starts_are : length audited.starts ≡ room

-- Over every record and month file that pass their checks, and for every length of at least 1, there is
-- an audited journal of two lines, an open and `show`, in buffers of that length, whose last call shows
-- the worksheet, stands on line 2, and was not refused
abbrev pub PageHad : Type 0
PageHad =
    (f2 file : List ℕ) → files_check f2 file ≡ Ok tt → (room : ℕ) → 1 ≤ room →
    (two : TwoLines (pair f2 file) room) × ShownLast two.audited 2

-- Over every record and month file that do not pass them there is an audited journal of the same two lines,
-- in buffers of any length of at least 1, whose last call shows the worksheet, stands on line 2, and was
-- refused by what the files are refused by
abbrev pub PageRefusedHad : Type 0
PageRefusedHad =
    (f2 file : List ℕ) (why : Refusal) → files_check f2 file ≡ Err why → (room : ℕ) → 1 ≤ room →
    (two : TwoLines (pair f2 file) room) × ((showing : RefusedShowing two.audited 2) × (showing.why ≡ why))
