-- The lines of an audit's page, from what is gathered of a journal: of each field where it comes from, of
-- each draft that is not in the sheet what became of it, the lines of the shorter journal, and the sheet.
-- Assumes nothing.
use Rattle.std.specs.Prelude.{ℕ, suc, ◌-◌, ◌%◌, ◌^◌, false, cond, List, [], ◌∷◌, eqb, get_or, Float, Err, None, Ok, Option, Some}
use Rattle.maps.specs.declared.inputs.Inputs.{Inputs}
use Rattle.worksheet.specs.declared.desks.Worksheet.{Worksheet}
use Rattle.worksheet.specs.declared.journal.Answer.{Answer as Handed}
use Rattle.worksheet.specs.declared.journal.Answer.TheVariants as handed
use Rattle.worksheet.specs.Showing.{Source}
use Rattle.worksheet.specs.Journal.{Answer, told, shown, show, step}
use Rattle.wording.specs.Line.{line_in}
use Rattle.listing.specs.declared.account.Came.{Came}
use Rattle.listing.specs.declared.account.Came.TheVariants as came
use Rattle.listing.specs.declared.account.Became.TheVariants as became
use Rattle.listing.specs.Account.{came_line, draft_line}
use Rattle.listing.specs.Columns.{columns_text}
use Rattle.listing.specs.Turn.{blank}
use Rattle.listing.specs.Written.{line_text}
use Rattle.auditing.specs.declared.marks.Origin.{Origin}
use Rattle.auditing.specs.declared.marks.Origin.TheVariants.{Opened, Set}
use Rattle.auditing.specs.declared.marks.Fate.{Fate}
use Rattle.auditing.specs.declared.marks.Fate.TheVariants.{Stands, TakenBack, Cancelled, Never}
use Rattle.auditing.specs.declared.accounts.Showing.{Showing}
use Rattle.auditing.specs.declared.accounts.Showing.TheVariants as showing
use Rattle.auditing.specs.Marks.{mark_good, mark_desk, is_done, is_showing, mark_at, origin_before, fate_from, refused_from}
use Rattle.auditing.specs.Gathered.{line_at}

-- ---- a call by its place

-- the number of its line; 0 where nothing is gathered of it
abbrev pub number_at : List ℕ → ℕ → ℕ
number_at numbers p = get_or numbers p 0

-- its desk; the remainder changes nothing, since a call's desk is below 2 ^ 32
abbrev pub desk_at : List ℕ → ℕ → ℕ
desk_at marks p = mark_desk (mark_at marks p) % 2 ^ 32

-- ---- what an audit is of

unfoldable pub showing_by : ℕ → Showing
showing_by m = cond (is_showing m) (cond (mark_good m) showing.Shown showing.Refused) showing.Other

-- whether the last of `count` calls stands on this line and shows the worksheet
unfoldable pub showing_at : List ℕ → List ℕ → ℕ → ℕ → Showing
showing_at marks numbers count line =
    let last = count - 1 in
    cond (eqb count 0) showing.Other
    (cond (eqb (number_at numbers last) line) (showing_by (mark_at marks last)) showing.Other)

-- ---- where a field comes from

-- the part of the inputs that field k, from 1 to 15, is of (as `edit_part`); 0, no part, for any other
abbrev pub field_parts : List ℕ
field_parts = 0 ∷ 1 ∷ 2 ∷ 3 ∷ 4 ∷ 4 ∷ 4 ∷ 4 ∷ 4 ∷ 5 ∷ 5 ∷ 5 ∷ 5 ∷ 6 ∷ 6 ∷ 7 ∷ []

abbrev pub field_part : ℕ → ℕ
field_part k = get_or field_parts k 0

-- an origin with the numbers of lines for places; the open is on line `opened`
abbrev pub came_by : ℕ → List ℕ → List ℕ → Origin → Came
came_by opened marks numbers Opened = came.Opened opened
came_by opened marks numbers (Set p s) = came.Set (desk_at marks p) (number_at numbers p) (number_at numbers s)

-- THE LINE OF FIELD k of the inputs i, by the first `count` calls; there is none of a field that is none
unfoldable pub field_account : Inputs → ℕ → List ℕ → List ℕ → ℕ → ℕ → List ℕ
field_account i opened marks numbers count k =
    came_line i k (came_by opened marks numbers (origin_before marks (field_part k) false count))

-- ---- what became of a draft

abbrev pub balked_by : List ℕ → Option ℕ → Option ℕ
balked_by numbers None = None
balked_by numbers (Some p) = Some (number_at numbers p)

-- the line of a draft of this desk by its fate: there is none where it stands
abbrev pub fate_line : List ℕ → ℕ → ℕ → Option ℕ → Fate → List ℕ
fate_line numbers n begun b (Stands s) = []
fate_line numbers n begun b (TakenBack s t) =
    draft_line n begun b (became.TakenBack (number_at numbers s) (number_at numbers t))
fate_line numbers n begun b (Cancelled s) = draft_line n begun b (became.Cancelled (number_at numbers s))
fate_line numbers n begun b Never = draft_line n begun b became.Never

-- the line of the draft of desk n that the call at place p, one of `count`, begins
unfoldable pub begun_line : List ℕ → List ℕ → ℕ → ℕ → ℕ → List ℕ
begun_line marks numbers count n p =
    let rest = count - suc p in
    fate_line numbers n (number_at numbers p) (balked_by numbers (refused_from marks n None (suc p) rest))
    (fate_from marks n (suc p) rest)

-- THE LINE OF A DRAFT that is not in the sheet, if the call at place p begins one
unfoldable pub draft_account : List ℕ → List ℕ → ℕ → ℕ → List ℕ
draft_account marks numbers count p =
    cond (is_done 8 (mark_at marks p)) (begun_line marks numbers count (desk_at marks p) p) []

-- ---- the shorter journal

-- the line that begins at byte s of a text, written anew as it is kept
abbrev pub line_account : List ℕ → ℕ → List ℕ
line_account text s = line_text (line_in (line_at text s))

-- ---- the sheet

-- the page of a showing of the inputs i that was not refused
abbrev pub answer_page : Inputs → Answer → List ℕ
answer_page i (told v) = []
answer_page i (shown (Ok count) figures) = columns_text i count figures
answer_page i (shown (Err why) figures) = []

-- THE SHEET that a showing of the worksheet w gives; nothing where it is refused
unfoldable pub sheet_account : Source → Worksheet → List ℕ
sheet_account source w = answer_page w.inputs (step source (show 0 blank) w).answer

-- ---- on the way: nothing below need be believed

-- the same of an answer as it is handed back, with the buffer beside it
unfoldable pub handed_page : Inputs → Handed → List Float → List ℕ
handed_page i (handed.Told v) figures = []
handed_page i (handed.Shown (Ok count)) figures = columns_text i count figures
handed_page i (handed.Shown (Err why)) figures = []
