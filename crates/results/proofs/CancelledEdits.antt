-- What cancelled edits leave behind: each statement of specs/CancelledEdits.antt, from where the
-- work is done. Assumes nothing.
use Rattle.std.proofs.Common.{Err, Ok, false, true≢false, List, ◌≡◌, refl, ℕ}
use Rattle.worksheet.specs.declared.desks.Worksheet.{Worksheet}
use Rattle.worksheet.specs.Journal.{Answer, told, shown, accepted, step}
use Rattle.worksheet.specs.Showing.{pair}
use Rattle.worksheet.proofs.drafts.Effects
use Rattle.worksheet.proofs.lists.Rules as Rules
use Rattle.results.proofs.lists.Kept as Kept
use Rattle.worksheet.proofs.checks.Showings as Showings
use Rattle.worksheet.proofs.drafts.Openings as Openings
use Rattle.jutetrowel.specs.Words.{worksheet_of}
use Rattle.jutetrowel.specs.Calls.{words_by, words_left}
use Rattle.jutetrowel.proofs.lists.Carried as Carried
use Rattle.jutetrowel.proofs.crossing.Unopened as Unopened
use Rattle.results.specs.CancelledEdits.{DemandThree, DemandThreeOver, DemandThreeLent, DemandThreeOverLent, KeptInOrder, JustBefore, NothingElse, RefusedBuffer, OpenRefused, SheetRefused, RefusedSheet, RefusedWords}
use Rattle.results.proofs.sheet.ClosedDesks.{at_rest_law}

pub demand_3 : DemandThree
demand_3 f2 file = Rules.demand_3 (pair f2 file)

pub demand_3_over : DemandThreeOver
demand_3_over f2 file = Carried.demand_3_over (pair f2 file)

pub demand_3_lent : DemandThreeLent
demand_3_lent source w h = Rules.demand_3_lent source w (at_rest_law w h)

pub demand_3_over_lent : DemandThreeOverLent
demand_3_over_lent source l h = Carried.demand_3_over_lent source l (worksheet_of l) refl (at_rest_law (worksheet_of l) h)

pub kept_in_order : KeptInOrder
kept_in_order = Kept.kept_in_order

pub just_before : JustBefore
just_before = Kept.just_before

pub nothing_else : NothingElse
nothing_else = Kept.nothing_else

pub refused_sheet : RefusedSheet
refused_sheet = Effects.refused_unmoved

-- the words by the answer
unwritten : (r : Answer) (w : Worksheet) (l : List ℕ) → accepted r ≡ false → words_by r w l ≡ l
unwritten (told (Ok _)) w l h = absurd (true≢false h)
unwritten (told (Err why)) w l h = refl
unwritten (shown s after) w l h = refl

pub refused_words_law : RefusedWords
unfolding words_left
refused_words_law source c l h =
    let s = step source c (worksheet_of l) in unwritten s.answer s.sheet l h

pub refused_buffer : RefusedBuffer
refused_buffer = Showings.refused_buffer

pub open_refused : OpenRefused
open_refused = Openings.open_refused

pub sheet_refused : SheetRefused
sheet_refused = Unopened.sheet_refused
