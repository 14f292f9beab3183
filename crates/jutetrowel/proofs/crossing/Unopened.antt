-- A sheet whose open is refused is shown as refused alike: a showing judges the same fields first.
-- Assumes nothing.
use Rattle.std.proofs.Common.{Err, List, ◌≡◌, ℕ, length, Float}
use Rattle.base.specs.Refusal.{◌then◌, written_over, Verdict}
use Rattle.base.specs.declared.refusal.Refusal.{Refusal}
use Rattle.maps.specs.Figures.{sheet_path, figures_of, points_or}
use Rattle.worksheet.specs.Desks.{fresh_sheet, open_of, sheet_opened_of}
use Rattle.worksheet.specs.Showing.{Source, inputs_shown, asked_check, judged_check, drawn_check, show_check, show_of, show_buffer}
use Rattle.worksheet.specs.Journal.{show, shown, step}

pub sheet_refused : (source : Source) (s : List ℕ) (lent : List Float) (why : Refusal) →
    (sheet_opened_of s).answer ≡ Err why → (step source (show 0 lent) (sheet_opened_of s).sheet).answer ≡ shown (Err why) lent
unfolding step sheet_opened_of open_of fresh_sheet show_of show_buffer show_check judged_check asked_check inputs_shown
sheet_refused source s lent why h =
    let i = (sheet_opened_of s).sheet.inputs in
    let files = source i in
    let check : Verdict → Verdict = λ v. v then drawn_check files (length lent) in
    λ t. shown (points_or (check (h t)) (sheet_path i).count)
    (written_over (check (h t)) (figures_of files.f2 files.file i) lent)
