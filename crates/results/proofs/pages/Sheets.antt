-- The page's sheet: a showing leaves the worksheet as it is, so that showing it once more gives the same
-- answer, and its inputs are those in force. Assumes nothing.
use Rattle.std.proofs.Common.{Ok, ℕ, List, ◌≡◌, sym, ap, subst, ◌∙◌}
use Rattle.maps.specs.declared.inputs.Inputs.{Inputs}
use Rattle.worksheet.specs.declared.desks.Worksheet.{Worksheet}
use Rattle.worksheet.specs.Showing.{inputs_shown}
use Rattle.worksheet.specs.Journal.{shown, show, Entry, step}
use Rattle.worksheet.specs.InForce.{in_force, FiguresOf}
use Rattle.wording.specs.declared.written.WrittenCall.TheVariants.{Show}
use Rattle.wording.specs.Written.{call_written}
use Rattle.listing.specs.Columns.{columns_text}
use Rattle.listing.specs.Turn.{blank}
use Rattle.auditing.specs.Gathered.{Numbered, run_told}
use Rattle.auditing.specs.Accounts.{answer_page, sheet_account}
use Rattle.auditing.proofs.journals.Runs.{sheet_more}
use Rattle.results.specs.AuditPage.{Audited, opened_sheet, entries_in, ShownLast}
use Rattle.results.proofs.force.Insured.{shown_figures}
use Rattle.results.proofs.pages.Held.{sat}
use Rattle.results.proofs.pages.Fields.{inputs_as}
use Rattle.results.proofs.pages.Last.{last_same, entries_end}

module _ (a : Audited) (line : ℕ) (s : ShownLast a line) where
  -- the worksheet that is shown
  abbrev pub sheet_shown : Worksheet
  sheet_shown = (run_told a.source a.opening s.before).sheet

  abbrev last : Numbered
  last = record { call = Show 0; line = line }

  pub answered_there : (step a.source (show 0 blank) sheet_shown).answer ≡ shown (Ok s.points) s.figures
  unfolding call_written
  answered_there =
      let front = (run_told a.source a.opening s.before).entries in
      ap (λ (y : Entry). y.answer)
      (last_same front front _ _ (sym (entries_end a s.before last s.split) ∙ s.answered))

  sheet_left : a.kept.sheet ≡ sheet_shown
  unfolding call_written step
  sheet_left =
      (sat a).sheet
      ∙ ap (λ (cs : List Numbered). (run_told a.source a.opening cs).sheet) s.split
      ∙ sheet_more a.source a.opening s.before last

  inputs_there : sheet_shown.inputs ≡ in_force (opened_sheet a) (entries_in a)
  inputs_there = sym (ap (λ (w : Worksheet). w.inputs) sheet_left) ∙ inputs_as a

  -- THE SHEET
  pub sheet_page :
      sheet_account a.source a.kept.sheet
      ≡ columns_text (in_force (opened_sheet a) (entries_in a)) s.points s.figures
  unfolding sheet_account
  sheet_page =
      ap (λ (w : Worksheet). answer_page w.inputs (step a.source (show 0 blank) w).answer) sheet_left
      ∙ (λ t. answer_page (inputs_there t) (answered_there t))

  -- ITS FIGURES are those of the inputs in force
  pub sheet_figures : FiguresOf a.source (in_force (opened_sheet a) (entries_in a)) s.points s.figures
  unfolding inputs_shown
  sheet_figures =
      subst (λ (i : Inputs). FiguresOf a.source i s.points s.figures) inputs_there
      (shown_figures a.source 0 sheet_shown blank s.figures s.points (sym answered_there))
