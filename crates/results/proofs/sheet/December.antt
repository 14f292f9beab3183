-- A list with a change of month and of model, worked out: its calls by computation, for any source of
-- files, and its showing since after every list of calls a worksheet that opens is shown. Assumes
-- nothing.
use Rattle.std.proofs.Common.{Ok, List, [], ◌∷◌, map, ◌≡◌, refl, ap, ◌∙◌, ℕ, length, Float}
use Rattle.base.specs.Ranges.{month_check, model_check}
use Rattle.maps.specs.declared.inputs.Inputs.{Inputs}
use Rattle.maps.specs.Figures.{sheet_path, figures_of}
use Rattle.worksheet.specs.declared.inputs.Edit.TheVariants.{Month, Model}
use Rattle.worksheet.specs.Inputs.{edit_check, edited}
use Rattle.worksheet.specs.Desks.{draft_at, with_draft, inputs_of, stale_of, moved_to, outcome, desk_check, closed_check, draft_check, fresh_check, fresh_sheet, open_of, begin_check, begin_of, change_check, edited_draft, change_of, commit_check, commit_of}
use Rattle.worksheet.specs.Showing.{Source, year_files_check, yearly}
use Rattle.worksheet.specs.Journal.{Call, begin, change, commit, show, Answer, told, shown, Entry, step, run}
use Rattle.results.specs.OneYear.{part_at, record_at, to_december}
use Rattle.results.proofs.sheet.OwnParts.{year_always_shown}

abbrev changes : List Call
changes = begin 1 ∷ change 1 (Month 12) ∷ change 1 (Model 1) ∷ commit 1 ∷ []

abbrev in_december : Inputs → Inputs
in_december i = edited (Model 1) (edited (Month 12) i)

abbrev answers_of : List Entry → List Answer
answers_of = map (λ (e : Entry). e.answer)

abbrev four_and : Answer → List Answer
four_and r = told (Ok tt) ∷ told (Ok tt) ∷ told (Ok tt) ∷ told (Ok tt) ∷ r ∷ []

module _ (source : Source) (i : Inputs) (lent : List Float) where
  answered :
      answers_of (run source (to_december lent) (open_of i).sheet).entries
      ≡ four_and (step source (show 0 lent) (run source changes (open_of i).sheet).sheet).answer
  unfolding run step open_of fresh_sheet draft_at with_draft inputs_of stale_of moved_to outcome desk_check closed_check draft_check fresh_check begin_check begin_of change_check edited_draft change_of commit_check commit_of edit_check edited month_check model_check
  answered = refl

-- over any year file that refuses nothing of month 12 and URSI
pub december : (s : List ℕ) → year_files_check s 12 1 ≡ Ok tt → (i : Inputs) → (open_of i).answer ≡ Ok tt →
    (lent : List Float) → length lent ≡ 151 →
    answers_of (run (yearly s) (to_december lent) (open_of i).sheet).entries
    ≡
    four_and
    (shown (Ok (sheet_path (in_december i)).count) (figures_of (record_at s 12 1) (part_at s 11) (in_december i)))
unfolding answered
december s good i h lent l =
    answered (yearly s) i lent ∙ ap four_and (year_always_shown s i h changes lent l good)
