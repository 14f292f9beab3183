-- The page of an answer as it is handed back is that of the step's answer, by the answer's case.
-- Assumes nothing.
use Rattle.std.proofs.Common.{Err, Ok, ℕ, List, ◌≡◌, refl, ◌∙◌, Float}
use Rattle.maps.specs.declared.inputs.Inputs.{Inputs}
use Rattle.worksheet.specs.declared.desks.Worksheet.{Worksheet}
use Rattle.worksheet.specs.declared.journal.Next.{Next}
use Rattle.worksheet.specs.Showing.{Source}
use Rattle.worksheet.specs.Journal.{Answer, told, shown, show, step}
use Rattle.worksheet.specs.Calls.{handed, buffer_after, next_of}
use Rattle.listing.specs.Turn.{blank}
use Rattle.auditing.specs.Accounts.{answer_page, sheet_account, handed_page}

same_page :
    (i : Inputs) (a : Answer) (lent : List Float) → handed_page i (handed a) (buffer_after a lent) ≡ answer_page i a
unfolding handed_page
same_page i (told v) lent = refl
same_page i (shown (Ok count) after) lent = refl
same_page i (shown (Err why) after) lent = refl

pub sheet_as :
    (source : Source) (w : Worksheet) {r : Next} {figures : List Float} {text : List ℕ} →
    let s = step source (show 0 blank) w in
    r ≡ next_of s → figures ≡ buffer_after s.answer blank → text ≡ handed_page w.inputs r.answer figures →
    text ≡ sheet_account source w
unfolding next_of sheet_account
sheet_as source w p q t =
    t
    ∙ (λ x. handed_page w.inputs (p x).answer (q x))
    ∙ same_page w.inputs (step source (show 0 blank) w).answer blank
