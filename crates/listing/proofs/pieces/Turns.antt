-- The text of an answer as it is handed back is that of the step's answer, by the answer's case;
-- and a run with one call more. Assumes nothing.
use Rattle.std.proofs.Common.{ℕ, List, [], ◌∷◌, ◌++◌, ◌≡◌, refl, ap, ap₂, ◌∙◌, Float}
use Rattle.worksheet.specs.declared.journal.Next.{Next}
use Rattle.worksheet.specs.declared.desks.Worksheet.{Worksheet}
use Rattle.worksheet.specs.Showing.{Source}
use Rattle.worksheet.specs.Journal.{Call, Answer, told, shown, Step, step, run}
use Rattle.worksheet.specs.Calls.{handed, buffer_after, next_of}
use Rattle.listing.specs.Turn.{answer_text, handed_text}

same_text : (a : Answer) (lent : List Float) → handed_text (handed a) (buffer_after a lent) ≡ answer_text a
unfolding handed_text answer_text
same_text (told v) lent = refl
same_text (shown s after) lent = refl

pub turn_as : (s : Step) (lent : List Float) {r : Next} {figures : List Float} {text : List ℕ} → r ≡ next_of s → figures ≡ buffer_after s.answer lent
    → text ≡ handed_text r.answer figures → (r.sheet ≡ s.sheet) × (text ≡ answer_text s.answer)
unfolding next_of
turn_as s lent p q t = (
  ap (λ (n : Next). n.sheet) p,
  t ∙ ap₂ (λ (n : Next) (l : List Float). handed_text n.answer l) p q ∙ same_text s.answer lent,
)

-- one call more: the worksheet that a run leaves is what the last call leaves of the one before it
pub run_last : (source : Source) (cs : List Call) (c : Call) (w : Worksheet) → (run source (cs ++ (c ∷ [])) w).sheet ≡ (step source c (run source cs w).sheet).sheet
unfolding run
run_last source [] c w = refl
run_last source (x ∷ cs) c w = run_last source cs c (step source x w).sheet
