-- A call that is made is the step of its case: what the arms of `make` share. Assumes nothing.
use Rattle.std.proofs.Common.{Result, List, ◌≡◌, sym, ap, ◌∙◌, Float, ℕ}
use Rattle.base.specs.declared.refusal.Refusal.{Refusal}
use Rattle.worksheet.specs.declared.desks.Outcome.{Outcome}
use Rattle.worksheet.specs.declared.desks.Worksheet.{Worksheet}
use Rattle.worksheet.specs.declared.journal.Call.{Call as Made}
use Rattle.worksheet.specs.declared.journal.Call.TheVariants.{Show}
use Rattle.worksheet.specs.declared.journal.Answer.TheVariants.{Shown as IsShown}
use Rattle.worksheet.specs.declared.journal.Next.{Next}
use Rattle.worksheet.specs.Showing.{Source, show_of, show_buffer}
use Rattle.worksheet.specs.Journal.{Step, step_of, step}
use Rattle.worksheet.specs.Calls.{called, buffer_after, next_of}
use Rattle.worksheet.proofs.checks.Showings.{Both}

module _ (source : Source) (lent : List Float) (w : Worksheet) where
  abbrev stepped : Made → Step
  stepped k = step source (called k lent) w

  -- a call that shows nothing, of the case c, whose rule gives o
  pub told_as : {k c : Made} {o : Outcome} {r : Next} → k ≡ c → stepped c ≡ step_of o → r ≡ next_of (step_of o)
      → Both (r ≡ next_of (stepped k)) (lent ≡ buffer_after (stepped k).answer lent)
  told_as e s q =
      let h = ap stepped e ∙ s in
      record { answer = q ∙ sym (ap next_of h); buffer = sym (ap (λ (t : Step). buffer_after t.answer lent) h) }

  pub shown_as : {k : Made} {n : ℕ} {shown : Result ℕ Refusal} {after : List Float} → k ≡ Show n
      → shown ≡ show_of source n lent w → after ≡ show_buffer source n lent w
      → Both (record { answer = IsShown shown; sheet = w } ≡ next_of (stepped k)) (after ≡ buffer_after (stepped k).answer lent)
  unfolding step next_of
  shown_as e p q =
      record {
        answer = ap (λ (s : Result ℕ Refusal). record { answer = IsShown s; sheet = w }) p ∙ sym (ap (λ (k : Made). next_of (stepped k)) e);
        buffer = q ∙ sym (ap (λ (k : Made). buffer_after (stepped k).answer lent) e);
      }
