-- `make` is the `step` of its call, answer and buffer, by the call's six cases.
use Rattle.std.proofs.Common.{refl, ap, ◌∙◌}
use Rattle.worksheet.specs.declared.desks.Outcome.{Outcome}
use Rattle.worksheet.specs.Journal.{step_of, step}
use Rattle.worksheet.specs.Calls.{next_of}
use Rattle.worksheet.proofs.checks.Makings.{told_as, shown_as}
use Rattle.worksheet.proofs.journal.make.Goals as goal

pub returns-in-Begin : goal.returns-in-Begin
unfolding step
returns-in-Begin c =
    told_as _ _ _ c.in-Begin.is refl
    (c.told.ensures ∙ ap (λ (o : Outcome). next_of (step_of o)) c.begin.ensures)

pub returns-in-Change : goal.returns-in-Change
unfolding step
returns-in-Change c =
    told_as _ _ _ c.in-Change.is refl
    (c.told-in-Change.ensures ∙ ap (λ (o : Outcome). next_of (step_of o)) c.change.ensures)

pub returns-in-Commit : goal.returns-in-Commit
unfolding step
returns-in-Commit c =
    told_as _ _ _ c.in-Commit.is refl
    (c.told-in-Commit.ensures ∙ ap (λ (o : Outcome). next_of (step_of o)) c.commit.ensures)

pub returns-in-Cancel : goal.returns-in-Cancel
unfolding step
returns-in-Cancel c =
    told_as _ _ _ c.in-Cancel.is refl
    (c.told-in-Cancel.ensures ∙ ap (λ (o : Outcome). next_of (step_of o)) c.cancel.ensures)

pub returns-in-TakeBack : goal.returns-in-TakeBack
unfolding step
returns-in-TakeBack c =
    told_as _ _ _ c.in-TakeBack.is refl
    (c.told-in-TakeBack.ensures ∙ ap (λ (o : Outcome). next_of (step_of o)) c.take_back.ensures)

pub returns-in-Show : goal.returns-in-Show
returns-in-Show c =
    let s = c.show_lent.ensures in
    shown_as _ _ _ c.in-Show.is s.answer s.buffer
