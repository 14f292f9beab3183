-- `brought_by` is `brought_by`, by its two tests.
use Rattle.std.proofs.Common.{sym, ◌∙◌}
use Rattle.base.proofs.verdicts.Picks.{cond_true, cond_false}
use Rattle.auditing.specs.Marks.{brought_by}
use Rattle.auditing.proofs.places.Origins.{brought_at}
use Rattle.auditing.proofs.marks.brought_by.Goals.{else-not-back-via-then-not-back+else-is_done, else-not-back-via-else-not-back}
use Rattle.auditing.proofs.marks.brought_by.Goals as goal

pub returns-then-is_done : goal.returns-then-is_done
returns-then-is_done c =
    let a = c.args in
    c.change_in.ensures
    ∙ sym
    (brought_at _ _ a.back a.j _ c.mark_at-mark.ensures
    ∙ cond_false _ _ c.if-not-back.true
    ∙ cond_true _ _ (sym c.is_done.ensures ∙ c.if-is_done.true))

pub returns-else-not-back : goal.returns-else-not-back
unfolding brought_by
returns-else-not-back c =
    let a = c.args in
    elim c.else-not-back.branch [
      | else-not-back-via-then-not-back+else-is_done w ↦
          sym
          (brought_at _ _ a.back a.j _ c.mark_at-mark.ensures
          ∙ cond_false _ _ w.if-not-back.true
          ∙ cond_false _ _ (sym w.is_done.ensures ∙ w.if-is_done.false))
      | else-not-back-via-else-not-back w ↦ sym (cond_true _ _ w.if-not-back.false)
    ]
