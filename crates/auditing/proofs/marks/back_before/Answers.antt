-- `back_before` is `back_before`, by its two tests.
use Rattle.std.proofs.Common.{sym, ap, ◌∙◌, not}
use Rattle.base.proofs.verdicts.Picks.{cond_true, cond_false}
use Rattle.auditing.specs.Marks.{back_before}
use Rattle.auditing.proofs.marks.back_before.Goals as goal

pub returns-then-is_done : goal.returns-then-is_done
unfolding back_before
returns-then-is_done c =
    c.if-is_done.true ∙ sym (cond_true _ _ (sym c.is_done.ensures ∙ c.if-is_done.true))

pub returns-then-not-is_done : goal.returns-then-not-is_done
unfolding back_before
returns-then-not-is_done c =
    sym
    (cond_false _ _ (sym c.is_done.ensures ∙ c.if-is_done.false)
    ∙ cond_false _ _ (sym c.is_done-else-is_done.ensures ∙ c.if-not-is_done.true))

pub returns-else-not-is_done : goal.returns-else-not-is_done
unfolding back_before
returns-else-not-is_done c =
    ap not c.if-not-is_done.false
    ∙ sym
    (cond_false _ _ (sym c.is_done.ensures ∙ c.if-is_done.false)
    ∙ cond_true _ _ (sym c.is_done-else-is_done.ensures ∙ c.if-not-is_done.false))
