-- `showing_by` is `showing_by`, by its two tests.
use Rattle.std.proofs.Common.{sym, ◌∙◌, eq-eqb, ne_eqb}
use Rattle.base.proofs.verdicts.Picks.{cond_true, cond_false}
use Rattle.auditing.specs.Accounts.{showing_by}
use Rattle.auditing.proofs.accounts.showing_by.Goals as goal

pub returns-then-not-is_showing : goal.returns-then-not-is_showing
unfolding showing_by
returns-then-not-is_showing c = sym (cond_false _ _ (sym c.is_showing.ensures ∙ c.if-not-is_showing.true))

pub returns-then-mark-eq1 : goal.returns-then-mark-eq1
unfolding showing_by
returns-then-mark-eq1 c =
    sym
    (cond_true _ _ (sym c.is_showing.ensures ∙ c.if-not-is_showing.false)
    ∙ cond_true _ _ (eq-eqb _ _ c.if-mark-eq1.true))

pub returns-else-mark-eq1 : goal.returns-else-mark-eq1
unfolding showing_by
returns-else-mark-eq1 c =
    sym
    (cond_true _ _ (sym c.is_showing.ensures ∙ c.if-not-is_showing.false)
    ∙ cond_false _ _ (ne_eqb _ _ c.if-mark-eq1.false))
