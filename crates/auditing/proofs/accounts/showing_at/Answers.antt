-- `showing_at` is `showing_at`, by whether there is a last call, and on this line.
use Rattle.std.proofs.Common.{sym, ap, ◌∙◌, eq-eqb, ne_eqb}
use Rattle.base.proofs.verdicts.Picks.{cond_true, cond_false}
use Rattle.auditing.specs.Accounts.{showing_by, showing_at}
use Rattle.auditing.proofs.accounts.showing_at.Goals.{then-count-eq0-via-then-count-eq0, then-count-eq0-via-else-count-eq0+then-number_at-line}
use Rattle.auditing.proofs.accounts.showing_at.Goals as goal

pub returns-then-count-eq0 : goal.returns-then-count-eq0
unfolding showing_at
returns-then-count-eq0 c =
    elim c.then-count-eq0.branch [
      | then-count-eq0-via-then-count-eq0 w ↦ sym (cond_true _ _ (eq-eqb _ _ w.if-count-eq0.true))
      | then-count-eq0-via-else-count-eq0+then-number_at-line w ↦
          sym
          (cond_false _ _ (ne_eqb _ _ w.if-count-eq0.false)
          ∙ cond_false _ _ (ne_eqb _ _ (λ q. w.if-number_at-line.true (w.number_at.ensures ∙ q))))
    ]

pub returns : goal.returns
unfolding showing_at
returns c =
    c.showing_by.ensures
    ∙ ap showing_by c.mark_at.ensures
    ∙ sym
    (cond_false _ _ (ne_eqb _ _ c.if-count-eq0.false)
    ∙ cond_true _ _ (eq-eqb _ _ (sym c.number_at.ensures ∙ c.if-number_at-line.false)))
