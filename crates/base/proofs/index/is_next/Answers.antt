-- `is_next` is `exceeds`, test by test: the unsigned words exceed each other as the signed do.
use Rattle.std.proofs.Common.{sym, ◌∙◌, eq-eqb, eqb-true, le-ltb}
use Rattle.base.proofs.ladder.Ladders.{exceeds_even, exceeds_odd, exceeds_not}
use Rattle.base.proofs.verdicts.Picks.{never, never'}
use Rattle.base.proofs.index.is_next.Goals.{then-p-q, else-p-q}
use Rattle.base.proofs.index.is_next.Goals as goal

pub returns-then-q-p-eq0 : goal.returns-then-q-p-eq0
returns-then-q-p-eq0 c =
    elim c.if-p-q.branch [
      | then-p-q w ↦ sym (exceeds_even _ _ c.requires w.if-p-q.true (eqb-true _ _ (sym w.value-is ∙ c.if-q-p-eq0.true)))
      | else-p-q w ↦ never (sym (le-ltb _ _ w.if-p-q.false) ∙ sym w.value-is ∙ c.if-q-p-eq0.true)
    ]

pub returns-else-q-p-eq0 : goal.returns-else-q-p-eq0
returns-else-q-p-eq0 c =
    elim c.if-p-q.branch [
      | then-p-q w ↦ c.if-q-p-eq0.false ∙ sym (exceeds_odd _ _ c.requires (λ e. never' (sym (eq-eqb _ _ e) ∙ sym w.value-is ∙ c.if-q-p-eq0.false)))
      | else-p-q w ↦ w.value-is ∙ le-ltb _ _ w.if-p-q.false ∙ sym (exceeds_not _ _ c.requires w.if-p-q.false)
    ]
