-- `floor` is `floor_at`, by whether the pair is the first.
use Rattle.std.proofs.Common.{sym, ◌∙◌, eq-eqb, ne_eqb}
use Rattle.base.specs.Year.{floor_at}
use Rattle.base.proofs.verdicts.Picks.{cond_true, cond_false}
use Rattle.base.proofs.year.floor.Goals as goal

pub returns-then-k-eq0 : goal.returns-then-k-eq0
unfolding floor_at
returns-then-k-eq0 c = sym (cond_true _ _ (eq-eqb _ _ c.if-k-eq0.true))

pub returns-else-k-eq0 : goal.returns-else-k-eq0
unfolding floor_at
returns-else-k-eq0 c = c.end.ensures ∙ sym (cond_false _ _ (ne_eqb _ _ c.if-k-eq0.false))
