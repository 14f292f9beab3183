-- `mean_latitude` picks by whether there is one point.
use Rattle.std.proofs.Common.{sym, ◌∙◌, eq-eqb, ne_eqb}
use lib.Ieee.{round, of_bits}
use Rattle.base.specs.Single.{decimal}
use Rattle.maps.specs.Geometry.{mean_latitude}
use Rattle.base.proofs.verdicts.Picks.{cond_true, cond_false}
use Rattle.maps.proofs.geometry.mean_latitude.Goals as goal

pub returns-then-count-eq1 : goal.returns-then-count-eq1
unfolding mean_latitude
returns-then-count-eq1 c = c.abs32.ensures ∙ sym (cond_true _ _ (eq-eqb _ _ c.if-count-eq1.true))

pub returns-else-count-eq1 : goal.returns-else-count-eq1
unfolding mean_latitude decimal round of_bits
returns-else-count-eq1 c = c.abs32-else-count-eq1.ensures ∙ sym (cond_false _ _ (ne_eqb _ _ c.if-count-eq1.false))
