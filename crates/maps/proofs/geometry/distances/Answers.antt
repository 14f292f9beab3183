-- `distances` picks its row of literals and sums by the count.
use Rattle.std.proofs.Common.{sym, ◌∙◌, eq-eqb, ne_eqb}
use lib.Ieee.{round, of_bits}
use Rattle.base.specs.Single.{decimal}
use Rattle.base.specs.Constants.{RZ}
use Rattle.maps.specs.Geometry.{R1, distances_of}
use Rattle.base.proofs.verdicts.Picks.{cond_true, cond_false}
use Rattle.maps.proofs.geometry.distances.Goals as goal

pub returns-then-count-eq1 : goal.returns-then-count-eq1
unfolding distances_of decimal round of_bits
returns-then-count-eq1 c = sym (cond_true _ _ (eq-eqb _ _ c.if-count-eq1.true))

pub returns-then-count-eq3 : goal.returns-then-count-eq3
unfolding distances_of R1 RZ decimal round of_bits
returns-then-count-eq3 c = sym (cond_false _ _ (ne_eqb _ _ c.if-count-eq1.false) ∙ cond_true _ _ (eq-eqb _ _ c.if-count-eq3.true))

pub returns-else-count-eq3 : goal.returns-else-count-eq3
unfolding distances_of R1 RZ decimal round of_bits
returns-else-count-eq3 c = sym (cond_false _ _ (ne_eqb _ _ c.if-count-eq1.false) ∙ cond_false _ _ (ne_eqb _ _ c.if-count-eq3.false))
