-- `from_north` picks by how near its end is to a pole, and by which pole.
use Rattle.std.proofs.Common.{sym, ◌∙◌}
use lib.Ieee.{round, of_bits}
use Rattle.base.specs.Single.{decimal}
use Rattle.base.specs.Constants.{PI}
use Rattle.maps.specs.Geometry.{from_north}
use Rattle.base.proofs.verdicts.Picks.{cond_true, cond_false}
use Rattle.maps.proofs.geometry.from_north.Goals as goal

pub returns-then-from : goal.returns-then-from
unfolding from_north decimal round of_bits
returns-then-from c = sym (cond_true _ _ (sym c.is_polar.ensures ∙ c.if-is_polar.true) ∙ cond_true _ _ c.if-from.true)

pub returns-else-from : goal.returns-else-from
unfolding from_north PI decimal round of_bits
returns-else-from c = sym (cond_true _ _ (sym c.is_polar.ensures ∙ c.if-is_polar.true) ∙ cond_false _ _ c.if-from.false)

pub returns-else-is_polar : goal.returns-else-is_polar
unfolding from_north
returns-else-is_polar c = c.acos_clamped.ensures ∙ sym (cond_false _ _ (sym c.is_polar.ensures ∙ c.if-is_polar.false))
