-- `row` picks by whether the point is there; the other arm is +0.0 in every field.
use Rattle.std.proofs.Common.{sym, ◌∙◌}
use lib.Ieee.{round, of_bits}
use Rattle.base.specs.Single.{decimal}
use Rattle.maps.specs.Geometry.{absent, control_point_if}
use Rattle.base.proofs.verdicts.Picks.{cond_true, cond_false}
use Rattle.maps.proofs.geometry.row.Goals as goal

pub returns-then-present : goal.returns-then-present
unfolding control_point_if
returns-then-present c = c.control_point.ensures ∙ sym (cond_true _ _ c.if-present.true)

pub returns-else-present : goal.returns-else-present
unfolding control_point_if absent decimal round of_bits
returns-else-present c = sym (cond_false _ _ c.if-present.false)
