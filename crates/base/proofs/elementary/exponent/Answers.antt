-- `exponent` is f - 1075 as a float: std's conversion of the difference, turned where it is
-- negative.
use Rattle.std.proofs.Common.{ap, ◌∙◌}
use lib.Ieee.{neg}
use Rattle.base.proofs.steps.Logs.{exponent_down}
use Rattle.base.proofs.elementary.exponent.Goals as goal

pub returns-else-f-ge1075 : goal.returns-else-f-ge1075
returns-else-f-ge1075 c = ap neg c.nearest_u64_to_f64-else-f-ge1075.ensures ∙ exponent_down c.args.f 1075 c.if-f-ge1075.false
