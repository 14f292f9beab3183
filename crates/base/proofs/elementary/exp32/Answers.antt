-- `exp32` widens, works in `f64` and narrows, as its definition does.
use Rattle.std.proofs.Common.{ap, ◌∙◌}
use Rattle.base.specs.Number.{narrow_of}
use Rattle.base.specs.Elementary.{exp_of, exp32_of}
use Rattle.base.proofs.elementary.exp32.Goals as goal

pub returns : goal.returns
unfolding exp32_of
returns c = c.narrow.ensures ∙ ap narrow_of (c.exp64.ensures ∙ ap exp_of c.widen.ensures)
