-- `cos32` widens, works in `f64` and narrows, as its definition does.
use Rattle.std.proofs.Common.{ap, ◌∙◌}
use Rattle.base.specs.Number.{narrow_of}
use Rattle.base.specs.Elementary.{cos_of, cos32_of}
use Rattle.base.proofs.elementary.cos32.Goals as goal

pub returns : goal.returns
unfolding cos32_of
returns c = c.narrow.ensures ∙ ap narrow_of (c.cos64.ensures ∙ ap cos_of c.widen.ensures)
