-- `atan32` widens, works in `f64` and narrows, as its definition does.
use Rattle.std.proofs.Common.{ap, ◌∙◌}
use Rattle.base.specs.Number.{narrow_of}
use Rattle.base.specs.Elementary.{atan_of, atan32_of}
use Rattle.base.proofs.elementary.atan32.Goals as goal

pub returns : goal.returns
unfolding atan32_of
returns c = c.narrow.ensures ∙ ap narrow_of (c.atan64.ensures ∙ ap atan_of c.widen.ensures)
