-- `sin32` widens, works in `f64` and narrows, as its definition does.
use Rattle.std.proofs.Common.{ap, ◌∙◌}
use Rattle.base.specs.Number.{narrow_of}
use Rattle.base.specs.Elementary.{sin_of, sin32_of}
use Rattle.base.proofs.elementary.sin32.Goals as goal

pub returns : goal.returns
unfolding sin32_of
returns c = c.narrow.ensures ∙ ap narrow_of (c.sin64.ensures ∙ ap sin_of c.widen.ensures)
