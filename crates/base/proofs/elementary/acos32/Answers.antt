-- `acos32` widens, works in `f64` and narrows, as its definition does.
use Rattle.std.proofs.Common.{ap, ◌∙◌}
use Rattle.base.specs.Number.{narrow_of}
use Rattle.base.specs.Elementary.{acos_of, acos32_of}
use Rattle.base.proofs.elementary.acos32.Goals as goal

pub returns : goal.returns
unfolding acos32_of
returns c = c.narrow.ensures ∙ ap narrow_of (c.acos64.ensures ∙ ap acos_of c.widen.ensures)
