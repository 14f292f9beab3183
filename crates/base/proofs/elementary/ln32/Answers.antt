-- `ln32` widens, works in `f64` and narrows, as its definition does.
use Rattle.std.proofs.Common.{ap, ◌∙◌}
use Rattle.base.specs.Number.{narrow_of}
use Rattle.base.specs.Elementary.{ln_of, ln32_of}
use Rattle.base.proofs.elementary.ln32.Goals as goal

pub returns : goal.returns
unfolding ln32_of
returns c = c.narrow.ensures ∙ ap narrow_of (c.ln64.ensures ∙ ap ln_of c.widen.ensures)
