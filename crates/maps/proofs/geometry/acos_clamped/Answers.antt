-- `acos_clamped` clamps first, as its definition does.
use Rattle.std.proofs.Common.{ap, ◌∙◌}
use Rattle.base.specs.Elementary.{acos32_of}
use Rattle.maps.specs.Geometry.{acos_clamped}
use Rattle.maps.proofs.geometry.acos_clamped.Goals as goal

pub returns : goal.returns
unfolding acos_clamped
returns c = c.acos32.ensures ∙ ap acos32_of c.clamped.ensures
