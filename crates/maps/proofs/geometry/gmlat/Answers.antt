-- `gmlat` composes its callees as the definition does.
use Rattle.std.proofs.Common.{ap, ◌∙◌}
use Rattle.maps.specs.Geometry.{latitude_of, gmlat_of}
use Rattle.maps.proofs.geometry.gmlat.Goals as goal

pub returns : goal.returns
unfolding gmlat_of
returns c = c.latitude.ensures ∙ ap latitude_of c.cos_between.ensures
