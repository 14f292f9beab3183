-- `btr_deg` is one call of `to_degrees`.
use Rattle.maps.specs.Geometry.{btr_deg}
use Rattle.maps.proofs.geometry.btr_deg.Goals as goal

pub returns : goal.returns
unfolding btr_deg
returns c = c.to_degrees.ensures
