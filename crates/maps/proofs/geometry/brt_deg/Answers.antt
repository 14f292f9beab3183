-- `brt_deg` is one call of `to_degrees`.
use Rattle.maps.specs.Geometry.{brt_deg}
use Rattle.maps.proofs.geometry.brt_deg.Goals as goal

pub returns : goal.returns
unfolding brt_deg
returns c = c.to_degrees.ensures
