-- `control_point` reads the sample area's place, and its geomagnetic latitude from the same place.
use Rattle.maps.specs.Geometry.{point_of}
use Rattle.maps.proofs.geometry.control_point.Goals as goal

pub returns : goal.returns
unfolding point_of
returns c = rw (c.gmlat.ensures, c.sample-at.ensures)
