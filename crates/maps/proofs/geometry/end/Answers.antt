-- `end` is a place made of the latitude in radians and the longitude that a pole leaves.
use Rattle.maps.specs.Geometry.{end_of}
use Rattle.maps.proofs.geometry.end.Goals as goal

pub returns : goal.returns
unfolding end_of
returns c = rw (c.place_at.ensures, c.end_longitude.ensures, c.to_radians.ensures)
