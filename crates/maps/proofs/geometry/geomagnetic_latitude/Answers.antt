-- `geomagnetic_latitude` wraps `gmlat` of the two places.
use Rattle.maps.specs.Geometry.{geomagnetic_of}
use Rattle.maps.proofs.geometry.geomagnetic_latitude.Goals as goal

pub returns : goal.returns
unfolding geomagnetic_of
returns c = rw (c.gmlat.ensures, c.place_at.ensures, c.pole_place.ensures)
