-- `pole_place` is a place made of the pole in radians.
use Rattle.maps.specs.Geometry.{pole_place}
use Rattle.maps.proofs.geometry.pole_place.Goals as goal

pub returns : goal.returns
unfolding pole_place
returns c = rw (c.place_at.ensures, c.to_radians-2.ensures, c.to_radians.ensures)
