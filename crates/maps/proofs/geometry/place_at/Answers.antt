-- `place_at` puts the sine and the cosine of the latitude beside it.
use Rattle.maps.specs.Geometry.{place_of}
use Rattle.maps.proofs.geometry.place_at.Goals as goal

pub returns : goal.returns
unfolding place_of
returns c = rw (c.cos32.ensures, c.sin32.ensures)
