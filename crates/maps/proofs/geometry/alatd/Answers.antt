-- `alatd` reads the rows as the definition does and hands their latitudes to `mean_latitude`.
use Rattle.maps.specs.Geometry.{lat_at, alatd_of}
use Rattle.maps.proofs.geometry.alatd.Goals as goal

pub returns : goal.returns
unfolding lat_at alatd_of
returns c = rw (c.to_degrees.ensures, c.mean_latitude.ensures)
