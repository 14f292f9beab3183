-- `distance` composes its callees as the definition does.
use Rattle.maps.specs.Geometry.{gcd_of}
use Rattle.maps.proofs.geometry.distance.Goals as goal

pub returns : goal.returns
unfolding gcd_of
returns c = rw (c.other_way.ensures, c.at_least_minimum.ensures, c.acos_clamped-gcd.ensures, c.cos_between.ensures)
