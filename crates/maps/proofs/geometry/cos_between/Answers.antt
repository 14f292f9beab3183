-- `cos_between` is the definition's sum.
use Rattle.maps.specs.Geometry.{cos_between}
use Rattle.maps.proofs.geometry.cos_between.Goals as goal

pub returns : goal.returns
unfolding cos_between
returns c = rw c.cos32.ensures
