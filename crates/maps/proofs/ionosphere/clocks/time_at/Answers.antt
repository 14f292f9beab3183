-- `time_at` is `time_at`: its calls are rewritten by what they ensure.
use Rattle.maps.specs.Clocks.{time_at}
use Rattle.maps.proofs.ionosphere.clocks.time_at.Goals as goal

pub returns : goal.returns
unfolding time_at
returns c = rw (c.cngtim_of.ensures, c.to_degrees.ensures)
