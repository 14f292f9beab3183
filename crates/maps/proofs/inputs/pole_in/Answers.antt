-- `pole_in` is `pole_from`, field by field, by what `degrees_in` ensures.
use Rattle.maps.specs.Inputs.{pole_from}
use Rattle.maps.proofs.inputs.pole_in.Goals as goal

pub returns : goal.returns
unfolding pole_from
returns c = cc
