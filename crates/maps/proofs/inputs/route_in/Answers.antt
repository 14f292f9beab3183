-- `route_in` is `route_from`, field by field, by what `degrees_in` ensures.
use Rattle.maps.specs.Inputs.{route_from}
use Rattle.maps.proofs.inputs.route_in.Goals as goal

pub returns : goal.returns
unfolding route_from
returns c = cc
