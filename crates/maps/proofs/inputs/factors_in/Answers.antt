-- `factors_in` is `factors_from`, field by field, by what `float32` ensures.
use Rattle.maps.specs.Inputs.{factors_from}
use Rattle.maps.proofs.inputs.factors_in.Goals as goal

pub returns : goal.returns
unfolding factors_from
returns c = cc
