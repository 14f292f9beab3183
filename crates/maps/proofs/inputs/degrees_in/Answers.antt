-- `degrees_in` is `degrees_from`: one word as a number, by what `float32` ensures.
use Rattle.maps.proofs.inputs.degrees_in.Goals as goal

pub returns : goal.returns
returns c = cc
