-- `inputs_written` is `inputs_written`, field by field.
use Rattle.wording.specs.Written.{inputs_written}
use Rattle.wording.proofs.written.inputs_written.Goals as goal

pub returns : goal.returns
unfolding inputs_written
returns c = cc
