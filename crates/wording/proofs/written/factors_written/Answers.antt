-- `factors_written` is `factors_written`, field by field.
use Rattle.wording.specs.Written.{factors_written}
use Rattle.wording.proofs.written.factors_written.Goals as goal

pub returns : goal.returns
unfolding factors_written
returns c = cc
