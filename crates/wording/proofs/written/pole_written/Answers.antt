-- `pole_written` is `pole_written`, field by field.
use Rattle.wording.specs.Written.{pole_written}
use Rattle.wording.proofs.written.pole_written.Goals as goal

pub returns : goal.returns
unfolding pole_written
returns c = cc
