-- `route_written` is `route_written`, field by field.
use Rattle.wording.specs.Written.{route_written}
use Rattle.wording.proofs.written.route_written.Goals as goal

pub returns : goal.returns
unfolding route_written
returns c = cc
