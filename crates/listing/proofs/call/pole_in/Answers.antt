-- `pole_in` is `pole_edit`, field by field.
use Rattle.listing.specs.Calls.{pole_edit}
use Rattle.listing.proofs.call.pole_in.Goals as goal

pub returns : goal.returns
unfolding pole_edit
returns c = cc
