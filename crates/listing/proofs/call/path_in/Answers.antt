-- `path_in` is `path_edit`, field by field.
use Rattle.listing.specs.Calls.{path_edit}
use Rattle.listing.proofs.call.path_in.Goals as goal

pub returns : goal.returns
unfolding path_edit
returns c = cc
