-- `change_in` is `change_in`: the desk's word and the edit.
use Rattle.listing.specs.Calls.{change_in}
use Rattle.listing.proofs.call.change_in.Goals as goal

pub returns : goal.returns
unfolding change_in
returns c = cc
