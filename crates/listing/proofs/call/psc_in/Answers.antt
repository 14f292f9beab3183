-- `psc_in` is `psc_edit`, field by field.
use Rattle.listing.specs.Calls.{psc_edit}
use Rattle.listing.proofs.call.psc_in.Goals as goal

pub returns : goal.returns
unfolding psc_edit
returns c = cc
