-- `sunspot_check` is `sunspot_check`: the ends of the range are the decimals, by computation.
use lib.Ieee.{of_bits, round}
use Rattle.base.specs.Single.{decimal}
use Rattle.worksheet.specs.Inputs.{sunspot_check}
use Rattle.base.proofs.verdicts.Refusals.{by_test}
use Rattle.worksheet.proofs.inputs.sunspot_check.Goals as goal

pub returns : goal.returns
unfolding sunspot_check decimal round of_bits
returns c = by_test _ c.refuse_unless.ensures c.is_to.ensures
