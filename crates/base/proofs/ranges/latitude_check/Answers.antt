-- `latitude_check` is `latitude_check`: the ends of the range are the decimals, by computation.
use lib.Ieee.{of_bits, round, neg}
use Rattle.base.specs.Single.{decimal, minus_decimal}
use Rattle.base.specs.Ranges.{latitude_check}
use Rattle.base.proofs.verdicts.Refusals.{by_test}
use Rattle.base.proofs.ranges.latitude_check.Goals as goal

pub returns : goal.returns
unfolding latitude_check decimal minus_decimal round of_bits neg
returns c = by_test _ c.refuse_unless.ensures c.is_to.ensures
