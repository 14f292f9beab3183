-- `month_check` is `month_check`, by what `is_month` and `refuse_unless` ensure.
use Rattle.base.specs.Ranges.{month_check}
use Rattle.base.proofs.verdicts.Refusals.{by_test}
use Rattle.base.proofs.ranges.month_check.Goals as goal

pub returns : goal.returns
unfolding month_check
returns c = by_test _ c.refuse_unless.ensures c.is_month.ensures
