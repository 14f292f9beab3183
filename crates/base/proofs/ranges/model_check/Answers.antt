-- `model_check` is `model_check`, by what `is_bit` and `refuse_unless` ensure.
use Rattle.base.specs.Ranges.{model_check}
use Rattle.base.proofs.verdicts.Refusals.{by_test}
use Rattle.base.proofs.ranges.model_check.Goals as goal

pub returns : goal.returns
unfolding model_check
returns c = by_test _ c.refuse_unless.ensures c.is_bit.ensures
