-- `flag_check` is `flag_check`, by what `is_bit` and `refuse_unless` ensure.
use Rattle.worksheet.specs.Inputs.{flag_check}
use Rattle.base.proofs.verdicts.Refusals.{by_test}
use Rattle.worksheet.proofs.inputs.flag_check.Goals as goal

pub returns : goal.returns
unfolding flag_check
returns c = by_test _ c.refuse_unless.ensures c.is_bit.ensures
