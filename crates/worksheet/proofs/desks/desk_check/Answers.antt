-- `desk_check` is `desk_check`, by what `is_desk` and `refuse_unless` ensure.
use Rattle.worksheet.specs.Desks.{desk_check}
use Rattle.base.proofs.verdicts.Refusals.{by_test}
use Rattle.worksheet.proofs.desks.desk_check.Goals as goal

pub returns : goal.returns
unfolding desk_check
returns c = by_test _ c.refuse_unless.ensures c.is_desk.ensures
