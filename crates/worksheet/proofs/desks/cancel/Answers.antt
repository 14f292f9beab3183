-- `cancel`: each way out, by its definition.
use Rattle.std.proofs.Common.{rules}
use Rattle.worksheet.specs.Desks.{cancel_of, cancel_check, desk_check, outcome}
use Rattle.worksheet.proofs.desks.cancel.Goals as goal

pub returns : goal.returns
unfolding cancel_of outcome cancel_check desk_check
returns c = search rules
