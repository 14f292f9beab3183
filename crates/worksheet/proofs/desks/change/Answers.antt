-- `change`: each way out, by its definition.
use Rattle.std.proofs.Common.{rules}
use Rattle.worksheet.specs.Desks.{change_of, change_check, desk_check, outcome}
use Rattle.worksheet.proofs.desks.change.Goals as goal

pub returns : goal.returns
unfolding change_of outcome change_check desk_check
returns c = search rules
