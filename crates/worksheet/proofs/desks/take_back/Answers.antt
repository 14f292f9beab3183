-- `take_back`: each way out, by its definition.
use Rattle.std.proofs.Common.{rules}
use Rattle.worksheet.specs.Desks.{take_back_of, earlier_check, moved_to, outcome, set_of, stale_of}
use Rattle.worksheet.proofs.desks.take_back.Goals as goal

pub returns : goal.returns
unfolding take_back_of outcome earlier_check moved_to set_of stale_of
returns c = search rules
