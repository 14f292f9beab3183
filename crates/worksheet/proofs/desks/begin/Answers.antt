-- `begin`: each way out, by its definition.
use Rattle.std.proofs.Common.{rules}
use Rattle.worksheet.specs.Desks.{begin_of, begin_check, outcome}
use Rattle.worksheet.proofs.desks.begin.Goals as goal

pub returns : goal.returns
unfolding begin_of outcome begin_check
returns c = search rules
