-- `commit`: each way out, by its definition.
use Rattle.std.proofs.Common.{rules}
use Rattle.worksheet.specs.Desks.{commit_of, commit_check, desk_check, outcome}
use Rattle.worksheet.proofs.desks.commit.Goals as goal

pub returns : goal.returns
unfolding commit_of outcome commit_check desk_check
returns c = search rules
