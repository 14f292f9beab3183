-- `is_accepted` tells an answer from a refusal, by the answer's cases.
use Rattle.std.proofs.Common.{rules}
use Rattle.auditing.specs.Gathered.{handed_good}
use Rattle.auditing.proofs.gathering.is_accepted.Goals as goal

pub returns-in-Told : goal.returns-in-Told
unfolding handed_good
returns-in-Told c = search rules

pub returns-in-Shown : goal.returns-in-Shown
unfolding handed_good
returns-in-Shown c = search rules
