-- `settled_in` is `settled_from`, by the loop's invariant that the calls that are left answer for the
-- whole: a commit or a take-back decides, or it goes on.
use Rattle.std.proofs.Common.{◌-◌, ◌≡◌}
use Rattle.auditing.specs.Marks.{settled_from}
use Rattle.auditing.proofs.marks.settled_in.Given as goal

abbrev pub invariant-loop-k : goal.invariant-loop-k
invariant-loop-k l = settled_from l.marks l.settled l.k (l.count - l.k) ≡ settled_from l.marks l.settled l.at (l.count - l.at)
