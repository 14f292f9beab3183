-- `refused_in` is `refused_from`, by the loop's invariant that the calls that are left answer for the
-- whole: the draft ends, or it goes on with the last refused commit so far.
use Rattle.std.proofs.Common.{None, ◌-◌, ◌≡◌}
use Rattle.auditing.specs.Marks.{refused_from}
use Rattle.auditing.proofs.marks.refused_in.Given as goal

abbrev pub invariant-loop-k : goal.invariant-loop-k
invariant-loop-k l = refused_from l.marks l.n l.last l.k (l.count - l.k) ≡ refused_from l.marks l.n None l.at (l.count - l.at)
