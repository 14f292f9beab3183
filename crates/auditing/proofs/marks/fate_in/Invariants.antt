-- `fate_in` is `fate_from`, by the loop's invariant that the calls that are left answer for the whole:
-- a cancel or a commit decides, or it goes on.
use Rattle.std.proofs.Common.{◌-◌, ◌≡◌}
use Rattle.auditing.specs.Marks.{fate_from}
use Rattle.auditing.proofs.marks.fate_in.Given as goal

abbrev pub invariant-loop-k : goal.invariant-loop-k
invariant-loop-k l = fate_from l.marks l.n l.k (l.count - l.k) ≡ fate_from l.marks l.n l.at (l.count - l.at)
