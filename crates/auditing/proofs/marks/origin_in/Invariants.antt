-- `origin_in` is `origin_before`, by the loop's invariant that the calls that are left answer for the
-- whole: a commit that stands brings a change, or it goes on.
use Rattle.std.proofs.Common.{false, ◌≡◌}
use Rattle.auditing.specs.Marks.{origin_before}
use Rattle.auditing.proofs.marks.origin_in.Given as goal

abbrev pub invariant-loop-k : goal.invariant-loop-k
invariant-loop-k l = origin_before l.marks l.part l.back l.k ≡ origin_before l.marks l.part false l.j
