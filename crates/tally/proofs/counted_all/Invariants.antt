-- `counted_all`: each turn counts one answer more, so that so many are compared as turns were made.
use Rattle.std.proofs.Common.{◌≡◌, ◌+◌, ◌%◌, ◌^◌}
use Rattle.tally.proofs.counted_all.Given as goal

abbrev pub invariant-loop-i : goal.invariant-loop-i
invariant-loop-i g l = goal.F-IsAlwaysCallable g l.is_right × (l.all.compared ≡ (l.fn.t.compared + l.i) % 2 ^ 64)
