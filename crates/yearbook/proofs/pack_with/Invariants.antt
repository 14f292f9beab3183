-- `pack_with`: the parts stay within the buffer.
use Rattle.std.proofs.Common.{◌≤◌}
use Rattle.yearbook.proofs.pack_with.Given as goal

abbrev pub invariant-loop-k : goal.invariant-loop-k
invariant-loop-k g l = l.at ≤ 1048576
