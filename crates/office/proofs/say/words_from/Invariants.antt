-- `words_from`: the line stays within its buffer.
use Rattle.std.proofs.Common.{◌≤◌, length}
use Rattle.office.proofs.say.words_from.Given as goal

abbrev pub invariant-loop-k : goal.invariant-loop-k
invariant-loop-k g l = l.n ≤ length l.line
