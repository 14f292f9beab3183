-- `read_floats` fills the array with the floats. The loop's invariant: the first i are filled.
use Rattle.std.proofs.Common.{◌≡◌, ◌+◌, ◌*◌}
use Rattle.base.specs.Fill.{fill}
use Rattle.base.specs.Words.{float_at}
use Rattle.base.proofs.words.read_floats.Given as goal

abbrev pub invariant-loop-i : goal.invariant-loop-i
invariant-loop-i l = (l.out ≡ fill (λ j. float_at l.s (l.at + 4 * j)) 0 l.initial.out l.i)
