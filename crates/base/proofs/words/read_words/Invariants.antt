-- `read_words` fills the array with the words. The loop's invariant: the first i are filled.
use Rattle.std.proofs.Common.{◌≡◌, ◌+◌, ◌*◌}
use Rattle.base.specs.Fill.{fill}
use Rattle.base.specs.Words.{word_at}
use Rattle.base.proofs.words.read_words.Given as goal

abbrev pub invariant-loop-i : goal.invariant-loop-i
invariant-loop-i l = (l.out ≡ fill (λ j. word_at l.s (l.at + j * 4)) 0 l.initial.out l.i)
