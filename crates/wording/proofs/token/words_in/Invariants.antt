-- `words_in` puts the words into the first places, those that the loop has taken so far (`put`).
use Rattle.std.proofs.Common.{◌≡◌, length}
use Rattle.wording.proofs.words.Splits.{put, first}
use Rattle.wording.proofs.token.words_in.Given as goal

abbrev pub invariant-loop-n : goal.invariant-loop-n
invariant-loop-n l = l.tokens ≡ put (first l.line) (length l.yielded)
