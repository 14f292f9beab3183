-- `whole_word` is `word_at`: the four bytes are there, and the definition reads the same.
use Rattle.std.proofs.Common.{arith}
use Rattle.base.specs.Words.{word_at}
use Rattle.base.proofs.words.whole_word.Goals as goal

pub returns : goal.returns
unfolding word_at
returns c = omega arith
