-- `size` is `length_at`: one word, by what `word` ensures, which is below 2^32 as every word is.
use Rattle.std.proofs.Common.{arith}
use Rattle.base.specs.Year.{length_at}
use Rattle.base.proofs.year.size.Goals as goal

pub returns : goal.returns
unfolding length_at
returns c = record { answer = c.word.ensures; bound = omega arith }
