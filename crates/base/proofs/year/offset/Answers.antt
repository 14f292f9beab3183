-- `offset` is `offset_at`: one word, by what `word` ensures, which is below 2^32 as every word is.
use Rattle.std.proofs.Common.{arith}
use Rattle.base.specs.Year.{offset_at}
use Rattle.base.proofs.year.offset.Goals as goal

pub returns : goal.returns
unfolding offset_at
returns c = record { answer = c.word.ensures; bound = omega arith }
