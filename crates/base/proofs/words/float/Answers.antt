-- `float` is `float_at`: the bits are the word's, by what `word` and `float32` ensure.
use Rattle.std.proofs.Common.{ap, ◌∙◌}
use lib.Ieee.{binary32, of_bits}
use Rattle.base.specs.Words.{float_at}
use Rattle.base.proofs.words.float.Goals as goal

pub returns : goal.returns
unfolding float_at
returns c = c.float32.ensures ∙ ap (of_bits binary32) c.word.ensures
