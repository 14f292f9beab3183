-- `index_of` fills the array with `index_of`: `read_words` reads all its 60 words.
use Rattle.std.proofs.Common.{ap, ◌∙◌, rules}
use Rattle.base.specs.Fill.{tabulate}
use Rattle.base.specs.Index.{index_of}
use Rattle.base.proofs.index.index_of.Goals as goal

pub returns : goal.returns
unfolding index_of
returns c = c.read_words.ensures ∙ ap (tabulate _) (search rules)
