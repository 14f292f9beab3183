-- `integer` is `integer_at`: the number is the word, signed, by what `word` and `signed` ensure.
use Rattle.std.proofs.Common.{ap, ◌∙◌, to_z-of_z, rules, w32}
use Rattle.base.specs.Number.{signed_of}
use Rattle.base.specs.Words.{integer_at}
use Rattle.base.proofs.words.integer.Goals as goal

pub returns : goal.returns
unfolding integer_at
returns c = to_z-of_z {w = w32} (search rules) ∙ c.signed.ensures ∙ ap signed_of c.word.ensures
