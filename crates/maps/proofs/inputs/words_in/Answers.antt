-- `words_in` is `words_to` of the bytes' words, word by word, by what `word` ensures.
use Rattle.maps.specs.Inputs.{words_to}
use Rattle.maps.proofs.inputs.words_in.Goals as goal

pub returns : goal.returns
unfolding words_to
returns c = cc
