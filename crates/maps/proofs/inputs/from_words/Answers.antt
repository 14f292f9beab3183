-- `from_words` is `inputs_from` of the words, field by field, by what its calls ensure.
use Rattle.maps.specs.Inputs.{inputs_from}
use Rattle.maps.proofs.inputs.from_words.Goals as goal

pub returns : goal.returns
unfolding inputs_from
returns c = cc
