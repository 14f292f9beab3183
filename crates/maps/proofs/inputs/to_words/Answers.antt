-- `to_words` is `field_words`, word by word, by what `bits32` ensures.
use Rattle.maps.specs.Inputs.{field_words}
use Rattle.maps.proofs.inputs.to_words.Goals as goal

pub returns : goal.returns
unfolding field_words
returns c = cc
