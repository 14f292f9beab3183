-- `inputs_in` is `inputs_from` of the bytes' words, by what `words_in` and `from_words` ensure.
use Rattle.std.proofs.Common.{ℕ, List, get_or, ap, ◌∙◌}
use Rattle.maps.specs.Inputs.{route_from, factors_from, pole_from, inputs_from, words_to}
use Rattle.maps.proofs.inputs.inputs_in.Goals as goal

pub returns : goal.returns
unfolding inputs_from route_from factors_from pole_from words_to
returns c = c.from_words.ensures ∙ ap (λ (l : List ℕ). inputs_from (λ (k : ℕ). get_or l k 0)) c.words_in-words.ensures
