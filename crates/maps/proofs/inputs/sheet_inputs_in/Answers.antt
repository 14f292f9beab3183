-- `sheet_inputs_in` is `inputs_from` of a sheet's fields: the bytes' words with 0 for the last, by
-- what its calls ensure.
use Rattle.std.proofs.Common.{ℕ, List, get_or, set, ap, ◌∙◌}
use Rattle.maps.specs.Inputs.{route_from, factors_from, pole_from, inputs_from, words_to}
use Rattle.maps.proofs.inputs.sheet_inputs_in.Goals as goal

pub returns : goal.returns
unfolding inputs_from route_from factors_from pole_from words_to
returns c =
    c.from_words.ensures
    ∙ ap (λ (l : List ℕ). inputs_from (λ (k : ℕ). get_or (set l 14 0) k 0)) c.words_in-words.ensures
