-- `inputs_in` is `inputs_in`: the set's 15 words, copied and read.
use Rattle.std.proofs.Common.{ℕ, List, get_or, ap, ◌∙◌, arith}
use Rattle.maps.specs.Inputs.{inputs_from}
use Rattle.jutetrowel.proofs.crossing.Stored.{fields_read}
use Rattle.jutetrowel.proofs.words.inputs_in.Goals as goal

pub returns : goal.returns
returns c =
    c.from_words.ensures
    ∙ ap (λ (l : List ℕ). inputs_from (λ (k : ℕ). get_or l k 0)) c.copy_from_slice.ensures.after
    ∙ fields_read c.args.sheet.now c.args.at _ (omega arith)
