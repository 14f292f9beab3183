-- `opened` is `opened_of`: the inputs of the words, opened, by what `inputs_in` and `open` ensure.
use Rattle.std.proofs.Common.{ap, ◌∙◌}
use Rattle.worksheet.specs.Desks.{open_of, opened_of}
use Rattle.worksheet.proofs.desks.opened.Goals as goal

pub returns : goal.returns
unfolding opened_of
returns c = c.open.ensures ∙ ap open_of c.inputs_in.ensures
