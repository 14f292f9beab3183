-- `sheet_opened` is `sheet_opened_of`: the inputs of the words, opened, by what its calls ensure.
use Rattle.std.proofs.Common.{ap, ◌∙◌}
use Rattle.worksheet.specs.Desks.{open_of, sheet_opened_of}
use Rattle.worksheet.proofs.desks.sheet_opened.Goals as goal

pub returns : goal.returns
unfolding sheet_opened_of
returns c = c.open.ensures ∙ ap open_of c.sheet_inputs_in.ensures
