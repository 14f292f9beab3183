-- `open` is `open_of`: the verdict on the inputs and a fresh worksheet, by what its calls ensure.
use Rattle.worksheet.specs.Desks.{open_of}
use Rattle.worksheet.proofs.desks.open.Goals as goal

pub returns : goal.returns
unfolding open_of
returns c = cc
