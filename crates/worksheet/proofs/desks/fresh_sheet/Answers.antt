-- `fresh_sheet` is `fresh_sheet`, field by field.
use Rattle.std.proofs.Common.{refl}
use Rattle.worksheet.specs.Desks.{fresh_sheet}
use Rattle.worksheet.proofs.desks.fresh_sheet.Goals as goal

pub returns : goal.returns
unfolding fresh_sheet
returns c = refl
