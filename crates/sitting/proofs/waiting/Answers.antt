-- `waiting` is the first sitting: what `opened` makes of no words, before any line.
use Rattle.std.proofs.Common.{ap}
use Rattle.worksheet.specs.declared.desks.Outcome.{Outcome}
use Rattle.sitting.specs.declared.Sitting.TheVariants.{Waiting}
use Rattle.sitting.specs.Sitting.{first_sitting}
use Rattle.sitting.proofs.waiting.Goals as goal

pub returns : goal.returns
unfolding first_sitting
returns c = ap (λ (o : Outcome). Waiting o.sheet) c.opened.ensures
