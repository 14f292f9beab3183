-- `sheet_after` is the step's worksheet over every source: what `make` leaves over empty files, which
-- is the same over all.
use Rattle.std.proofs.Common.{ap, ◌∙◌}
use lib.Ieee.{of_bits, round}
use Rattle.base.specs.Single.{decimal}
use Rattle.worksheet.specs.declared.journal.Call.{Call}
use Rattle.worksheet.specs.declared.journal.Next.{Next}
use Rattle.worksheet.specs.Journal.{step}
use Rattle.worksheet.specs.Calls.{called, next_of}
use Rattle.listing.specs.Turn.{blank}
use Rattle.sitting.proofs.sources.Sheets.{step_sheet}
use Rattle.sitting.proofs.sheet_after.Goals as goal

pub returns : goal.returns
unfolding next_of decimal of_bits round
returns c = λ source.
    let w = c.args.w in
    let left = ap (λ (n : Next). n.sheet) c.make.ensures.answer in
    let written = c.call_written in
    left
    ∙ step_sheet _ source blank written.result w
    ∙ ap (λ (x : Call). (step source (called x blank) w).sheet) written.ensures
