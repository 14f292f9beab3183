-- `made` is the step of the worksheet that the words hold, by whether `make` hands back a verdict
-- or a showing.
use Rattle.std.proofs.Common.{[], ap, ◌∙◌}
use Rattle.worksheet.specs.declared.desks.Worksheet.{Worksheet}
use Rattle.worksheet.specs.Showing.{pair}
use Rattle.worksheet.specs.Journal.{step}
use Rattle.worksheet.specs.Calls.{called, next_of}
use Rattle.jutetrowel.specs.Words.{worksheet_of}
use Rattle.jutetrowel.specs.Calls.{words_left}
use Rattle.jutetrowel.proofs.crossing.Crossed.{told_crosses, shown_crosses}
use Rattle.jutetrowel.proofs.desks.made.Goals as goal

pub returns-in-Told : goal.returns-in-Told
unfolding words_left
returns-in-Told c =
    let w = c.load.ensures in
    let a = c.args in
    let s = c.settle.ensures in
    let k = called a.call [] in
    told_crosses (step (pair [] []) k (worksheet_of a.sheet.now)) a.sheet.now
    (c.make-next.ensures.answer ∙ ap (λ (x : Worksheet). next_of (step (pair [] []) k x)) w)
    c.in-Told.is s.answer s.sheet

pub returns-in-Shown : goal.returns-in-Shown
unfolding words_left
returns-in-Shown c =
    let w = c.load.ensures in
    let a = c.args in
    let k = called a.call [] in
    shown_crosses (step (pair [] []) k (worksheet_of a.sheet.now)) a.sheet.now
    (c.make-next.ensures.answer ∙ ap (λ (x : Worksheet). next_of (step (pair [] []) k x)) w)
    c.in-Shown.is c.from.ensures
