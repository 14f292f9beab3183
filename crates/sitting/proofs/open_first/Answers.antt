-- `open_first` is `opened_by`: the worksheet opened with the line's inputs, by what its calls ensure.
use Rattle.std.proofs.Common.{ap, ◌∙◌}
use Rattle.worksheet.specs.declared.desks.Outcome.{Outcome}
use Rattle.worksheet.specs.Desks.{open_of}
use Rattle.listing.specs.Spoken.{spoken_verdict}
use Rattle.sitting.specs.Sitting.{sitting_after}
use Rattle.sitting.proofs.open_first.Goals as goal

pub returns : goal.returns
returns c =
    let done = c.open-done.ensures ∙ ap open_of c.inputs_written.ensures in
    let said = c.opened_text.ensures in
    record {
      sitting = c.sitting_after.ensures ∙ ap (λ (x : Outcome). sitting_after x.answer x.sheet) done;
      text = said.text ∙ ap (λ (x : Outcome). spoken_verdict c.args.number x.answer) done;
      count = said.count;
    }
