-- `handed_text` puts `handed_text`, by the answer's case.
use Rattle.std.proofs.Common.{sym, ap, ◌∙◌}
use Rattle.worksheet.specs.declared.journal.Answer.{Answer}
use Rattle.listing.specs.Turn.{handed_text}
use Rattle.listing.proofs.turn.handed_text.Goals as goal

pub returns-in-Told : goal.returns-in-Told
unfolding handed_text
returns-in-Told c =
    let xs = c.args.figures.now in
    record { text = c.verdict_text.ensures.text ∙ sym (ap (λ (a : Answer). handed_text a xs) c.in-Told.is); count = c.verdict_text.ensures.count }

pub returns-in-Shown : goal.returns-in-Shown
unfolding handed_text
returns-in-Shown c =
    let xs = c.args.figures.now in
    record { text = c.shown_text.ensures.text ∙ sym (ap (λ (a : Answer). handed_text a xs) c.in-Shown.is); count = c.shown_text.ensures.count }
