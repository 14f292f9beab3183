-- `sheet_answer` puts `sheet_answer`: what the showing of the opened worksheet gives, as text.
use Rattle.std.proofs.Common.{ap, ap₂, ◌∙◌}
use lib.Ieee.{of_bits, round}
use Rattle.base.specs.Single.{decimal}
use Rattle.worksheet.specs.declared.desks.Outcome.{Outcome}
use Rattle.worksheet.specs.Showing.{pair, show_of, show_buffer}
use Rattle.listing.specs.Answer.{sheet_text}
use Rattle.listing.specs.Turn.{blank}
use Rattle.listing.specs.Sheet.{sheet_answer}
use Rattle.listing.proofs.sheet.sheet_answer.Goals as goal

pub returns : goal.returns
unfolding sheet_answer decimal of_bits round
returns c =
    let s = c.show-shown.ensures in
    let a = c.args in
    let source = pair a.f2.now a.file.now in
    let o = c.sheet_opened-o.ensures in record {
      text = c.sheet_text.ensures.text
          ∙ ap₂ sheet_text s.answer s.buffer
          ∙ ap (λ (z : Outcome). sheet_text (show_of source 0 blank z.sheet) (show_buffer source 0 blank z.sheet)) o;
      count = c.sheet_text.ensures.count;
    }
