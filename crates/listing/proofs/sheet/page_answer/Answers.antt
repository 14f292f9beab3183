-- `page_answer` puts `page_answer`: what the showing of the opened worksheet gives, as a page.
use Rattle.std.proofs.Common.{ap, ap₂, ◌∙◌}
use lib.Ieee.{of_bits, round}
use Rattle.base.specs.Single.{decimal}
use Rattle.worksheet.specs.declared.desks.Outcome.{Outcome}
use Rattle.worksheet.specs.Showing.{pair, show_of, show_buffer}
use Rattle.listing.specs.Turn.{blank}
use Rattle.listing.specs.Sheet.{page_for, page_answer}
use Rattle.listing.proofs.sheet.page_answer.Goals as goal

pub returns : goal.returns
unfolding page_answer decimal of_bits round
returns c =
    let s = c.show-shown.ensures in
    let a = c.args in
    let source = pair a.f2.now a.file.now in
    let w = c.sheet_opened-o.result.sheet in
    let o = c.sheet_opened-o.ensures in record {
      text = c.page_for.ensures.text
          ∙ ap₂ (page_for w.inputs) s.answer s.buffer
          ∙ ap (λ (z : Outcome). page_for z.sheet.inputs (show_of source 0 blank z.sheet) (show_buffer source 0 blank z.sheet)) o;
      count = c.page_for.ensures.count;
    }
