-- `show_lent` is the showing over the source that `lent_as` makes of what is lent, by its two cases.
use Rattle.std.proofs.Common.{sym, ap, ◌∙◌}
use Rattle.worksheet.specs.declared.showing.Lent.{Lent}
use Rattle.worksheet.specs.Showing.{lent_as, show_of, show_buffer}
use Rattle.worksheet.proofs.showing.show_lent.Goals as goal

pub returns-in-Pair : goal.returns-in-Pair
returns-in-Pair c =
    let a = c.args in
    let is = sym c.in-Pair.is in
    let s = c.show.ensures in record { answer = s.answer ∙ ap (λ (l : Lent). show_of (lent_as l a.a.now a.b.now) a.desk a.out.now a.w) is; buffer = s.buffer ∙ ap (λ (l : Lent). show_buffer (lent_as l a.a.now a.b.now) a.desk a.out.now a.w) is }

pub returns-in-Year : goal.returns-in-Year
returns-in-Year c =
    let a = c.args in
    let is = sym c.in-Year.is in
    let s = c.show_year.ensures in record { answer = s.answer ∙ ap (λ (l : Lent). show_of (lent_as l a.a.now a.b.now) a.desk a.out.now a.w) is; buffer = s.buffer ∙ ap (λ (l : Lent). show_buffer (lent_as l a.a.now a.b.now) a.desk a.out.now a.w) is }
