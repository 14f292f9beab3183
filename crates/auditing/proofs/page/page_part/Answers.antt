-- `page_part` writes `page_part`: the fields, and then the drafts and what follows them.
use Rattle.std.proofs.Common.{suc, ◌-◌, sym, ◌∙◌, arith}
use borrow.Author.Tests.{lt-leb}
use Rattle.worksheet.specs.Showing.{lent_as}
use Rattle.auditing.specs.Page.{drafts_parts, page_size}
use Rattle.auditing.proofs.pages.Parts.{part_as, leb_same, page_fields, page_drafts}
use Rattle.auditing.proofs.page.page_part.Goals as goal

pub returns-then-k-lt16 : goal.returns-then-k-lt16
returns-then-k-lt16 c =
    let a = c.args in
    let e = c.fields_part.ensures in
    let source = lent_as a.lent a.a.now a.b.now in
    let text = a.text.now in
    let ms = a.marks.now in
    let ns = a.numbers.now in
    let starts = a.starts.now in
    let places = a.places.now in
    part_as _ c.more.ensures e.text (page_fields source text a.g ms ns starts places a.size a.k a.line (omega arith))
    (sym (lt-leb (page_size a.g.count a.size) (suc a.k) (omega arith))) e.count

pub returns : goal.returns
returns c =
    let a = c.args in
    let e = c.drafts_part.ensures in
    let source = lent_as a.lent a.a.now a.b.now in
    let text = a.text.now in
    let ms = a.marks.now in
    let ns = a.numbers.now in
    let starts = a.starts.now in
    let places = a.places.now in
    let last =
    leb_same (drafts_parts a.g.count a.size) (suc (a.k - 16)) (page_size a.g.count a.size) (suc a.k)
    (λ h. omega arith) (λ h. omega arith) in
    record { text = e.text ∙ page_drafts source text a.g ms ns starts places a.size a.k a.line (omega arith); last = e.last ∙ last; count = e.count }
