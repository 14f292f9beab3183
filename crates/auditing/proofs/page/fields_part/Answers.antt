-- `fields_part` writes `fields_part`: the title, or a field.
use Rattle.std.proofs.Common.{◌∙◌, arith}
use Rattle.auditing.proofs.pages.Parts.{fields_title, fields_field}
use Rattle.auditing.proofs.page.fields_part.Goals as goal

pub returns-then-k-eq0 : goal.returns-then-k-eq0
returns-then-k-eq0 c =
    let a = c.args in
    let e = c.title_text.ensures in
    record { text = e.text ∙ fields_title a.line a.g a.marks.now a.numbers.now a.k (omega arith); count = e.count }

pub returns : goal.returns
returns c =
    let a = c.args in
    let e = c.field_account.ensures in
    record { text = e.text ∙ fields_field a.line a.g a.marks.now a.numbers.now a.k (λ q. omega arith); count = e.count }
