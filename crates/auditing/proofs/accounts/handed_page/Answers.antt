-- `handed_page` writes `handed_page`, by the answer's cases.
use Rattle.std.proofs.Common.{refl, sym, ap, ◌∙◌, arith}
use Rattle.worksheet.specs.declared.journal.Answer.{Answer as Handed}
use Rattle.worksheet.specs.declared.journal.Answer.TheVariants as handed
use Rattle.auditing.specs.Accounts.{handed_page}
use Rattle.auditing.proofs.accounts.handed_page.Goals as goal

pub returns-in-Told : goal.returns-in-Told
unfolding handed_page
returns-in-Told c =
    let a = c.args in
    record { text = sym (ap (λ (x : Handed). handed_page a.i x a.figures.now) c.in-Told.is); count = (omega arith, refl) }

pub returns-in-Ok : goal.returns-in-Ok
unfolding handed_page
returns-in-Ok c =
    let a = c.args in
    let e = c.columns_text.ensures in
    let is = c.in-Shown.is ∙ ap handed.Shown c.in-Ok.is in
    record { text = e.text ∙ sym (ap (λ (x : Handed). handed_page a.i x a.figures.now) is); count = e.count }

pub returns-in-Err : goal.returns-in-Err
unfolding handed_page
returns-in-Err c =
    let a = c.args in
    let is = c.in-Shown.is ∙ ap handed.Shown c.in-Err.is in
    record { text = sym (ap (λ (x : Handed). handed_page a.i x a.figures.now) is); count = (omega arith, refl) }
