-- `sheet_part` writes `sheet_part`: the heading, the sheet, and nothing after it.
use Rattle.std.proofs.Common.{suc, refl, sym, arith, le-leb}
use borrow.Author.Tests.{lt-leb}
use Rattle.worksheet.specs.Showing.{lent_as}
use Rattle.auditing.proofs.pages.Parts.{part_as, sheet_head_law, sheet_itself, sheet_past}
use Rattle.auditing.proofs.page.sheet_part.Goals as goal

pub returns-then-k-eq0 : goal.returns-then-k-eq0
returns-then-k-eq0 c =
    let a = c.args in
    let e = c.laid.ensures in
    let source = lent_as a.lent a.a.now a.b.now in
    part_as _ c.more.ensures e.text (sheet_head_law source a.g a.k (omega arith))
    (sym (lt-leb 2 (suc a.k) (omega arith))) e.count

pub returns-then-k-eq1 : goal.returns-then-k-eq1
returns-then-k-eq1 c =
    let a = c.args in
    let e = c.sheet_account.ensures in
    let source = lent_as a.lent a.a.now a.b.now in
    part_as _ c.done.ensures e.text (sheet_itself source a.g a.k (omega arith))
    (sym (le-leb 2 (suc a.k) (omega arith))) e.count

pub returns : goal.returns
returns c =
    let a = c.args in
    let source = lent_as a.lent a.a.now a.b.now in
    part_as _ c.done-2.ensures refl (sheet_past source a.g a.k (λ q. omega arith) (λ q. omega arith))
    (sym (le-leb 2 (suc a.k) (omega arith))) (omega arith, refl)
