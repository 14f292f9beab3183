-- `shorter_part` writes `shorter_part`: the heading, the open, the calls, and then the sheet.
use Rattle.std.proofs.Common.{suc, ◌-◌, sym, ap, ◌∙◌, arith}
use borrow.Author.Tests.{lt-leb}
use Rattle.worksheet.specs.Showing.{lent_as}
use Rattle.auditing.specs.Accounts.{number_at, line_account}
use Rattle.auditing.specs.Page.{shorter_parts}
use Rattle.auditing.proofs.pages.Parts.{part_as, leb_same, shorter_head_law, shorter_open, shorter_call, shorter_rest}
use Rattle.auditing.proofs.page.shorter_part.Goals as goal

pub returns-then-k-eq0 : goal.returns-then-k-eq0
returns-then-k-eq0 c =
    let a = c.args in
    let e = c.laid.ensures in
    let source = lent_as a.lent a.a.now a.b.now in
    let text = a.text.now in
    let starts = a.starts.now in
    let places = a.places.now in
    part_as _ c.more.ensures e.text (shorter_head_law source text a.g starts places a.size a.k (omega arith))
    (sym (lt-leb (shorter_parts a.size) (suc a.k) (omega arith))) e.count

pub returns-then-k-eq1 : goal.returns-then-k-eq1
returns-then-k-eq1 c =
    let a = c.args in
    let e = c.line_account.ensures in
    let source = lent_as a.lent a.a.now a.b.now in
    let text = a.text.now in
    let starts = a.starts.now in
    let places = a.places.now in
    part_as _ c.more-then-k-eq1.ensures e.text (shorter_open source text a.g starts places a.size a.k (omega arith))
    (sym (lt-leb (shorter_parts a.size) (suc a.k) (omega arith))) e.count

pub returns-then-j-size : goal.returns-then-j-size
returns-then-j-size c =
    let a = c.args in
    let e = c.line_account-then-j-size.ensures in
    let source = lent_as a.lent a.a.now a.b.now in
    let text = a.text.now in
    let starts = a.starts.now in
    let places = a.places.now in
    let start = c.number_at-start.ensures ∙ ap (number_at starts) c.number_at.ensures in
    part_as _ c.more-then-j-size.ensures (e.text ∙ ap (line_account text) start) (shorter_call source text a.g starts places a.size a.k (omega arith) (omega arith))
    (sym (lt-leb (shorter_parts a.size) (suc a.k) (omega arith))) e.count

pub returns : goal.returns
returns c =
    let a = c.args in
    let e = c.sheet_part.ensures in
    let source = lent_as a.lent a.a.now a.b.now in
    let text = a.text.now in
    let starts = a.starts.now in
    let places = a.places.now in
    let last = leb_same 2 (suc (a.k - 2 - a.size)) (shorter_parts a.size) (suc a.k) (λ h. omega arith) (λ h. omega arith) in
    record { text = e.text ∙ shorter_rest source text a.g starts places a.size a.k (omega arith) (omega arith); last = e.last ∙ last; count = e.count }
