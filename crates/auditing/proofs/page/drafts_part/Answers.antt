-- `drafts_part` writes `drafts_part`: the heading, the drafts or `none`, and then the shorter journal.
use Rattle.std.proofs.Common.{suc, ◌-◌, sym, ◌∙◌, arith}
use borrow.Author.Tests.{lt-leb}
use Rattle.worksheet.specs.Showing.{lent_as}
use Rattle.auditing.specs.Page.{shorter_parts, drafts_parts}
use Rattle.auditing.proofs.pages.Parts.{part_as, leb_same, drafts_head_law, drafts_line, drafts_none, drafts_rest}
use Rattle.auditing.proofs.page.drafts_part.Goals as goal

pub returns-then-k-eq0 : goal.returns-then-k-eq0
returns-then-k-eq0 c =
    let a = c.args in
    let e = c.laid.ensures in
    let source = lent_as a.lent a.a.now a.b.now in
    let text = a.text.now in
    let ms = a.marks.now in
    let ns = a.numbers.now in
    let starts = a.starts.now in
    let places = a.places.now in
    part_as _ c.more.ensures e.text (drafts_head_law source text a.g ms ns starts places a.size a.k (omega arith)) (sym (lt-leb (drafts_parts a.g.count a.size) (suc a.k) (omega arith))) e.count

pub returns-then-j-count : goal.returns-then-j-count
returns-then-j-count c =
    let a = c.args in
    let e = c.draft_account.ensures in
    let source = lent_as a.lent a.a.now a.b.now in
    let text = a.text.now in
    let ms = a.marks.now in
    let ns = a.numbers.now in
    let starts = a.starts.now in
    let places = a.places.now in
    part_as _ c.more-then-j-count.ensures e.text (drafts_line source text a.g ms ns starts places a.size a.k (omega arith) (omega arith)) (sym (lt-leb (drafts_parts a.g.count a.size) (suc a.k) (omega arith))) e.count

pub returns-then-j-eq0 : goal.returns-then-j-eq0
returns-then-j-eq0 c =
    let a = c.args in
    let e = c.none_part.ensures in
    let source = lent_as a.lent a.a.now a.b.now in
    let text = a.text.now in
    let ms = a.marks.now in
    let ns = a.numbers.now in
    let starts = a.starts.now in
    let places = a.places.now in
    part_as _ c.more-then-j-eq0.ensures e.text (drafts_none source text a.g ms ns starts places a.size a.k (omega arith) (omega arith) (omega arith)) (sym (lt-leb (drafts_parts a.g.count a.size) (suc a.k) (omega arith))) e.count

pub returns : goal.returns
returns c =
    let a = c.args in
    let e = c.shorter_part.ensures in
    let source = lent_as a.lent a.a.now a.b.now in
    let text = a.text.now in
    let ms = a.marks.now in
    let ns = a.numbers.now in
    let starts = a.starts.now in
    let places = a.places.now in
    let last =
    leb_same (shorter_parts a.size) (suc (a.k - 1 - a.g.count - 1)) (drafts_parts a.g.count a.size) (suc a.k)
    (λ h. omega arith) (λ h. omega arith) in
    record { text = e.text ∙ drafts_rest source text a.g ms ns starts places a.size a.k (omega arith) (omega arith) (λ q. omega arith); last = e.last ∙ last; count = e.count }
