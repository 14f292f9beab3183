-- `no_drafts` finds whether a draft has a line. The loop's invariant: those of the first calls have
-- none.
use Rattle.std.proofs.Common.{ap, ◌∙◌, arith, add-one, length}
use Rattle.auditing.specs.Page.{drafts_text}
use Rattle.auditing.proofs.pages.Parts.{lines_none, lines_next, some_draft, no_draft}
use Rattle.auditing.proofs.page.no_drafts.Goals as goal

pub loop-p-init : goal.loop-p-init
loop-p-init c =
    let a = c.args in
    lines_none a.marks.now a.numbers.now a.count

pub returns-then-draft_account-ne0 : goal.returns-then-draft_account-ne0
returns-then-draft_account-ne0 c =
    let l = c.loop-p in
    let a = c.args in
    let e = c.draft_account.ensures in
    let size = ap length e.text in
    some_draft a.marks.now a.numbers.now a.count l.p c.loop-p-test.true
    (omega (arith, e.count.1, size))

pub loop-p-preserved : goal.loop-p-preserved
loop-p-preserved c =
    let l = c.loop-p in
    let a = c.args in
    let e = c.draft_account.ensures in
    let size = ap length e.text in
    let next = lines_next a.marks.now a.numbers.now a.count l.p in
    ap (λ p. length (drafts_text a.marks.now a.numbers.now a.count p)) (add-one l.p)
    ∙ omega (arith, next, e.count.1, size, l.invariant)

pub returns : goal.returns
returns c =
    let l = c.loop-p in
    let a = c.args in
    no_draft a.marks.now a.numbers.now a.count l.p (omega arith) (omega arith) l.invariant
