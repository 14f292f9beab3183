-- `gather` gathers what the first k lines told, by the loop's invariant that it has gathered what the
-- lines so far told.
use Rattle.std.proofs.Common.{ℕ, ◌≡◌, ap, subst, ◌∙◌, arith}
use Rattle.worksheet.specs.Showing.{lent_as}
use Rattle.wording.specs.Line.{line_in}
use Rattle.auditing.specs.Gathered.{told_by, GatheringAs, gathering}
use Rattle.auditing.proofs.journals.Reading.{read_none, read_next, read_all}
use Rattle.auditing.proofs.gathering.gather.Goals as goal

pub loop-n-init : goal.loop-n-init
loop-n-init c = read_none _ _ _ c.nothing-g.ensures

-- no newline is left
pub returns-then-end-text-clause-told : goal.returns-then-end-text-clause-told
returns-then-end-text-clause-told c =
    let l = c.loop-n in
    let e = c.line_end-end.ensures.place in
    read_all _ _ l.n l.at _ _ l.invariant e _ c.if-end-text.true (omega arith)

pub overflow_add-at : goal.overflow_add-at
overflow_add-at c = let inside = c.if-end-text.false in omega arith

pub loop-n-preserved : goal.loop-n-preserved
loop-n-preserved c =
    let l = c.loop-n in
    let line = c.line_in-l.ensures ∙ ap line_in c.line_end-end.ensures.line in
    let told = c.with_line-g.ensures in
    read_next _ _ l.n l.at _ _ l.invariant c.line_end-end.ensures.place _ _ c.if-end-text.false line
    told.told told.count

-- k lines are read
pub returns-clause-told : goal.returns-clause-told
returns-clause-told c =
    let l = c.loop-n in
    let a = c.args in
    let all : l.n ≡ a.k = omega arith in
    let h = gathering l.g l.marks l.numbers l.starts in
    let source = lent_as a.lent a.a.now a.b.now in
    subst (λ (i : ℕ). GatheringAs source a.text.now (told_by a.text.now i) h) all l.invariant.gathered
