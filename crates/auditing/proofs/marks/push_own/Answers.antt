-- `push_own` gives the buffer a draft's own places, by the loop's invariant that those which are left
-- complete them.
use Rattle.std.proofs.Common.{ℕ, List, sym, ap, ◌∙◌}
use Rattle.auditing.specs.Marks.{pile, all_given}
use Rattle.auditing.proofs.places.Piles.{draft_next, draft_end}
use Rattle.auditing.proofs.marks.push_own.Goals as goal

pub loop-k-init : goal.loop-k-init
loop-k-init c =
    let a = c.args in
    sym (ap (λ (l : List ℕ). all_given l (pile a.size a.out.now)) c.begin_before-k.ensures)

pub loop-k-preserved : goal.loop-k-preserved
loop-k-preserved c =
    let l = c.loop-k in
    draft_next _ _ _ l.k _ (pile l.n l.out) c.loop-k-test.true c.mark_at.ensures c.is_draft.ensures c.push_if-n.ensures
    ∙ l.invariant

pub returns : goal.returns
returns c =
    let l = c.loop-k in
    sym (draft_end _ _ _ l.k (pile l.n l.out) c.loop-k-test.false) ∙ l.invariant
