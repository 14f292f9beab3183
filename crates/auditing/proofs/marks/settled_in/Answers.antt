-- `settled_in` is `settled_from`, by the loop's invariant that the calls that are left answer for the
-- whole: a commit or a take-back decides, or it goes on.
use Rattle.std.proofs.Common.{refl, sym, ◌∙◌}
use Rattle.base.proofs.verdicts.Picks.{cond_true, cond_false}
use Rattle.auditing.proofs.places.Fates.{settled_next, settled_end}
use Rattle.auditing.proofs.marks.settled_in.Goals as goal

pub loop-k-init : goal.loop-k-init
loop-k-init c = refl

pub returns-then-is_done : goal.returns-then-is_done
returns-then-is_done c =
    let l = c.loop-k in
    sym
    (settled_next _ l.k _ _ c.loop-k-test.true c.mark_at-mark.ensures _
    ∙ cond_true _ _ (sym c.is_done.ensures ∙ c.if-is_done.true))
    ∙ l.invariant

pub returns-then-is_done-2 : goal.returns-then-is_done-2
returns-then-is_done-2 c =
    let l = c.loop-k in
    sym
    (settled_next _ l.k _ _ c.loop-k-test.true c.mark_at-mark.ensures _
    ∙ cond_false _ _ (sym c.is_done.ensures ∙ c.if-is_done.false)
    ∙ cond_true _ _ (sym c.is_done-in-loop-k.ensures ∙ c.if-is_done-2.true))
    ∙ l.invariant

pub loop-k-preserved : goal.loop-k-preserved
loop-k-preserved c =
    let l = c.loop-k in
    sym
    (settled_next _ l.k _ _ c.loop-k-test.true c.mark_at-mark.ensures _
    ∙ cond_false _ _ (sym c.is_done.ensures ∙ c.if-is_done.false)
    ∙ cond_false _ _ (sym c.is_done-in-loop-k.ensures ∙ c.if-is_done-2.false))
    ∙ l.invariant

pub returns : goal.returns
returns c =
    let l = c.loop-k in
    sym (settled_end _ l.k _ c.loop-k-test.false _) ∙ l.invariant
