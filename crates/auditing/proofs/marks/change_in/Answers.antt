-- `change_in` is `change_before`, by the loop's invariant that what is left to look at answers for the
-- whole: a begin ends it, a change is found, or it goes on.
use Rattle.std.proofs.Common.{refl, sym, ◌∙◌}
use Rattle.base.proofs.verdicts.Picks.{cond_true, cond_false}
use Rattle.auditing.proofs.places.Origins.{change_next, change_start}
use Rattle.auditing.proofs.marks.change_in.Goals as goal

pub loop-k-init : goal.loop-k-init
loop-k-init c = refl

pub returns-then-is_done_by : goal.returns-then-is_done_by
returns-then-is_done_by c =
    let l = c.loop-k in
    sym
    (change_next _ _ _ _ _ l.k _ c.loop-k-test.true c.mark_at-mark.ensures
    ∙ cond_true _ _ (sym c.is_done_by.ensures ∙ c.if-is_done_by.true))
    ∙ l.invariant

pub returns-then-is_done_by-2 : goal.returns-then-is_done_by-2
returns-then-is_done_by-2 c =
    let l = c.loop-k in
    sym
    (change_next _ _ _ _ _ l.k _ c.loop-k-test.true c.mark_at-mark.ensures
    ∙ cond_false _ _ (sym c.is_done_by.ensures ∙ c.if-is_done_by.false)
    ∙ cond_true _ _ (sym c.is_done_by-in-loop-k.ensures ∙ c.if-is_done_by-2.true))
    ∙ l.invariant

pub loop-k-preserved : goal.loop-k-preserved
loop-k-preserved c =
    let l = c.loop-k in
    sym
    (change_next _ _ _ _ _ l.k _ c.loop-k-test.true c.mark_at-mark.ensures
    ∙ cond_false _ _ (sym c.is_done_by.ensures ∙ c.if-is_done_by.false)
    ∙ cond_false _ _ (sym c.is_done_by-in-loop-k.ensures ∙ c.if-is_done_by-2.false))
    ∙ l.invariant

pub returns : goal.returns
returns c =
    let l = c.loop-k in
    sym (change_start _ _ _ _ _ l.k c.loop-k-test.false) ∙ l.invariant
