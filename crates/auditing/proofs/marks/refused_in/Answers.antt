-- `refused_in` is `refused_from`, by the loop's invariant that the calls that are left answer for the
-- whole: the draft ends, or it goes on with the last refused commit so far.
use Rattle.std.proofs.Common.{Option, ℕ, ◌+◌, ◌-◌, refl, sym, ap, ◌∙◌}
use Rattle.base.proofs.verdicts.Picks.{cond_true, cond_false}
use Rattle.auditing.specs.Marks.{refused_from}
use Rattle.auditing.proofs.places.Fates.{refused_next, refused_end}
use Rattle.auditing.proofs.marks.refused_in.Goals as goal

pub loop-k-init : goal.loop-k-init
loop-k-init c = refl

pub returns-then-is_end : goal.returns-then-is_end
returns-then-is_end c =
    let l = c.loop-k in
    sym
    (refused_next _ l.k _ _ c.loop-k-test.true c.mark_at-mark.ensures _ l.last
    ∙ cond_true _ _ (sym c.is_end.ensures ∙ c.if-is_end.true))
    ∙ l.invariant

pub loop-k-preserved : goal.loop-k-preserved
loop-k-preserved c =
    let l = c.loop-k in
    let a = c.args in
    ap (λ (x : Option ℕ). refused_from a.marks.now a.n x (l.k + 1) (a.count - (l.k + 1))) c.last_refused-last.ensures
    ∙ sym
    (refused_next _ l.k _ _ c.loop-k-test.true c.mark_at-mark.ensures _ l.last
    ∙ cond_false _ _ (sym c.is_end.ensures ∙ c.if-is_end.false))
    ∙ l.invariant

pub returns : goal.returns
returns c =
    let l = c.loop-k in
    sym (refused_end _ l.k _ c.loop-k-test.false _ l.last) ∙ l.invariant
