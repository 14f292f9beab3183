-- `origin_in` is `origin_before`, by the loop's invariant that the calls that are left answer for the
-- whole: a commit that stands brings a change, or it goes on.
use Rattle.std.proofs.Common.{◌-◌, Bool, refl, sym, ap, ◌∙◌}
use Rattle.auditing.specs.Marks.{origin_before}
use Rattle.auditing.proofs.places.Origins.{origin_found, origin_on, origin_start}
use Rattle.auditing.proofs.marks.origin_in.Goals as goal

pub loop-k-init : goal.loop-k-init
loop-k-init c = refl

pub returns-in-Set : goal.returns-in-Set
returns-in-Set c =
    let l = c.loop-k in
    let p = c.in-Set in
    sym (origin_found _ _ l.back l.k p.place p.settled c.loop-k-test.true c.brought_by.ensures p.is) ∙ l.invariant

pub loop-k-preserved : goal.loop-k-preserved
loop-k-preserved c =
    let l = c.loop-k in
    let a = c.args in
    ap (λ (x : Bool). origin_before a.marks.now a.part x (l.k - 1)) c.back_before-back.ensures
    ∙ sym (origin_on _ _ l.back l.k _ c.loop-k-test.true c.brought_by.ensures c.in-Opened.is c.mark_at.ensures)
    ∙ l.invariant

pub returns : goal.returns
returns c =
    let l = c.loop-k in
    sym (origin_start _ _ l.back l.k c.loop-k-test.false) ∙ l.invariant
