-- `element_of` is `element_of`, arm by arm.
use Rattle.std.proofs.Common.{sym, ◌∙◌, eq-eqb, ne_eqb}
use Rattle.base.proofs.verdicts.Picks.{cond_true, cond_false}
use Rattle.maps.specs.Magnetic.{element_of}
use Rattle.maps.proofs.magnetic.element_of.Goals as goal

pub returns-then-n-m : goal.returns-then-n-m
unfolding element_of
returns-then-n-m c = rw (c.at.ensures, c.at-below.ensures) (sym (cond_true _ _ (eq-eqb _ _ c.if-n-m.true)))

pub returns-then-n-eq1 : goal.returns-then-n-eq1
unfolding element_of
returns-then-n-eq1 c = sym (cond_false _ _ (ne_eqb _ _ c.if-n-m.false) ∙ cond_true _ _ (eq-eqb _ _ c.if-n-eq1.true))

pub returns-else-n-eq1 : goal.returns-else-n-eq1
unfolding element_of
returns-else-n-eq1 c =
    let k = c in
    let q = k in
    rw (c.at-else-n-eq1-3.ensures, c.at-else-n-eq1-2.ensures, k.at-else-n-eq1.ensures, k.at-below-else-n-eq1.ensures)
    (sym (cond_false _ _ (ne_eqb _ _ q.if-n-m.false) ∙ cond_false _ _ (ne_eqb _ _ q.if-n-eq1.false)))
