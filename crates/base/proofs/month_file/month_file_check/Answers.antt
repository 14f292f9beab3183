-- `month_file_check` is `month_file_check`, by the loop's invariant that what is left of the walk is
-- the whole walk: a record is passed at once, or the walk ends in it.
use Rattle.std.proofs.Common.{ℕ, ◌+◌, sym, subst, add_assoc, ◌∙◌, inl, inr}
use Rattle.base.proofs.layout.Walks.{Walked, sized, first, ends_short, ends_open, ends_close, goes_on, ends}
use Rattle.base.proofs.month_file.month_file_check.Goals as goal

pub loop-k-init : goal.loop-k-init
loop-k-init c = first _

pub returns-then-s-at : goal.returns-then-s-at
returns-then-s-at c =
    let z = c in
    let l = z.loop-k in
    sym (ends_short _ l.at l.k _ l.invariant z.loop-k-test.true (sized _ z.loop-k-test.true) (inl c.if-s-at.true))

pub returns-then-not-is_marker : goal.returns-then-not-is_marker
returns-then-not-is_marker c =
    let m = c in
    let z = m in
    let l = z.loop-k in
    sym
    (ends_open _ l.at l.k _ l.invariant z.loop-k-test.true (sized _ z.loop-k-test.true) m.if-s-at.false
    (sym m.is_marker.ensures ∙ c.if-not-is_marker.true))

pub returns-then-s-at-2 : goal.returns-then-s-at-2
returns-then-s-at-2 c =
    let m = c in
    let z = m in
    let l = z.loop-k in
    sym
    (ends_short _ l.at l.k _ l.invariant z.loop-k-test.true (sized _ z.loop-k-test.true)
    (inr (sym m.is_marker.ensures ∙ c.if-not-is_marker.false, m.if-s-at.false, c.if-s-at-2.true)))

pub returns-then-not-is_marker-2 : goal.returns-then-not-is_marker-2
returns-then-not-is_marker-2 c =
    let n = c in
    let m = n in
    let z = m in
    let l = z.loop-k in
    sym
    (ends_close _ l.at l.k _ l.invariant z.loop-k-test.true (sized _ z.loop-k-test.true) m.if-s-at.false
    (sym m.is_marker.ensures ∙ n.if-not-is_marker.false)
    n.if-s-at-2.false
    (sym n.is_marker-in-loop-k.ensures ∙ c.if-not-is_marker-2.true))

pub loop-k-preserved : goal.loop-k-preserved
loop-k-preserved c =
    let n = c in
    let m = n in
    let z = m in
    let l = z.loop-k in
    subst (λ (a : ℕ). Walked c.args.s.now a (l.k + 1)) (add_assoc l.at _ 8)
    (goes_on _ l.at l.k _ l.invariant z.loop-k-test.true (sized _ z.loop-k-test.true) m.if-s-at.false
    (sym m.is_marker.ensures ∙ n.if-not-is_marker.false)
    n.if-s-at-2.false
    (sym n.is_marker-in-loop-k.ensures ∙ c.if-not-is_marker-2.false))

pub returns : goal.returns
returns c = sym (ends _ _ _ c.loop-k.invariant c.loop-k-test.false)
