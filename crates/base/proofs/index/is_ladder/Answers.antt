-- `is_ladder` is `climbs`, by the loop's invariant that the rest of the ladder is the whole of it:
-- a word stops it, breaks it or goes on.
use Rattle.std.proofs.Common.{ℕ, ℤ, sym, ap, ◌∙◌}
use Rattle.base.specs.Index.{climbs}
use Rattle.base.proofs.ladder.Ladders.{same_words, stops, falls, goes_up, ends_up}
use Rattle.base.proofs.index.is_ladder.Goals as goal

pub returns-then-q-p : goal.returns-then-q-p
returns-then-q-p c =
    let q = c in
    let l = q.loop-j in
    sym (ap (λ (w : ℕ → ℤ). climbs w 8 0) (same_words _ _) ∙ stops _ _ l.p l.j _ l.invariant q.loop-j-test.true q.ikim_word-q.ensures c.if-q-p.true)

pub returns-then-not-is_next : goal.returns-then-not-is_next
returns-then-not-is_next c =
    let q = c in
    let l = q.loop-j in
    sym
    (ap (λ (w : ℕ → ℤ). climbs w 8 0) (same_words _ _)
    ∙ falls _ _ l.p l.j _ l.invariant q.loop-j-test.true q.ikim_word-q.ensures c.if-q-p.false
    c.is_next.ensures
    (c.if-not-is_next.true))

pub loop-j-preserved : goal.loop-j-preserved
loop-j-preserved c =
    let q = c in
    let l = q.loop-j in
    goes_up _ _ l.p l.j _ l.invariant q.loop-j-test.true q.ikim_word-q.ensures c.if-q-p.false
    c.is_next.ensures
    (c.if-not-is_next.false)

pub returns : goal.returns
returns c =
    let l = c.loop-j in
    sym (ap (λ (w : ℕ → ℤ). climbs w 8 0) (same_words _ _) ∙ ends_up _ _ l.p l.j l.invariant c.loop-j-test.false)
