-- `index_check` is `index_check`, by the loop's invariant that the rest of the check is the whole of
-- it: a map is bad, or the check goes on.
use Rattle.std.proofs.Common.{sym}
use Rattle.base.proofs.ladder.Ladders.{unchecked, bad_map, next_map, no_map}
use Rattle.base.proofs.index.index_check.Goals as goal

pub loop-k-init : goal.loop-k-init
loop-k-init c = unchecked _

pub returns-then-not-is_good : goal.returns-then-not-is_good
returns-then-not-is_good c =
    let g = c in
    let l = g.loop-k in
    sym (bad_map _ l.k l.invariant g.loop-k-test.true g.is_good.ensures (c.if-not-is_good.true))

pub loop-k-preserved : goal.loop-k-preserved
loop-k-preserved c =
    let g = c in
    let l = g.loop-k in
    next_map _ l.k l.invariant g.loop-k-test.true g.is_good.ensures (c.if-not-is_good.false)

pub returns : goal.returns
returns c = sym (no_map _ _ c.loop-k.invariant c.loop-k-test.false)
