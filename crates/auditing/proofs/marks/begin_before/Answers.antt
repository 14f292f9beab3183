-- `begin_before` finds where a draft's own places begin, by the loop's invariant that from place k on
-- all that is of drafts is this one's.
use Rattle.std.proofs.Common.{sym, ◌∙◌}
use Rattle.auditing.proofs.places.Drafts.{since_all, since_begun, since_on, since_start}
use Rattle.auditing.proofs.marks.begin_before.Goals as goal

pub loop-k-init : goal.loop-k-init
loop-k-init c = since_all _ _ _

pub returns-then-is_done_by : goal.returns-then-is_done_by
returns-then-is_done_by c =
    let l = c.loop-k in
    since_begun _ _ _ l.k _ c.loop-k-test.true c.mark_at.ensures (sym c.is_done_by.ensures ∙ c.if-is_done_by.true) l.invariant

pub loop-k-preserved : goal.loop-k-preserved
loop-k-preserved c =
    let l = c.loop-k in
    since_on _ _ _ l.k _ c.loop-k-test.true c.mark_at.ensures (sym c.is_done_by.ensures ∙ c.if-is_done_by.false) l.invariant

pub returns : goal.returns
returns c = let l = c.loop-k in since_start _ _ _ l.k c.loop-k-test.false l.invariant
