-- `no_drafts` finds whether a draft has a line. The loop's invariant: those of the first calls have
-- none.
use Rattle.std.proofs.Common.{◌≡◌, length}
use Rattle.auditing.specs.Page.{drafts_text}
use Rattle.auditing.proofs.page.no_drafts.Given as goal

abbrev pub invariant-loop-p : goal.invariant-loop-p
invariant-loop-p l = length (drafts_text l.marks l.numbers l.count l.p) ≡ 0
