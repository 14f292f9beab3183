-- `begin_before` finds where a draft's own places begin, by the loop's invariant that from place k on
-- all that is of drafts is this one's.
use Rattle.auditing.proofs.places.Drafts.{Since}
use Rattle.auditing.proofs.marks.begin_before.Given as goal

abbrev pub invariant-loop-k : goal.invariant-loop-k
invariant-loop-k l = Since l.marks l.desk l.j l.k
