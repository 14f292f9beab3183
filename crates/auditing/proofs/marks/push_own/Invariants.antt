-- `push_own` gives the buffer a draft's own places, by the loop's invariant that those which are left
-- complete them.
use Rattle.std.proofs.Common.{◌-◌, ◌≡◌}
use Rattle.auditing.specs.Marks.{own_places, pile, all_given, draft_places}
use Rattle.auditing.proofs.marks.push_own.Given as goal

abbrev pub invariant-loop-k : goal.invariant-loop-k
invariant-loop-k l =
    all_given (draft_places l.marks l.desk l.k (l.j - l.k)) (pile l.n l.out)
    ≡ all_given (own_places l.marks l.desk l.j) (pile l.size l.initial.out)
