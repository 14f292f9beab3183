-- `kept_in` gives the buffer the shorter list's places, by the loop's invariant that it has those of
-- the calls before place j.
use Rattle.std.proofs.Common.{◌≡◌}
use Rattle.auditing.specs.Marks.{kept_places, pile, all_given}
use Rattle.auditing.proofs.marks.kept_in.Given as goal

abbrev pub invariant-loop-j : goal.invariant-loop-j
invariant-loop-j l =
    pile l.size l.out ≡ all_given (kept_places l.marks l.j) (pile 0 l.initial.out)
