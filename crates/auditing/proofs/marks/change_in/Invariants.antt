-- `change_in` is `change_before`, by the loop's invariant that what is left to look at answers for the
-- whole: a begin ends it, a change is found, or it goes on.
use Rattle.std.proofs.Common.{◌≡◌}
use Rattle.auditing.specs.declared.marks.Origin.TheVariants.{Opened}
use Rattle.auditing.specs.Marks.{change_before}
use Rattle.auditing.proofs.marks.change_in.Given as goal

abbrev pub invariant-loop-k : goal.invariant-loop-k
invariant-loop-k l =
    change_before l.marks l.part l.desk l.settled Opened l.k
    ≡ change_before l.marks l.part l.desk l.settled Opened l.j
