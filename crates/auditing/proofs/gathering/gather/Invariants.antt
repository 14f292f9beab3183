-- `gather` gathers what the first k lines told, by the loop's invariant that it has gathered what the
-- lines so far told.
use Rattle.worksheet.specs.Showing.{lent_as}
use Rattle.auditing.specs.Gathered.{gathering}
use Rattle.auditing.proofs.journals.Reading.{ReadTo}
use Rattle.auditing.proofs.gathering.gather.Given as goal

abbrev pub invariant-loop-n : goal.invariant-loop-n
invariant-loop-n l =
    ReadTo (lent_as l.lent l.a l.b) l.text l.n l.at (gathering l.g l.marks l.numbers l.starts)
