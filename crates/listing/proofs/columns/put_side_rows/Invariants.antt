-- `put_side_rows` puts `side_rows`: after k turns k lines stand there.
use Rattle.listing.specs.Text.{Puts}
use Rattle.listing.specs.Columns.{side_rows}
use Rattle.listing.proofs.columns.put_side_rows.Given as goal

abbrev pub invariant-loop-k : goal.invariant-loop-k
invariant-loop-k l = Puts l.initial.text (side_rows l.first l.figures l.from l.n l.k) l.text
