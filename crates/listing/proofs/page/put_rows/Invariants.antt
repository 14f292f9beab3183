-- `put_rows` puts `rows_text`: after k turns the lines of k numbers stand there.
use Rattle.listing.specs.Text.{Puts}
use Rattle.listing.specs.Page.{rows_text}
use Rattle.listing.proofs.page.put_rows.Given as goal

abbrev pub invariant-loop-k : goal.invariant-loop-k
invariant-loop-k l = Puts l.initial.text (rows_text l.first l.xs l.from l.k) l.text
