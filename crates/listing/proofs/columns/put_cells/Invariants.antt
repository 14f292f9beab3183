-- `put_cells` puts `cells_text`: after p turns p numbers stand there.
use Rattle.listing.specs.Text.{Puts}
use Rattle.listing.specs.Columns.{cells_text}
use Rattle.listing.proofs.columns.put_cells.Given as goal

abbrev pub invariant-loop-p : goal.invariant-loop-p
invariant-loop-p l = Puts l.initial.text (cells_text l.figures l.from l.p) l.text
