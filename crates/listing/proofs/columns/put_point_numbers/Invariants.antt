-- `put_point_numbers` puts `point_numbers`: after p turns p numbers stand there.
use Rattle.listing.specs.Text.{Puts}
use Rattle.listing.specs.Columns.{point_numbers}
use Rattle.listing.proofs.columns.put_point_numbers.Given as goal

abbrev pub invariant-loop-p : goal.invariant-loop-p
invariant-loop-p l = Puts l.initial.text (point_numbers l.p) l.text
