-- `put_points` puts `first_points`: after p turns the first p points stand there.
use Rattle.listing.specs.Text.{Puts}
use Rattle.listing.specs.Page.{first_points}
use Rattle.listing.proofs.page.put_points.Given as goal

abbrev pub invariant-loop-p : goal.invariant-loop-p
invariant-loop-p l = Puts l.initial.text (first_points l.count l.figures l.p) l.text
