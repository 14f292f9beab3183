-- `put_points` puts `first_points`: after p turns the first p points stand there.
use Rattle.listing.proofs.pieces.Rows.{no_points, next_point}
use Rattle.listing.proofs.pieces.Puts.{at_start, one_further}
use Rattle.listing.proofs.page.put_points.Goals as goal

pub loop-p-init : goal.loop-p-init
loop-p-init c = at_start c.args.text.now (no_points c.args.count c.args.figures.now)

pub loop-p-preserved : goal.loop-p-preserved
loop-p-preserved c = one_further c.loop-p.invariant c.put_point_there.ensures (next_point c.args.count c.args.figures.now c.loop-p.p)
