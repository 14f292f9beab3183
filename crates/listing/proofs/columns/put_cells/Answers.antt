-- `put_cells` puts `cells_text`: after p turns p numbers stand there.
use Rattle.listing.proofs.pieces.Series.{none_yet, one_more}
use Rattle.listing.proofs.pieces.Puts.{at_start, one_further}
use Rattle.listing.proofs.columns.put_cells.Goals as goal

pub loop-p-init : goal.loop-p-init
loop-p-init c = at_start c.args.text.now (none_yet _)

pub loop-p-preserved : goal.loop-p-preserved
loop-p-preserved c = one_further c.loop-p.invariant c.put_figure.ensures (one_more _ c.loop-p.p)
