-- `put_side_rows` puts `side_rows`: after k turns k lines stand there.
use Rattle.listing.proofs.pieces.Series.{none_yet, one_more}
use Rattle.listing.proofs.pieces.Puts.{at_start, one_further}
use Rattle.listing.proofs.columns.put_side_rows.Goals as goal

pub loop-k-init : goal.loop-k-init
loop-k-init c = at_start c.args.text.now (none_yet _)

pub loop-k-preserved : goal.loop-k-preserved
loop-k-preserved c = one_further c.loop-k.invariant c.put_side_row.ensures (one_more _ c.loop-k.k)
