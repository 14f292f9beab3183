-- `put_rows` puts `rows_text`: after k turns the lines of k numbers stand there.
use Rattle.listing.proofs.pieces.Rows.{no_rows, next_row}
use Rattle.listing.proofs.pieces.Puts.{at_start, one_further}
use Rattle.listing.proofs.page.put_rows.Goals as goal

pub loop-k-init : goal.loop-k-init
loop-k-init c = at_start c.args.text.now (no_rows c.args.first c.args.xs.now c.args.from)

pub loop-k-preserved : goal.loop-k-preserved
loop-k-preserved c = one_further c.loop-k.invariant c.put_row.ensures (next_row c.args.first c.args.xs.now c.args.from c.loop-k.k)
