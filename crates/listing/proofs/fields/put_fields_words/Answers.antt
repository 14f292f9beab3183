-- `put_fields_words` puts `fields_words`: after k turns the first k lines stand there.
use Rattle.std.proofs.Common.{arith}
use Rattle.listing.proofs.pieces.Series.{none_yet, one_more}
use Rattle.listing.proofs.pieces.Named.{length_first}
use Rattle.listing.proofs.pieces.Puts.{at_start, one_further}
use Rattle.listing.proofs.fields.put_fields_words.Goals as goal

pub loop-k-init : goal.loop-k-init
loop-k-init c = at_start c.args.text.now (none_yet _)

pub loop-k-preserved : goal.loop-k-preserved
loop-k-preserved c = one_further c.loop-k.invariant c.put_field_line.ensures (one_more _ c.loop-k.k)

pub put_field_line-requires-clause-at_in_bounds : goal.put_field_line-requires-clause-at_in_bounds
put_field_line-requires-clause-at_in_bounds c = omega (arith, length_first c.args.i c.loop-k.k (omega arith))
