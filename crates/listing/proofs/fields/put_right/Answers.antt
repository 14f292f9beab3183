-- `put_right` puts `at_right`: as many blanks as are missing and the text, joined.
use Rattle.std.proofs.Common.{◌-◌, length, arith}
use Rattle.listing.specs.Fields.{at_right}
use Rattle.listing.proofs.pieces.Puts.{put_as, joined}
use Rattle.listing.proofs.pieces.Series.{blanks}
use Rattle.listing.proofs.fields.put_right.Goals as goal

pub returns : goal.returns
unfolding at_right
returns c = joined (put_as c.put.ensures (rw c.saturating_sub.ensures (blanks 16 (16 - length c.args.piece.now) (omega arith)))) c.put-2.ensures
