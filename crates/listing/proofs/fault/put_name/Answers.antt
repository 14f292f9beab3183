-- `put_name` puts the name of a word, which has at most seven letters.
use Rattle.std.proofs.Common.{arith, ap, length}
use Rattle.listing.proofs.pieces.Faults.{name_most}
use Rattle.listing.proofs.pieces.Puts.{put_as}
use Rattle.listing.proofs.fault.put_name.Goals as goal

pub put-requires : goal.put-requires
put-requires c = omega (arith, ap length c.name.ensures, name_most c.args.word)

pub returns : goal.returns
returns c =
    let p = put_as c.put.ensures c.name.ensures in
    record { text = p; bound = omega (arith, c.put.ensures.len, ap length c.name.ensures, name_most c.args.word) }
