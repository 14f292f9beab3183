-- `put_number` puts `decimal_of`: with k places to go, what is owed are the digits of those.
use Rattle.std.proofs.Common.{◌-◌, arith}
use Rattle.listing.specs.Text.{digit_at, digits_below, decimal_of}
use Rattle.listing.proofs.digits.Places.{next_place, no_place}
use Rattle.listing.proofs.pieces.Puts.{owing, paid, room, settled}
use Rattle.listing.proofs.text.Text.put_number.Goals as goal

pub loop-k-init : goal.loop-k-init
loop-k-init c = owing c.args.self.now (decimal_of c.args.n)

pub put_place-requires : goal.put_place-requires
put_place-requires c =
    let n = c.args.n in
    let k = c.loop-k.k in
    room (digit_at n (k - 1)) (digits_below n (k - 1)) c.loop-k.invariant (next_place n k c.loop-k-test.true) c.requires

pub loop-k-preserved : goal.loop-k-preserved
loop-k-preserved c =
    let n = c.args.n in
    let k = c.loop-k.k in
    paid (digit_at n (k - 1)) (digits_below n (k - 1)) c.loop-k.invariant (next_place n k c.loop-k-test.true) c.put_place.ensures

pub returns : goal.returns
returns c = settled c.loop-k.invariant (no_place c.args.n c.loop-k.k (omega arith))
