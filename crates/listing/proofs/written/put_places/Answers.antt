-- `put_places` puts `places_text`: with k places to go, what is owed are the digits of those.
use Rattle.std.proofs.Common.{ℕ, ◌-◌, [], ◌∷◌, ap, arith}
use Rattle.listing.specs.Text.{digit_of}
use Rattle.listing.specs.Written.{places_text}
use Rattle.listing.proofs.pieces.Puts.{owing, paid, room, settled, put_as}
use Rattle.listing.proofs.pieces.Fractions.{next_digit, no_digits}
use Rattle.listing.proofs.written.put_places.Goals as goal

pub loop-k-init : goal.loop-k-init
loop-k-init c = owing c.args.text.now (places_text c.args.n c.args.places)

pub push-requires : goal.push-requires
push-requires c =
    let n = c.args.n in
    let k = c.loop-k.k in
    room (digit_of n (k - 1) ∷ []) (places_text n (k - 1)) c.loop-k.invariant (next_digit n k c.loop-k-test.true) c.requires

pub loop-k-preserved : goal.loop-k-preserved
loop-k-preserved c =
    let n = c.args.n in
    let k = c.loop-k.k in
    paid (digit_of n (k - 1) ∷ []) (places_text n (k - 1)) c.loop-k.invariant (next_digit n k c.loop-k-test.true)
    (put_as c.push.ensures (ap (λ (x : ℕ). x ∷ []) c.digit.ensures))

pub returns : goal.returns
returns c = settled c.loop-k.invariant (no_digits c.args.n c.loop-k.k (omega arith))
