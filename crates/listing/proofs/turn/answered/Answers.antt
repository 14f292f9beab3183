-- `answered` leaves the step's worksheet and puts the text of its answer: what `make` hands back,
-- as text.
use lib.Ieee.{of_bits, round}
use Rattle.base.specs.Single.{decimal}
use Rattle.listing.proofs.pieces.Turns.{turn_as}
use Rattle.listing.proofs.turn.answered.Goals as goal

pub returns : goal.returns
unfolding decimal of_bits round
returns c =
    let m = c.make-next.ensures in
    let h = c.handed_text-size.ensures in
    let t = turn_as _ _ m.answer m.buffer h.text in
    record { sheet = t.0; text = t.1; count = h.count }
