-- `spoken` leaves the step's worksheet and puts its answer in words: what `make` hands back, as
-- words, with the inputs that the call asks to see.
use Rattle.std.proofs.Common.{ap, ◌∙◌, ℕ}
use lib.Ieee.{of_bits, round}
use Rattle.base.specs.Single.{decimal}
use Rattle.worksheet.specs.Showing.{inputs_shown}
use Rattle.listing.proofs.pieces.Sayings.{asked, spoken_as}
use Rattle.listing.proofs.spoken.spoken.Goals as goal

pub returns : goal.returns
unfolding decimal of_bits round
returns c =
    let h = c.handed_spoken-size.ensures in
    let m = c.make-next.ensures in
    let a = c.args in
    let i = c.inputs_shown-asked.ensures ∙ ap (λ (n : ℕ). inputs_shown n a.w) c.desk_asked.ensures ∙ asked a.call a.w in
    let t = spoken_as a.line _ _ i m.answer m.buffer h.text in
    record { sheet = t.0; text = t.1; count = h.count }
