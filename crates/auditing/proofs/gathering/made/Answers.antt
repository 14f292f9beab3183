-- `made` leaves the step's worksheet and the mark of its entry: what `make` hands back, marked.
use lib.Ieee.{of_bits, round}
use Rattle.base.specs.Single.{decimal}
use Rattle.worksheet.specs.Showing.{lent_as}
use Rattle.wording.specs.Written.{call_written}
use Rattle.listing.specs.Turn.{blank}
use Rattle.auditing.proofs.journals.Runs.{made_as}
use Rattle.auditing.proofs.gathering.made.Goals as goal

pub returns : goal.returns
unfolding decimal of_bits round
returns c =
    let a = c.args in
    made_as (lent_as a.lent a.a.now a.b.now) (call_written a.c) a.w
    c.call_written-call.ensures c.make-next.ensures.answer c.is_accepted.ensures (c.mark_of.ensures blank)
