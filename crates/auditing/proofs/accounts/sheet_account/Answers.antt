-- `sheet_account` writes `sheet_account`: the page of what `make` hands back of a showing.
use lib.Ieee.{of_bits, round}
use Rattle.base.specs.Single.{decimal}
use Rattle.auditing.proofs.pages.Answers.{sheet_as}
use Rattle.auditing.proofs.accounts.sheet_account.Goals as goal

pub returns : goal.returns
unfolding decimal of_bits round
returns c =
    let a = c.args in
    let e = c.handed_page.ensures in
    record { text = sheet_as _ a.w c.make-next.ensures.answer c.make-next.ensures.buffer e.text; count = e.count }
