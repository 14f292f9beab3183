-- `field_account` writes `field_account`: the line of the origin of the field's part, call after call.
use Rattle.std.proofs.Common.{ℕ, false, ap, ◌∙◌}
use Rattle.listing.specs.Account.{came_line}
use Rattle.auditing.specs.Marks.{origin_before}
use Rattle.auditing.specs.Accounts.{came_by, field_account}
use Rattle.auditing.proofs.accounts.field_account.Goals as goal

pub returns : goal.returns
unfolding field_account
returns c =
    let a = c.args in
    let ms = a.marks.now in
    let origin =
    c.origin_in-origin.ensures ∙ ap (λ (x : ℕ). origin_before ms x false a.count) c.field_part.ensures in
    let came = c.came_by-came.ensures ∙ ap (came_by a.opened ms a.numbers.now) origin in
    let e = c.came_line.ensures in
    record { text = e.text ∙ ap (came_line a.i a.k) came; count = e.count }
