-- `opened_as` is `opened_as`, field by field.
use Rattle.std.proofs.Common.{◌≡◌, ap, ◌∙◌}
use Rattle.worksheet.specs.declared.desks.Outcome.{Outcome}
use Rattle.worksheet.specs.Desks.{open_of}
use Rattle.wording.specs.Written.{inputs_written}
use Rattle.auditing.specs.Gathered.{stage_of, opened_as}
use Rattle.auditing.proofs.gathering.opened_as.Goals as goal

pub returns : goal.returns
unfolding opened_as
returns c =
    let o = c.open-first in
    let a = c.args in
    let i = c.inputs_written.ensures in
    let first : o.result ≡ open_of (inputs_written a.o) = o.ensures ∙ ap open_of i in
    let stage = c.stage_of.ensures ∙ ap (λ (x : Outcome). stage_of x.answer) first in
    λ t. record { stage = stage t; sheet = (first t).sheet; count = 0; opened = a.n; start = a.s }
