-- `call_open` is `made_by`: what `spoken` leaves and says, with the call that is written.
use Rattle.std.proofs.Common.{ap, ◌∙◌}
use Rattle.worksheet.specs.declared.journal.Call.{Call}
use Rattle.worksheet.specs.Showing.{lent_as}
use Rattle.worksheet.specs.Journal.{step}
use Rattle.worksheet.specs.Calls.{called}
use Rattle.listing.specs.Turn.{blank}
use Rattle.listing.specs.Spoken.{spoken_text, inputs_asked}
use Rattle.worksheet.specs.declared.desks.Worksheet.{Worksheet}
use Rattle.sitting.specs.declared.Sitting.TheVariants.{Open}
use Rattle.sitting.proofs.call_open.Goals as goal

pub returns : goal.returns
returns c =
    let a = c.args in
    let source = lent_as a.lent a.a.now a.b.now in
    let written = c.call_written.ensures in
    let h = c.spoken-turn.ensures in
    let sheet = h.sheet ∙ ap (λ (x : Call). (step source (called x blank) a.w).sheet) written in
    record {
      sitting = ap (λ (x : Worksheet). Open x) sheet;
      text =
          h.text ∙ ap (λ (x : Call). spoken_text a.number (inputs_asked x a.w) (step source (called x blank) a.w).answer) written;
      count = h.count;
    }
