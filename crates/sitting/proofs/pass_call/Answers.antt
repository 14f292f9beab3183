-- `pass_call` is the sitting of `hear_call` over every source and at every line, by the sitting.
use Rattle.std.proofs.Common.{sym, ap, ◌∙◌, inl, inr}
use Rattle.worksheet.specs.declared.desks.Worksheet.{Worksheet}
use Rattle.sitting.specs.declared.Sitting.{Sitting}
use Rattle.sitting.specs.declared.Sitting.TheVariants.{Open}
use Rattle.sitting.specs.Sitting.{ended_by, hear_call}
use Rattle.sitting.proofs.pass_call.Goals as goal

pub returns-in-Open : goal.returns-in-Open
returns-in-Open c source n =
    let a = c.args in
    let told = sym (ap (λ (x : Sitting). (hear_call source n a.c x).sitting) c.in-Open.is) in
    ap (λ (x : Worksheet). Open x) (c.sheet_after.ensures source) ∙ told

pub returns-in-Waiting : goal.returns-in-Waiting
returns-in-Waiting c source n =
    let a = c.args in
    let told = λ (x : Sitting). (hear_call source n a.c x).sitting in
    let ends = λ (x : Sitting). ended_by x in
    elim c.in-Waiting.is [
      | inl e ↦ c.ended.ensures ∙ ap ends e.1 ∙ sym (ap told e.1)
      | inr e ↦ c.ended.ensures ∙ ap ends e.1 ∙ sym (ap told e.1)
    ]
