-- `pass_open` is the sitting of `hear_open` at every line, by the sitting.
use Rattle.std.proofs.Common.{sym, ap, ◌∙◌, inl, inr}
use Rattle.worksheet.specs.declared.desks.Outcome.{Outcome}
use Rattle.worksheet.specs.Desks.{open_of}
use Rattle.sitting.specs.declared.Sitting.{Sitting}
use Rattle.sitting.specs.Sitting.{ended_by, sitting_after, hear_open}
use Rattle.sitting.proofs.pass_open.Goals as goal

pub returns-in-Waiting : goal.returns-in-Waiting
returns-in-Waiting c = λ n.
    let a = c.args in
    let done = c.«open».ensures ∙ ap open_of c.inputs_written.ensures in
    c.sitting_after.ensures
    ∙ ap (λ (x : Outcome). sitting_after x.answer x.sheet) done
    ∙ sym (ap (λ (x : Sitting). (hear_open n a.o x).sitting) c.in-Waiting.is)

pub returns-in-Open : goal.returns-in-Open
returns-in-Open c = λ n.
    let a = c.args in
    let told = λ (x : Sitting). (hear_open n a.o x).sitting in
    let ends = λ (x : Sitting). ended_by x in
    elim c.in-Open.is [
      | inl e ↦ c.ended.ensures ∙ ap ends e.1 ∙ sym (ap told e.1)
      | inr e ↦ c.ended.ensures ∙ ap ends e.1 ∙ sym (ap told e.1)
    ]
