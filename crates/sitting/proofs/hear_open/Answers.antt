-- `hear_open` is `hear_open`, by the sitting.
use Rattle.std.proofs.Common.{refl, sym, ap, ◌∙◌, arith}
use Rattle.sitting.specs.declared.Sitting.{Sitting}
use Rattle.sitting.specs.Sitting.{hear_open}
use Rattle.sitting.proofs.endings.Ended.{ended_as}
use Rattle.sitting.proofs.hear_open.Goals as goal

pub returns-in-Waiting : goal.returns-in-Waiting
returns-in-Waiting c =
    let a = c.args in
    let told = sym (ap (λ (x : Sitting). hear_open a.number a.o x) c.in-Waiting.is) in
    let h = c.open_first.ensures in
    record { sitting = h.sitting ∙ ap (λ x. x.sitting) told; text = h.text ∙ ap (λ x. x.text) told; count = h.count }

pub returns-in-Open : goal.returns-in-Open
returns-in-Open c =
    let a = c.args in
    let h = c.again_text.ensures in
    let heard = λ (x : Sitting). hear_open a.number a.o x in
    ended_as heard _ c.ended_with.ensures h.text h.count c.in-Open.is refl

pub returns-in-Ended : goal.returns-in-Ended
returns-in-Ended c =
    let a = c.args in
    let heard = λ (x : Sitting). hear_open a.number a.o x in
    ended_as heard a.out.now c.ended_with-in-Ended.ensures refl (omega arith, refl) c.in-Ended.is refl
