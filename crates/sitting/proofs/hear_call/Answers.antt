-- `hear_call` is `hear_call`, by the sitting.
use Rattle.std.proofs.Common.{refl, sym, ap, ◌∙◌, arith}
use Rattle.worksheet.specs.Showing.{lent_as}
use Rattle.sitting.specs.declared.Sitting.{Sitting}
use Rattle.sitting.specs.Sitting.{hear_call}
use Rattle.sitting.proofs.endings.Ended.{ended_as}
use Rattle.sitting.proofs.hear_call.Goals as goal

pub returns-in-Waiting : goal.returns-in-Waiting
returns-in-Waiting c =
    let a = c.args in
    let source = lent_as a.lent a.a.now a.b.now in
    let h = c.unopened_text.ensures in
    let heard = λ (x : Sitting). hear_call source a.number a.c x in
    ended_as heard _ c.ended_with.ensures h.text h.count c.in-Waiting.is refl

pub returns-in-Open : goal.returns-in-Open
returns-in-Open c =
    let a = c.args in
    let source = lent_as a.lent a.a.now a.b.now in
    let told = sym (ap (λ (x : Sitting). hear_call source a.number a.c x) c.in-Open.is) in
    let h = c.call_open.ensures in
    record { sitting = h.sitting ∙ ap (λ x. x.sitting) told; text = h.text ∙ ap (λ x. x.text) told; count = h.count }

pub returns-in-Ended : goal.returns-in-Ended
returns-in-Ended c =
    let a = c.args in
    let source = lent_as a.lent a.a.now a.b.now in
    let heard = λ (x : Sitting). hear_call source a.number a.c x in
    ended_as heard a.out.now c.ended_with-in-Ended.ensures refl (omega arith, refl) c.in-Ended.is refl
