-- `hear_wrong` is `hear_wrong`, by the sitting.
use Rattle.std.proofs.Common.{refl, arith, inl, inr}
use Rattle.sitting.specs.declared.Sitting.{Sitting}
use Rattle.sitting.specs.Sitting.{hear_wrong}
use Rattle.sitting.proofs.endings.Ended.{ended_as}
use Rattle.sitting.proofs.hear_wrong.Goals as goal

pub returns-in-Waiting : goal.returns-in-Waiting
returns-in-Waiting c =
    let a = c.args in
    let h = c.fault_text.ensures in
    let heard = λ (x : Sitting). hear_wrong a.number a.f x in
    elim c.in-Waiting.is [
      | inl e ↦ ended_as heard _ c.ended_with.ensures h.text h.count e.1 refl
      | inr e ↦ ended_as heard _ c.ended_with.ensures h.text h.count e.1 refl
    ]

pub returns-in-Ended : goal.returns-in-Ended
returns-in-Ended c =
    let a = c.args in
    let heard = λ (x : Sitting). hear_wrong a.number a.f x in
    ended_as heard a.out.now c.ended_with-in-Ended.ensures refl (omega arith, refl) c.in-Ended.is refl
