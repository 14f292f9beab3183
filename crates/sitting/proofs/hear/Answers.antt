-- `hear` is `hearing`, by what the line reads as.
use Rattle.std.proofs.Common.{arith, refl, sym, ap, ◌∙◌}
use Rattle.worksheet.specs.Showing.{lent_as}
use Rattle.wording.specs.declared.line.Line.{Line}
use Rattle.sitting.specs.Sitting.{hear_line, hearing}
use Rattle.sitting.proofs.hear.Goals as goal

pub returns-in-Blank : goal.returns-in-Blank
unfolding hearing
returns-in-Blank c =
    let a = c.args in
    let source = lent_as a.lent a.a.now a.b.now in
    let read = sym c.in-Blank.is ∙ c.line_in.ensures in
    let told = ap (λ (x : Line). hear_line source a.number a.s x) read in
    record { sitting = ap (λ x. x.sitting) told; text = ap (λ x. x.text) told; count = (omega arith, refl) }

pub returns-in-Open : goal.returns-in-Open
unfolding hearing
returns-in-Open c =
    let a = c.args in
    let source = lent_as a.lent a.a.now a.b.now in
    let read = sym c.in-Open.is ∙ c.line_in.ensures in
    let told = ap (λ (x : Line). hear_line source a.number a.s x) read in
    let h = c.hear_open.ensures in
    record { sitting = h.sitting ∙ ap (λ x. x.sitting) told; text = h.text ∙ ap (λ x. x.text) told; count = h.count }

pub returns-in-Call : goal.returns-in-Call
unfolding hearing
returns-in-Call c =
    let a = c.args in
    let source = lent_as a.lent a.a.now a.b.now in
    let read = sym c.in-Call.is ∙ c.line_in.ensures in
    let told = ap (λ (x : Line). hear_line source a.number a.s x) read in
    let h = c.hear_call.ensures in
    record { sitting = h.sitting ∙ ap (λ x. x.sitting) told; text = h.text ∙ ap (λ x. x.text) told; count = h.count }

pub returns-in-Wrong : goal.returns-in-Wrong
unfolding hearing
returns-in-Wrong c =
    let a = c.args in
    let source = lent_as a.lent a.a.now a.b.now in
    let read = sym c.in-Wrong.is ∙ c.line_in.ensures in
    let told = ap (λ (x : Line). hear_line source a.number a.s x) read in
    let h = c.hear_wrong.ensures in
    record { sitting = h.sitting ∙ ap (λ x. x.sitting) told; text = h.text ∙ ap (λ x. x.text) told; count = h.count }
