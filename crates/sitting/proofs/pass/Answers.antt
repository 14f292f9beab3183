-- `pass` is the sitting of `hearing` over every source and at every line, by what the line reads as.
use Rattle.std.proofs.Common.{ℕ, ◌≡◌, refl, sym, ap, ◌∙◌}
use Rattle.wording.specs.declared.line.Fault.{Fault}
use Rattle.wording.specs.declared.line.Line.{Line}
use Rattle.sitting.specs.declared.Sitting.{Sitting}
use Rattle.sitting.specs.declared.Sitting.TheVariants as stage
use Rattle.sitting.specs.Sitting.{ended_by, hear_wrong, hear_line, hearing}
use Rattle.sitting.proofs.pass.Goals as goal

wrong_ends : (n : ℕ) (f : Fault) (s : Sitting) → ended_by s ≡ (hear_wrong n f s).sitting
wrong_ends n f (stage.Waiting w) = refl
wrong_ends n f (stage.Open w) = refl
wrong_ends n f (stage.Ended w) = refl

pub returns-in-Blank : goal.returns-in-Blank
unfolding hearing
returns-in-Blank c source n =
    let s = c.args.s in
    ap (λ (x : Line). (hear_line source n s x).sitting) (sym c.in-Blank.is ∙ c.line_in.ensures)

pub returns-in-Open : goal.returns-in-Open
unfolding hearing
returns-in-Open c source n =
    let s = c.args.s in
    let read = sym c.in-Open.is ∙ c.line_in.ensures in
    c.pass_open.ensures n ∙ ap (λ (x : Line). (hear_line source n s x).sitting) read

pub returns-in-Call : goal.returns-in-Call
unfolding hearing
returns-in-Call c source n =
    let s = c.args.s in
    let read = sym c.in-Call.is ∙ c.line_in.ensures in
    c.pass_call.ensures source n ∙ ap (λ (x : Line). (hear_line source n s x).sitting) read

pub returns-in-Wrong : goal.returns-in-Wrong
unfolding hearing
returns-in-Wrong c source n =
    let s = c.args.s in
    let read = sym c.in-Wrong.is ∙ c.line_in.ensures in
    c.ended.ensures ∙ wrong_ends n _ s ∙ ap (λ (x : Line). (hear_line source n s x).sitting) read
