-- `acos64` is `acos_of`: the range's test decides, then the callees' definitions compose.
use Rattle.std.proofs.Common.{sym, ap, ◌∙◌, Float}
use lib.Ieee.{le, round, of_bits}
use Rattle.base.specs.Double.{◌⊗◌, fraction}
use Rattle.base.specs.Elementary.{atan_of, acos_of}
use Rattle.base.proofs.verdicts.Picks.{cond_true, cond_false}
use Rattle.base.proofs.elementary.acos64.Goals as goal

pub returns-then-abs64 : goal.returns-then-abs64
unfolding acos_of fraction round of_bits
returns-then-abs64 c =
    let t = ap (λ (a : Float). le a (fraction 1 1)) (sym c.abs64.ensures) ∙ c.if-abs64.true in
    ap (λ (s : Float). fraction 2 1 ⊗ s) (c.atan64.ensures ∙ ap atan_of c.sqrt64.ensures) ∙ sym (cond_true _ _ t)

pub returns-else-abs64 : goal.returns-else-abs64
unfolding acos_of fraction round of_bits
returns-else-abs64 c = sym (cond_false _ _ (ap (λ (a : Float). le a (fraction 1 1)) (sym c.abs64.ensures) ∙ c.if-abs64.false))
