-- `atan_from` is `atan_from`: inverted above 1.
use Rattle.std.proofs.Common.{sym, ap, ◌∙◌, Float}
use lib.Ieee.{round, of_bits}
use Rattle.base.specs.Double.{◌⊖◌, fraction}
use Rattle.base.specs.Elementary.{atan_from, half_pi}
use Rattle.base.proofs.verdicts.Picks.{cond_true, cond_false}
use Rattle.base.proofs.elementary.atan_from.Goals as goal

pub returns-then-a : goal.returns-then-a
unfolding atan_from half_pi fraction round of_bits
returns-then-a c = ap (λ (t : Float). half_pi ⊖ t) c.atan_within.ensures ∙ sym (cond_true _ _ c.if-a.true)

pub returns-else-a : goal.returns-else-a
unfolding atan_from fraction round of_bits
returns-else-a c = c.atan_within-else-a.ensures ∙ sym (cond_false _ _ c.if-a.false)
