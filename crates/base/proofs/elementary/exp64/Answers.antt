-- `exp64` is `exp_of`: the two ends, then `exp_within`.
use Rattle.std.proofs.Common.{sym, ◌∙◌}
use lib.Ieee.{neg, round, of_bits}
use Rattle.base.specs.Double.{fraction}
use Rattle.base.specs.Elementary.{exp_of}
use Rattle.base.proofs.verdicts.Picks.{cond_true, cond_false}
use Rattle.base.proofs.elementary.exp64.Goals as goal

pub returns-then-v : goal.returns-then-v
unfolding exp_of fraction round of_bits
returns-then-v c = sym (cond_true _ _ c.if-v.true)

pub returns-then-v-2 : goal.returns-then-v-2
unfolding exp_of fraction round of_bits neg
returns-then-v-2 c = sym (cond_false _ _ c.if-v.false ∙ cond_true _ _ c.if-v-2.true)

pub returns-else-v-2 : goal.returns-else-v-2
unfolding exp_of fraction round of_bits neg
returns-else-v-2 c = c.exp_within.ensures ∙ sym (cond_false _ _ c.if-v.false ∙ cond_false _ _ c.if-v-2.false)
