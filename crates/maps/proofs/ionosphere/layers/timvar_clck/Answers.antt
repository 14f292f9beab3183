-- `timvar_clck` picks by two tests of the sum.
use Rattle.std.proofs.Common.{sym, ◌∙◌}
use lib.Ieee.{round, of_bits}
use Rattle.base.specs.Single.{decimal}
use Rattle.maps.specs.Layers.{clock_of}
use Rattle.base.proofs.verdicts.Picks.{cond_true, cond_false}
use Rattle.maps.proofs.ionosphere.layers.timvar_clck.Goals as goal

pub returns-then-clock : goal.returns-then-clock
unfolding clock_of decimal round of_bits
returns-then-clock c = sym (cond_true _ _ c.if-clock.true)

pub returns-then-clock-2 : goal.returns-then-clock-2
unfolding clock_of decimal round of_bits
returns-then-clock-2 c = sym (cond_false _ _ c.if-clock.false ∙ cond_true _ _ c.if-clock-2.true)

pub returns-else-clock-2 : goal.returns-else-clock-2
unfolding clock_of decimal round of_bits
returns-else-clock-2 c = sym (cond_false _ _ c.if-clock.false ∙ cond_false _ _ c.if-clock-2.false)
