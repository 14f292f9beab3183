-- `wrapped` is one turn of `wraps`, by its two tests.
use Rattle.std.proofs.Common.{sym, ◌∙◌}
use lib.Ieee.{of_bits, round}
use Rattle.base.specs.Single.{decimal}
use Rattle.base.proofs.verdicts.Picks.{cond_true, cond_false}
use Rattle.maps.specs.Clocks.{wraps}
use Rattle.maps.proofs.ionosphere.clocks.wrapped.Goals as goal

pub returns-then-time : goal.returns-then-time
unfolding wraps decimal round of_bits
returns-then-time c = sym (cond_true _ _ c.if-time.true)

pub returns-then-time-2 : goal.returns-then-time-2
unfolding wraps decimal round of_bits
returns-then-time-2 c = sym (cond_false _ _ c.if-time.false ∙ cond_true _ _ c.if-time-2.true)

pub returns-else-time-2 : goal.returns-else-time-2
unfolding wraps decimal round of_bits
returns-else-time-2 c = sym (cond_false _ _ c.if-time.false ∙ cond_false _ _ c.if-time-2.false)
