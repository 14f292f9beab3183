-- `theta_of` is `theta_of`, by whether the longitude is below 0.
use Rattle.std.proofs.Common.{sym}
use lib.Ieee.{of_bits, round}
use Rattle.base.specs.Single.{decimal}
use Rattle.base.proofs.verdicts.Picks.{cond_true, cond_false}
use Rattle.maps.specs.Clocks.{theta_of}
use Rattle.maps.proofs.ionosphere.clocks.theta_of.Goals as goal

pub returns-then-x : goal.returns-then-x
unfolding theta_of decimal round of_bits
returns-then-x c = sym (cond_true _ _ c.if-x.true)

pub returns-else-x : goal.returns-else-x
unfolding theta_of decimal round of_bits
returns-else-x c = sym (cond_false _ _ c.if-x.false)
