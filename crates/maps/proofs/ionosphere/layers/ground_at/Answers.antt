-- `ground_at` picks by one test, which a NaN fails.
use Rattle.std.proofs.Common.{sym}
use lib.Ieee.{round, of_bits}
use Rattle.base.specs.Single.{decimal}
use Rattle.maps.specs.Layers.{ground_at}
use Rattle.base.proofs.verdicts.Picks.{cond_true, cond_false}
use Rattle.maps.proofs.ionosphere.layers.ground_at.Goals as goal

pub returns-then-wld : goal.returns-then-wld
unfolding ground_at decimal round of_bits
returns-then-wld c = sym (cond_true _ _ c.if-wld.true)

pub returns-else-wld : goal.returns-else-wld
unfolding ground_at decimal round of_bits
returns-else-wld c = sym (cond_false _ _ c.if-wld.false)
