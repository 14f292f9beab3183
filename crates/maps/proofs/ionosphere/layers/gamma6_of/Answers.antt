-- `gamma6_of` picks by the map's value against 0.36.
use Rattle.std.proofs.Common.{sym}
use lib.Ieee.{round, of_bits}
use Rattle.base.specs.Single.{decimal}
use Rattle.maps.specs.Layers.{gamma6_of}
use Rattle.base.proofs.verdicts.Picks.{cond_true, cond_false}
use Rattle.maps.proofs.ionosphere.layers.gamma6_of.Goals as goal

pub returns-then-gamma6 : goal.returns-then-gamma6
unfolding gamma6_of decimal round of_bits
returns-then-gamma6 c = rw c.sqrt32.ensures (sym (cond_true _ _ c.if-gamma6.true))

pub returns-else-gamma6 : goal.returns-else-gamma6
unfolding gamma6_of decimal round of_bits
returns-else-gamma6 c = sym (cond_false _ _ c.if-gamma6.false)
