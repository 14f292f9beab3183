-- `f1_layer` picks by the zenith angle against `zenmax`.
use Rattle.std.proofs.Common.{sym}
use lib.Ieee.{round, of_bits}
use Rattle.base.specs.Single.{decimal}
use Rattle.maps.specs.Layers.{f1_layer}
use Rattle.base.proofs.verdicts.Picks.{cond_true, cond_false}
use Rattle.maps.proofs.ionosphere.layers.f1_layer.Goals as goal

pub returns-then-zdeg-zenmax : goal.returns-then-zdeg-zenmax
unfolding f1_layer decimal round of_bits
returns-then-zdeg-zenmax c = sym (cond_true _ _ c.if-zdeg-zenmax.true)

pub returns-else-zdeg-zenmax : goal.returns-else-zdeg-zenmax
unfolding f1_layer decimal round of_bits
returns-else-zdeg-zenmax c = sym (cond_false _ _ c.if-zdeg-zenmax.false)
