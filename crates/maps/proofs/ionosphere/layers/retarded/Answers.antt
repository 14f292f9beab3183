-- `retarded` picks by whether there is an F1 layer.
use Rattle.std.proofs.Common.{sym}
use lib.Ieee.{round, of_bits}
use Rattle.base.specs.Single.{decimal}
use Rattle.maps.specs.Layers.{retarded_of}
use Rattle.base.proofs.verdicts.Picks.{cond_true, cond_false}
use Rattle.maps.proofs.ionosphere.layers.retarded.Goals as goal

pub returns-then-f1 : goal.returns-then-f1
unfolding retarded_of decimal round of_bits
returns-then-f1 c = rw c.merged_of-m.ensures (sym (cond_true _ _ c.if-f1.true))

pub returns-else-f1 : goal.returns-else-f1
unfolding retarded_of decimal round of_bits
returns-else-f1 c = sym (cond_false _ _ c.if-f1.false)
