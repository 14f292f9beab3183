-- `nudge` picks by the sign of the receiver's latitude.
use Rattle.std.proofs.Common.{sym}
use lib.Ieee.{round, of_bits}
use Rattle.base.specs.Single.{decimal}
use Rattle.maps.specs.Geometry.{DDX, nudge_of}
use Rattle.base.proofs.verdicts.Picks.{cond_true, cond_false}
use Rattle.maps.proofs.geometry.nudge.Goals as goal

pub returns-then-rlat : goal.returns-then-rlat
unfolding nudge_of DDX decimal round of_bits
returns-then-rlat c = sym (cond_true _ _ c.if-rlat.true)

pub returns-else-rlat : goal.returns-else-rlat
unfolding nudge_of DDX decimal round of_bits
returns-else-rlat c = sym (cond_false _ _ c.if-rlat.false)
