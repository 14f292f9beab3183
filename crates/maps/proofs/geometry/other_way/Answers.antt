-- `other_way` picks by its first argument.
use Rattle.std.proofs.Common.{sym}
use lib.Ieee.{round, of_bits}
use Rattle.base.specs.Single.{decimal}
use Rattle.base.specs.Constants.{PI2}
use Rattle.maps.specs.Geometry.{other_way}
use Rattle.base.proofs.verdicts.Picks.{cond_true, cond_false}
use Rattle.maps.proofs.geometry.other_way.Goals as goal

pub returns-then-other : goal.returns-then-other
unfolding other_way PI2 decimal round of_bits
returns-then-other c = sym (cond_true _ _ c.if-other.true)

pub returns-else-other : goal.returns-else-other
unfolding other_way
returns-else-other c = sym (cond_false _ _ c.if-other.false)
