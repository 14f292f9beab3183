-- `ssp_of` picks by which latitude is farther.
use Rattle.std.proofs.Common.{sym}
use lib.Ieee.{round, of_bits}
use Rattle.base.specs.Single.{decimal}
use Rattle.maps.specs.Layers.{ssp_of}
use Rattle.base.proofs.verdicts.Picks.{cond_true, cond_false}
use Rattle.maps.proofs.ionosphere.layers.ssp_of.Goals as goal

pub returns-then-cendog-cencat : goal.returns-then-cendog-cencat
unfolding ssp_of decimal round of_bits
returns-then-cendog-cencat c =
    rw c.to_radians-s0.ensures
    (sym (cond_true _ _
    (rw (
      c.abs32-cencat.ensures,
      c.abs32-cendog.ensures,
      c.to_radians-s1.ensures,
      c.to_radians-s0.ensures,
    ) at c.if-cendog-cencat.true)))

pub returns-else-cendog-cencat : goal.returns-else-cendog-cencat
unfolding ssp_of decimal round of_bits
returns-else-cendog-cencat c =
    rw c.to_radians-s1.ensures
    (sym (cond_false _ _
    (rw (
      c.abs32-cencat.ensures,
      c.abs32-cendog.ensures,
      c.to_radians-s1.ensures,
      c.to_radians-s0.ensures,
    ) at c.if-cendog-cencat.false)))
