-- `rat_of` turns the zenith angle round before noon, where the arms of its first branch meet, and
-- picks by the map's value against 2.
use Rattle.std.proofs.Common.{◌≡◌, cond, sym}
use lib.Ieee.{neg, lt, round, of_bits}
use Rattle.base.specs.Single.{◌⊖◌, decimal}
use Rattle.maps.specs.Layers.{rat_of}
use Rattle.base.proofs.verdicts.Picks.{cond_true, cond_false}
use Rattle.maps.proofs.ionosphere.layers.rat_of.Goals.{Joined-clock, then-clock, else-clock}
use Rattle.maps.proofs.ionosphere.layers.rat_of.Goals as goal

angle : (c : Joined-clock) → let zdeg = c.args.zdeg.0 in c.if-clock.zn ≡ cond (lt (c.args.clock ⊖ decimal 120 1) (decimal 0 1)) (neg zdeg) zdeg
unfolding decimal round of_bits
angle c = elim c.if-clock.branch [ then-clock w ↦ rw w.zn-is (sym (cond_true _ _ w.if-clock.true)) | else-clock w ↦ rw w.zn-is (sym (cond_false _ _ w.if-clock.false)) ]

pub returns-then-rat : goal.returns-then-rat
unfolding rat_of decimal round of_bits
returns-then-rat c =
    sym (cond_true _ _
    (rw (
      c.noisy-rat.ensures,
      angle (goal.at.returns-then-rat c).Joined-clock,
      c.to_degrees-gm.ensures,
      c.abs32.ensures,
    ) at c.if-rat.true))

pub returns-else-rat : goal.returns-else-rat
unfolding rat_of decimal round of_bits
returns-else-rat c =
    rw (
      c.noisy-rat.ensures,
      angle (goal.at.returns-else-rat c).Joined-clock,
      c.to_degrees-gm.ensures,
      c.abs32.ensures,
    )
    (sym (cond_false _ _
    (rw (
      c.noisy-rat.ensures,
      angle (goal.at.returns-else-rat c).Joined-clock,
      c.to_degrees-gm.ensures,
      c.abs32.ensures,
    ) at c.if-rat.false)))
