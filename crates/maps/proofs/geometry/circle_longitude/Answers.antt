-- `circle_longitude` picks by how near the sample area is to a pole.
use Rattle.std.proofs.Common.{sym, ◌∙◌}
use lib.Ieee.{round, of_bits}
use Rattle.base.specs.Single.{decimal}
use Rattle.base.specs.Constants.{PI}
use Rattle.maps.specs.Geometry.{circle_longitude}
use Rattle.base.proofs.verdicts.Picks.{cond_true, cond_false}
use Rattle.maps.proofs.geometry.circle_longitude.Goals as goal

pub returns-then-is_polar : goal.returns-then-is_polar
unfolding circle_longitude
returns-then-is_polar c = sym (cond_true _ _ (sym c.is_polar.ensures ∙ c.if-is_polar.true))

pub returns-else-is_polar : goal.returns-else-is_polar
unfolding circle_longitude PI decimal round of_bits
returns-else-is_polar c =
    rw (
      c.folded.ensures,
      c.sign.ensures,
      c.other_way.ensures,
      c.acos_clamped-rflg.ensures,
    ) (sym (cond_false _ _ (sym c.is_polar.ensures ∙ c.if-is_polar.false)))
