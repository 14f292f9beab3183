-- `down_meridian` picks by the size of the latitude it comes to.
use Rattle.std.proofs.Common.{sym}
use lib.Ieee.{round, of_bits}
use Rattle.base.specs.Single.{decimal}
use Rattle.base.specs.Constants.{PIO2}
use Rattle.maps.specs.Geometry.{down_meridian}
use Rattle.base.proofs.verdicts.Picks.{cond_true, cond_false}
use Rattle.maps.proofs.geometry.down_meridian.Goals as goal

pub returns-then-abs32 : goal.returns-then-abs32
unfolding down_meridian PIO2 decimal round of_bits
returns-then-abs32 c =
    rw (
      c.sign-then-abs32.ensures,
      c.sign.ensures,
    ) (sym (cond_true _ _ (rw (c.abs32.ensures, c.sign.ensures) at c.if-abs32.true)))

pub returns-else-abs32 : goal.returns-else-abs32
unfolding down_meridian PIO2 decimal round of_bits
returns-else-abs32 c = rw c.sign.ensures (sym (cond_false _ _ (rw (c.abs32.ensures, c.sign.ensures) at c.if-abs32.false)))
