-- `cngtim_of` is `cngtim_of`, by whether the longitude is 0: if not, its calls are rewritten by what
-- they ensure.
use Rattle.std.proofs.Common.{sym}
use lib.Ieee.{of_bits, round}
use Rattle.base.specs.Single.{decimal}
use Rattle.base.proofs.verdicts.Picks.{cond_true, cond_false}
use Rattle.maps.specs.Clocks.{cngtim_of}
use Rattle.maps.proofs.ionosphere.clocks.cngtim_of.Goals as goal

pub returns-then-xtheta : goal.returns-then-xtheta
unfolding cngtim_of decimal round of_bits
returns-then-xtheta c = sym (cond_true _ _ c.if-xtheta.true)

pub returns : goal.returns
unfolding cngtim_of decimal round of_bits
returns c =
    rw (
      c.cngday_of.ensures,
      c.wrapped.ensures,
      c.for_loop.ensures,
      c.after_shift-shifted.ensures,
      c.theta_of-theta.ensures,
    )
    (sym (cond_false _ _ c.if-xtheta.false))
