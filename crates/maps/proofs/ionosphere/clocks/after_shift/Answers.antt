-- `after_shift` is `after_shift`: its calls are rewritten by what they ensure, and the literals are
-- the decimals.
use lib.Ieee.{of_bits, round}
use Rattle.base.specs.Single.{decimal}
use Rattle.maps.specs.Clocks.{after_shift}
use Rattle.maps.proofs.ionosphere.clocks.after_shift.Goals as goal

pub returns : goal.returns
unfolding after_shift decimal round of_bits
returns c = rw (c.fisw_of.ensures, c.whole_of-fint2.ensures, c.whole_of-fint1.ensures)
