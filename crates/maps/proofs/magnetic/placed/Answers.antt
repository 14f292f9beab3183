-- `placed` is `placed_of`: its calls are rewritten by what they ensure.
use lib.Ieee.{round, of_bits}
use Rattle.base.specs.Single.{decimal}
use Rattle.maps.specs.Magnetic.{HC, placed_of}
use Rattle.maps.proofs.magnetic.placed.Goals as goal

pub returns : goal.returns
unfolding placed_of HC decimal round of_bits
returns c = rw (c.powers.ensures, c.multiples_of.ensures, c.sqrt32.ensures, c.sin32-c.ensures, c.clamped-q.ensures)
