-- `east` is `east_of`: 360 degrees in radians are added to a longitude below 0.
use Rattle.std.proofs.Common.{sym}
use lib.Ieee.{round, of_bits}
use Rattle.base.specs.Single.{decimal}
use Rattle.base.proofs.verdicts.Picks.{cond_true, cond_false}
use Rattle.maps.specs.Magnetic.{o, east_of}
use Rattle.maps.proofs.magnetic.east.Goals as goal

pub returns-then-lon : goal.returns-then-lon
unfolding east_of o decimal round of_bits
returns-then-lon c = rw c.to_radians-c360.ensures (sym (cond_true _ _ c.if-lon.true))

pub returns-else-lon : goal.returns-else-lon
unfolding east_of o decimal round of_bits
returns-else-lon c = sym (cond_false _ _ c.if-lon.false)
