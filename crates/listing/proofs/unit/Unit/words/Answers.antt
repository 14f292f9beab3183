-- `words` has the unit's name after two blanks, by the unit.
use Rattle.std.proofs.Common.{refl}
use Rattle.listing.proofs.unit.Unit.words.Goals as goal

pub returns-in-Bare : goal.returns-in-Bare
returns-in-Bare c = rw c.in-Bare.is refl

pub returns-in-Hours : goal.returns-in-Hours
returns-in-Hours c = rw c.in-Hours.is refl

pub returns-in-HoursGmt : goal.returns-in-HoursGmt
returns-in-HoursGmt c = rw c.in-HoursGmt.is refl

pub returns-in-Degrees : goal.returns-in-Degrees
returns-in-Degrees c = rw c.in-Degrees.is refl

pub returns-in-Radians : goal.returns-in-Radians
returns-in-Radians c = rw c.in-Radians.is refl

pub returns-in-Kilometres : goal.returns-in-Kilometres
returns-in-Kilometres c = rw c.in-Kilometres.is refl

pub returns-in-Megahertz : goal.returns-in-Megahertz
returns-in-Megahertz c = rw c.in-Megahertz.is refl

pub returns-in-MhosPerMetre : goal.returns-in-MhosPerMetre
returns-in-MhosPerMetre c = rw c.in-MhosPerMetre.is refl
