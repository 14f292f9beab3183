-- The units of the source's tables, for private contracts and proofs. Assumes nothing.
use Prim.Native.String.{String}
use Rattle.listing.specs.declared.unit.Unit.{Unit}
use Rattle.listing.specs.declared.unit.Unit.TheVariants.{Bare, Hours, HoursGmt, Degrees, Radians, Kilometres, Megahertz, MhosPerMetre}

abbrev pub unit_name : Unit → String
unit_name Bare = ""
unit_name Hours = "hours"
unit_name HoursGmt = "hours GMT"
unit_name Degrees = "degrees"
unit_name Radians = "radians"
unit_name Kilometres = "km"
unit_name Megahertz = "MHz"
unit_name MhosPerMetre = "mhos/m"
