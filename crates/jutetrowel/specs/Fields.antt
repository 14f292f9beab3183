-- A sheet's fields that cross to this library one by one, as the crates below take them. Assumes
-- nothing.
use Rattle.std.specs.Prelude.{ℕ, Float}
use Rattle.base.specs.declared.angle.Degrees.{Degrees}
use Rattle.base.specs.declared.angle.Radians.{Radians}
use Rattle.maps.specs.declared.inputs.Factors.{Factors}
use Rattle.maps.specs.declared.inputs.Inputs.{Inputs}
use Rattle.maps.specs.declared.inputs.MagneticPole.{MagneticPole}
use Rattle.maps.specs.declared.inputs.Route.{Route}

abbrev pub degrees : Float → Degrees
degrees x = record { 0 = x }

abbrev pub radians : Float → Radians
radians x = record { 0 = x }

-- a path's numbers, and the flag's word as it is
abbrev pub route_typed : Float → Float → Float → Float → ℕ → Route
route_typed tlat tlong rlat rlong flag =
    record {
      tlat = degrees tlat;
      tlong = degrees tlong;
      rlat = degrees rlat;
      rlong = degrees rlong;
      long_path = flag;
    }

abbrev pub factors_of : Float → Float → Float → Float → Factors
factors_of e f1 f2 es = record { e = e; f1 = f1; f2 = f2; es = es }

abbrev pub pole_typed : Float → Float → MagneticPole
pole_typed lat lon = record { lat = degrees lat; lon = degrees lon }

-- the 14 fields in document 01's order, with model 0
unfoldable pub inputs_typed :
    ℕ → Float → Float → Float → Float → Float → Float → ℕ → Float → Float → Float → Float → Float → Float → Inputs
inputs_typed month ssn gmt tlat tlong rlat rlong flag e f1 f2 es lat lon =
    record {
      month = month;
      ssn = ssn;
      gmt = gmt;
      route = route_typed tlat tlong rlat rlong flag;
      psc = factors_of e f1 f2 es;
      pole = pole_typed lat lon;
      model = 0;
    }
