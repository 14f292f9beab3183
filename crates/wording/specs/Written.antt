-- The call on a worksheet that a written one is: each decimal is the nearest `f32`. Assumes nothing.
use Rattle.base.specs.declared.angle.Degrees.{Degrees}
use Rattle.maps.specs.declared.inputs.Route.{Route}
use Rattle.maps.specs.declared.inputs.Factors.{Factors}
use Rattle.maps.specs.declared.inputs.MagneticPole.{MagneticPole}
use Rattle.maps.specs.declared.inputs.Inputs.{Inputs}
use Rattle.worksheet.specs.declared.inputs.Edit.{Edit}
use Rattle.worksheet.specs.declared.inputs.Edit.TheVariants as edit
use Rattle.worksheet.specs.declared.journal.Call.{Call}
use Rattle.worksheet.specs.declared.journal.Call.TheVariants as call
use Rattle.wording.specs.declared.number.Decimal.{Decimal}
use Rattle.wording.specs.declared.written.WrittenRoute.{WrittenRoute}
use Rattle.wording.specs.declared.written.WrittenFactors.{WrittenFactors}
use Rattle.wording.specs.declared.written.WrittenPole.{WrittenPole}
use Rattle.wording.specs.declared.written.WrittenInputs.{WrittenInputs}
use Rattle.wording.specs.declared.written.WrittenEdit.{WrittenEdit}
use Rattle.wording.specs.declared.written.WrittenEdit.TheVariants.{Sunspot, Hour, Path, Psc, Pole, Month, Model}
use Rattle.wording.specs.declared.written.WrittenCall.{WrittenCall}
use Rattle.wording.specs.declared.written.WrittenCall.TheVariants.{Begin, Change, Commit, Cancel, TakeBack, Show}
use Rattle.wording.specs.Number.{float_of}

abbrev pub degrees_written : Decimal → Degrees
degrees_written d = record { 0 = float_of d }

unfoldable pub route_written : WrittenRoute → Route
route_written p =
    record {
      tlat = degrees_written p.tlat;
      tlong = degrees_written p.tlong;
      rlat = degrees_written p.rlat;
      rlong = degrees_written p.rlong;
      long_path = p.long_path;
    }

unfoldable pub factors_written : WrittenFactors → Factors
factors_written p = record { e = float_of p.e; f1 = float_of p.f1; f2 = float_of p.f2; es = float_of p.es }

unfoldable pub pole_written : WrittenPole → MagneticPole
pole_written p = record { lat = degrees_written p.lat; lon = degrees_written p.lon }

unfoldable pub inputs_written : WrittenInputs → Inputs
inputs_written o =
    record {
      month = o.month;
      ssn = float_of o.ssn;
      gmt = float_of o.gmt;
      route = route_written o.route;
      psc = factors_written o.psc;
      pole = pole_written o.pole;
      model = o.model;
    }

unfoldable pub edit_written : WrittenEdit → Edit
edit_written (Sunspot d) = edit.Sunspot (float_of d)
edit_written (Hour d) = edit.Hour (float_of d)
edit_written (Path p) = edit.Path (route_written p)
edit_written (Psc p) = edit.Psc (factors_written p)
edit_written (Pole p) = edit.Pole (pole_written p)
edit_written (Month m) = edit.Month m
edit_written (Model m) = edit.Model m

unfoldable pub call_written : WrittenCall → Call
call_written (Begin n) = call.Begin n
call_written (Change n e) = call.Change n (edit_written e)
call_written (Commit n) = call.Commit n
call_written (Cancel n) = call.Cancel n
call_written TakeBack = call.TakeBack
call_written (Show n) = call.Show n
