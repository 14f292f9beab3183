-- Document 01, At the desks, with request 01: the 15 fields of the inputs, their ranges, the first
-- bad field's refusal, and changes. Assumes nothing.
use Rattle.std.specs.Prelude.{ℕ, Float}
use Rattle.maps.specs.declared.inputs.MagneticPole.{MagneticPole}
use Rattle.base.specs.declared.refusal.Refusal.TheVariants.{Sunspot as BadSunspot, Factor, Flag}
use Rattle.base.specs.Refusal.{Verdict}
use Rattle.base.specs.Refusal.{refuse_unless, ◌then◌}
use Rattle.base.specs.Ranges.{is_to, is_bit, month_check, hour_check, latitude_check, longitude_check, model_check}
use Rattle.base.specs.Single.{decimal}
use Rattle.maps.specs.declared.inputs.Factors.{Factors}
use Rattle.maps.specs.declared.inputs.Inputs.{Inputs}
use Rattle.maps.specs.declared.inputs.Route.{Route}
use Rattle.worksheet.specs.declared.inputs.Edit.{Edit}
use Rattle.worksheet.specs.declared.inputs.Edit.TheVariants.{Sunspot, Hour, Path, Psc, Pole, Month, Model}

-- ---- the fields and their ranges

-- 'sunspot number 0 to 300'
unfoldable pub sunspot_check : Float → Verdict
sunspot_check x = refuse_unless (is_to (decimal 0 1) (decimal 300 0) x) BadSunspot

-- 'four factors 0.125 to 8 (`psc`)'
unfoldable pub factor_check : ℕ → Float → Verdict
factor_check field x = refuse_unless (is_to (decimal 125 3) (decimal 8 0) x) (Factor field)

-- '7 flag neither 0 nor 1 (only in the program's words)': the flag is such a word in every call
unfoldable pub flag_check : ℕ → Verdict
flag_check word = refuse_unless (is_bit word) Flag

-- ---- 'The first bad field decides'

-- 'a path is fields 4 to 8, the flag included': 'transmitter latitude, longitude, receiver
-- latitude, longitude (degrees ..); long-path flag'
unfoldable pub route_check : Route → Verdict
route_check p =
    latitude_check 4 p.tlat then longitude_check 5 p.tlong then
    latitude_check 6 p.rlat then longitude_check 7 p.rlong then flag_check p.long_path

unfoldable pub factors_check : Factors → Verdict
factors_check p =
    factor_check 9 p.e then factor_check 10 p.f1 then factor_check 11 p.f2 then factor_check 12 p.es

-- 'pole latitude and longitude'
unfoldable pub pole_check : MagneticPole → Verdict
pole_check p = latitude_check 13 p.lat then longitude_check 14 p.lon

-- the 14 fields in their order, and 'field 15'
unfoldable pub inputs_check : Inputs → Verdict
inputs_check i =
    month_check i.month then sunspot_check i.ssn then hour_check i.gmt then
    route_check i.route then factors_check i.psc then pole_check i.pole then model_check i.model

-- ---- changes: 'a sunspot number, an hour, a path, four factors or a pole, each with all its
-- numbers'; 'Month and F2 model become changes'

-- 'the changed fields as in open'
unfoldable pub edit_check : Edit → Verdict
edit_check (Sunspot x) = sunspot_check x
edit_check (Hour x) = hour_check x
edit_check (Path p) = route_check p
edit_check (Psc p) = factors_check p
edit_check (Pole p) = pole_check p
edit_check (Month m) = month_check m
edit_check (Model m) = model_check m

-- 'changed fields become the numbers given, bit for bit; its other fields .. stay'
unfoldable pub edited : Edit → Inputs → Inputs
edited (Sunspot x) i =
    record { month = i.month; ssn = x; gmt = i.gmt; route = i.route; psc = i.psc; pole = i.pole; model = i.model }
edited (Hour x) i =
    record { month = i.month; ssn = i.ssn; gmt = x; route = i.route; psc = i.psc; pole = i.pole; model = i.model }
edited (Path p) i =
    record { month = i.month; ssn = i.ssn; gmt = i.gmt; route = p; psc = i.psc; pole = i.pole; model = i.model }
edited (Psc p) i =
    record { month = i.month; ssn = i.ssn; gmt = i.gmt; route = i.route; psc = p; pole = i.pole; model = i.model }
edited (Pole p) i =
    record { month = i.month; ssn = i.ssn; gmt = i.gmt; route = i.route; psc = i.psc; pole = p; model = i.model }
edited (Month m) i =
    record { month = m; ssn = i.ssn; gmt = i.gmt; route = i.route; psc = i.psc; pole = i.pole; model = i.model }
edited (Model m) i =
    record { month = i.month; ssn = i.ssn; gmt = i.gmt; route = i.route; psc = i.psc; pole = i.pole; model = m }
