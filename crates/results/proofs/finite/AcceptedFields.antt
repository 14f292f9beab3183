-- Inputs that the worksheet accepts have every field in range, each by the check of its own: the
-- 15 fields' check is one after the other. Assumes nothing.
use Rattle.std.proofs.Common.{Ok, ◌≡◌, sym, subst, ℕ, T, Float}
use Rattle.base.specs.declared.angle.Degrees.{Degrees}
use Rattle.base.specs.declared.refusal.Refusal.TheVariants.{Month, Hour, Latitude, Longitude, Sunspot, Factor}
use Rattle.base.specs.Refusal.{◌then◌}
use Rattle.base.specs.Single.{decimal, minus_decimal}
use Rattle.base.specs.Ranges.{is_to, is_month, month_check, hour_check, latitude_check, longitude_check, model_check}
use Rattle.base.proofs.verdicts.Refusals.{then_both, passed}
use Rattle.maps.specs.declared.inputs.Inputs.{Inputs}
use Rattle.maps.specs.declared.inputs.MagneticPole.{MagneticPole}
use Rattle.maps.specs.declared.inputs.Route.{Route}
use Rattle.worksheet.specs.Inputs.{
  sunspot_check,
  factor_check,
  flag_check,
  route_check,
  factors_check,
  pole_check,
  inputs_check,
}
use Rattle.results.specs.FiniteOrNot.{PlaceInRange, RouteInRange, FieldsInRange}

place_in_law :
    (m n : ℕ) (lat lon : Degrees) → latitude_check m lat ≡ Ok tt → longitude_check n lon ≡ Ok tt →
    PlaceInRange lat lon
unfolding latitude_check longitude_check
place_in_law m n lat lon h k = record {
  latitude = subst T (sym (passed (is_to (minus_decimal 90 0) (decimal 90 0) lat.0) (Latitude m) h)) tt;
  longitude = subst T (sym (passed (is_to (minus_decimal 180 0) (decimal 180 0) lon.0) (Longitude n) k)) tt;
}

factor_in : (n : ℕ) (x : Float) → factor_check n x ≡ Ok tt → T (is_to (decimal 125 3) (decimal 8 0) x)
unfolding factor_check
factor_in n x h = subst T (sym (passed (is_to (decimal 125 3) (decimal 8 0) x) (Factor n) h)) tt

ends_in : (r : Route) → route_check r ≡ Ok tt → PlaceInRange r.tlat r.tlong × PlaceInRange r.rlat r.rlong
unfolding route_check
ends_in r h =
    let flag = flag_check r.long_path in
    let rlong = longitude_check 7 r.rlong in
    let rlat = latitude_check 6 r.rlat in
    let tlong = longitude_check 5 r.tlong in
    let a = then_both (latitude_check 4 r.tlat) (tlong then rlat then rlong then flag) h in
    let b = then_both tlong (rlat then rlong then flag) a.1 in
    let c = then_both rlat (rlong then flag) b.1 in
    let d = then_both rlong flag c.1 in
    (place_in_law 4 5 r.tlat r.tlong a.0 b.0, place_in_law 6 7 r.rlat r.rlong c.0 d.0)

pole_in : (p : MagneticPole) → pole_check p ≡ Ok tt → PlaceInRange p.lat p.lon
unfolding pole_check
pole_in p h =
    let a = then_both (latitude_check 13 p.lat) (longitude_check 14 p.lon) h in
    place_in_law 13 14 p.lat p.lon a.0 a.1

pub accepted_in_range :
    (i : Inputs) → inputs_check i ≡ Ok tt → RouteInRange i × FieldsInRange i × T (is_month i.month)
unfolding inputs_check factors_check sunspot_check hour_check month_check
accepted_in_range i h =
    let p = i.psc in
    let s = sunspot_check i.ssn in
    let t = hour_check i.gmt in
    let u = route_check i.route in
    let v = factors_check p in
    let w = pole_check i.pole then model_check i.model in
    let a = then_both (month_check i.month) (s then t then u then v then w) h in
    let b = then_both s (t then u then v then w) a.1 in
    let c = then_both t (u then v then w) b.1 in
    let d = then_both u (v then w) c.1 in
    let e = then_both v w d.1 in
    let o = then_both (pole_check i.pole) (model_check i.model) e.1 in
    let x = factor_check 10 p.f1 in
    let y = factor_check 11 p.f2 in
    let z = factor_check 12 p.es in
    let f = then_both (factor_check 9 p.e) (x then y then z) e.0 in
    let g = then_both x (y then z) f.1 in
    let k = then_both y z g.1 in
    let r = ends_in i.route d.0 in (
      record { ends = record { transmitter = r.0; receiver = r.1 }; pole = pole_in i.pole o.0 },
      record {
        sunspots = subst T (sym (passed (is_to (decimal 0 1) (decimal 300 0) i.ssn) Sunspot b.0)) tt;
        hour = subst T (sym (passed (is_to (decimal 0 1) (decimal 24 0) i.gmt) Hour c.0)) tt;
        e = factor_in 9 p.e f.0;
        f1 = factor_in 10 p.f1 g.0;
        f2 = factor_in 11 p.f2 k.0;
        es = factor_in 12 p.es k.1;
      },
      subst T (sym (passed (is_month i.month) Month a.0)) tt,
    )
