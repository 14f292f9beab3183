-- No NaN and no infinity on a path: with both ends in range its six figures are finite, and with
-- the magnetic pole in range too the four numbers of each control point, since each has a bound
-- (`Longitudes`). Assumes nothing.
use Rattle.std.proofs.Common.{subst, Bool, true, false, cond, ℕ, zero, suc, ◌<◌, arith, T, eqb, lit<, pos, Float, get_or}
use lib.Ieee.{fin, binary32, round, add, mul, div, le}
use lib.Ieee.Scale.{finite}
use Rattle.base.specs.declared.angle.Degrees.{Degrees}
use Rattle.base.specs.declared.angle.Radians.{Radians}
use Rattle.maps.specs.declared.inputs.MagneticPole.{MagneticPole}
use Rattle.base.specs.Single.{◌⊕◌, ◌⊖◌, ◌⊗◌, ◌⊘◌, decimal, minus_decimal}
use Rattle.base.specs.Number.{negative, abs_of}
use Rattle.base.specs.Constants.{R2D, RZ}
use Rattle.base.specs.Angle.{radians_of, degrees_of}
use Rattle.base.proofs.order.Order.{Between, trans_le}
use Rattle.base.proofs.order.Monotone.{div_size}
use Rattle.results.proofs.numbers.Sizes.{Sized, plus_sized, less_sized, times_sized, larger, sized_number, sized_finite}
use Rattle.maps.specs.declared.geometry.ControlPoint.{ControlPoint}
use Rattle.maps.specs.declared.geometry.PathGeometry.{PathGeometry}
use Rattle.maps.specs.declared.geometry.Place.{Place}
use Rattle.maps.specs.declared.geometry.Track.{Track}
use Rattle.maps.specs.Inputs.{pole_lat, pole_lon}
use Rattle.maps.specs.Geometry.{pole_place, gmlat_of, point_of, absent, control_point_if, control_row, rows_of, path_of, nowhere, lat_at, mean_latitude, alatd_of}
use Rattle.results.proofs.clock.Clock.{Longitude, typed_longitude}
use Rattle.results.proofs.path.PointRows.{pole_only, alatd_same}
use Rattle.results.proofs.path.Longitudes.{eight, angle, farther, Known, placed_known, D2R_sized, typed_latitude, nudged_latitude, cos_between_law, lon_sized, gcd_in, bearings, Tracked, abs_sized, latitude_sized, sample_known, zero_sized, zero_longitude, distance_sized, whole_sized, Typed, transmitter, receiver, tracked}

-- ---- a control point
-- each of its four numbers has a bound
pub record Located (pt : ControlPoint) : Type 0 where
  pub rd : Sized angle pt.rd.0
  pub lat : Sized angle pt.lat.0
  pub lon : Longitude pt.lon.0
  pub gmlat : Sized angle pt.gmlat.0

gmlat_sized : (p at : Place) → Known p → Known at → Sized angle (gmlat_of p at)
unfolding gmlat_of
gmlat_sized p at h k =
    let d : Sized angle (at.lon ⊖ p.lon) = unfold add le in less_sized angle tt (lon_sized k.lon) (lon_sized h.lon) in
    latitude_sized _ (sized_number (cos_between_law p at (at.lon ⊖ p.lon) h k d))

row_located : (t : Track) (p : Place) (drf : Float) (present : Bool) → Tracked t → Known p → Sized angle drf → Located (control_point_if t p drf present)
unfolding control_point_if point_of absent
row_located t p drf true k h s =
    let at = sample_known t k drf s in
    record { rd = s; lat = at.lat; lon = at.lon; gmlat = gmlat_sized p _ h at }
row_located t p drf false k h s = record { rd = zero_sized; lat = zero_sized; lon = zero_longitude; gmlat = zero_sized }

rows_located : (t : Track) (p : Place) (gcd : Float) (n : ℕ) → Tracked t → Known p → Between (decimal 1 6) farther gcd → (i : ℕ) → i < 5 → Located (get_or (rows_of t p gcd n) i nowhere)
unfolding rows_of control_row
rows_located t p gcd n k h b zero l = row_located t p _ _ k h (distance_sized gcd b n 0 l)
rows_located t p gcd n k h b (suc zero) l = row_located t p _ _ k h (distance_sized gcd b n 1 l)
rows_located t p gcd n k h b (suc (suc zero)) l = row_located t p _ _ k h (distance_sized gcd b n 2 l)
rows_located t p gcd n k h b (suc (suc (suc zero))) l = row_located t p _ _ k h (distance_sized gcd b n 3 l)
rows_located t p gcd n k h b (suc (suc (suc (suc zero)))) l = row_located t p _ _ k h (distance_sized gcd b n 4 l)
rows_located t p gcd n k h b (suc (suc (suc (suc (suc i))))) l = absurd (omega arith)

-- ---- the figures
-- what they are at most
abbrev far : Float
far = fin false 1 (pos 16)

constants_sized : Sized (fin false 1 (pos 13)) RZ × Sized (fin false 1 (pos 6)) R2D
unfolding RZ R2D decimal round abs_of negative le
constants_sized = (record { size = tt }, record { size = tt })

km_sized : (gcd : Float) → Sized eight gcd → Sized far (gcd ⊗ RZ)
unfolding mul le
km_sized gcd h = times_sized far tt h constants_sized.0

third_sized : (x : Float) → Sized (fin false 1 (pos 7)) x → Sized (fin false 1 (pos 6)) (x ⊘ decimal 30 1)
unfolding decimal round abs_of negative div le
third_sized x h = record { size = trans_le (abs_of (x ⊘ decimal 30 1)) (fin false 1 (pos 7) ⊘ decimal 30 1) (fin false 1 (pos 6)) (div_size binary32 x (decimal 30 1) (fin false 1 (pos 7)) (decimal 30 1) tt tt h.size tt) tt }

mean_sized : (n : ℕ) (a b c : Float) → Sized angle a → Sized angle b → Sized angle c → Sized (fin false 1 (pos 6)) (mean_latitude n a b c)
unfolding mean_latitude
mean_sized n a b c p q s = go (eqb n 1)
  where
    go : (d : Bool) → Sized (fin false 1 (pos 6)) (cond d (abs_of a) (abs_of ((a ⊕ b ⊕ c) ⊘ decimal 30 1)))
    go true = unfold le in larger (fin false 1 (pos 6)) tt (abs_sized a p)
    go false = abs_sized ((a ⊕ b ⊕ c) ⊘ decimal 30 1) (third_sized (a ⊕ b ⊕ c) (unfold add le in plus_sized (fin false 1 (pos 7)) tt (plus_sized (fin false 1 (pos 6)) tt p q) s))

degrees_sized : (x : Float) → Sized (fin false 1 (pos 6)) x → Sized far (x ⊗ R2D)
unfolding mul le
degrees_sized x h = times_sized far tt h constants_sized.1

-- ---- the path
pub record FinitePoint (pt : ControlPoint) : Type 0 where
  pub rd : T (finite pt.rd.0)
  pub lat : T (finite pt.lat.0)
  pub lon : T (finite pt.lon.0)
  pub gmlat : T (finite pt.gmlat.0)

-- the six figures
pub record FiniteHead (g : PathGeometry) : Type 0 where
  pub gcd : T (finite g.gcd.0)
  pub gcd_km : T (finite g.gcd_km)
  pub btr : T (finite g.btr.0)
  pub brt : T (finite g.brt.0)
  pub rlatd : T (finite g.rlatd.0)
  pub alatd : T (finite (alatd_of g).0)

located_finite : (pt : ControlPoint) → Located pt → FinitePoint pt
located_finite pt h = record { rd = sized_finite tt h.rd; lat = sized_finite tt h.lat; lon = sized_finite tt (lon_sized h.lon); gmlat = sized_finite tt h.gmlat }

alatd_finite : (g : PathGeometry) → ((i : ℕ) → i < 5 → Located (get_or g.points i nowhere)) → T (finite (alatd_of g).0)
unfolding alatd_of degrees_of lat_at
alatd_finite g h = sized_finite tt (degrees_sized _ (mean_sized _ _ _ _ (h 0 (lit< tt)).lat (h 1 (lit< tt)).lat (h 2 (lit< tt)).lat))

pole_known : (pole : MagneticPole) → Typed pole.lat pole.lon → Known (pole_place pole)
unfolding pole_place
pole_known pole a = placed_known _ _ (unfold radians_of decimal round mul le in times_sized angle tt (typed_latitude a.latitude) D2R_sized) (typed_longitude pole.lon a.longitude)

module _ (tlat tlong rlat rlong : Degrees) (a : Typed tlat tlong) (b : Typed rlat rlong) (long : Bool) (pole : MagneticPole) (c : Typed pole.lat pole.lon) where
  pub points_located : (i : ℕ) → i < 5 → Located (get_or (path_of tlat tlong rlat rlong long pole).points i nowhere)
  unfolding path_of
  points_located i h = rows_located _ _ _ _ (tracked tlat tlong rlat rlong a b long pole) (pole_known pole c) (gcd_in _ _ (transmitter tlat tlong rlat rlong a b long pole) (receiver tlat tlong rlat rlong a b long pole) long) i h

  pub points_finite : (i : ℕ) → i < 5 → FinitePoint (get_or (path_of tlat tlong rlat rlong long pole).points i nowhere)
  points_finite i h = located_finite _ (points_located i h)

  head_in_range : FiniteHead (path_of tlat tlong rlat rlong long pole)
  head_in_range =
      let t = transmitter tlat tlong rlat rlong a b long pole in
      let u = receiver tlat tlong rlat rlong a b long pole in
      let g = whole_sized _ (gcd_in _ _ t u long) in
      let w = bearings _ _ t u long in
      record {
        gcd = unfold path_of in sized_finite tt g;
        gcd_km = unfold path_of in sized_finite tt (km_sized _ g);
        btr = unfold path_of in sized_finite tt w.0;
        brt = unfold path_of in sized_finite tt w.1;
        rlatd = unfold path_of in sized_finite tt (nudged_latitude tlat tlong rlat rlong (typed_latitude a.latitude) (typed_latitude b.latitude));
        alatd = alatd_finite _ points_located;
      }

-- ---- whatever the pole, which enters nothing but the geomagnetic latitudes: the built-in one is
-- in
-- range
abbrev built_in : MagneticPole
built_in = record { lat = record { 0 = pole_lat }; lon = record { 0 = pole_lon } }

built_in_law : Typed built_in.lat built_in.lon
unfolding pole_lat pole_lon decimal minus_decimal round le
built_in_law = record { latitude = record { low = tt; high = tt }; longitude = record { low = tt; high = tt } }

module _ (tlat tlong rlat rlong : Degrees) (a : Typed tlat tlong) (b : Typed rlat rlong) (long : Bool) (pole : MagneticPole) where
  pub path_finite : FiniteHead (path_of tlat tlong rlat rlong long pole)
  path_finite =
      let s = pole_only tlat tlong rlat rlong long built_in pole in
      let p = head_in_range tlat tlong rlat rlong a b long built_in built_in_law in
      record {
        gcd = subst (λ (x : Radians). T (finite x.0)) s.gcd p.gcd;
        gcd_km = subst (λ (x : Float). T (finite x)) s.gcd_km p.gcd_km;
        btr = subst (λ (x : Radians). T (finite x.0)) s.btr p.btr;
        brt = subst (λ (x : Radians). T (finite x.0)) s.brt p.brt;
        rlatd = subst (λ (x : Degrees). T (finite x.0)) s.rlatd p.rlatd;
        alatd = subst (λ (x : Degrees). T (finite x.0)) (alatd_same _ _ s) p.alatd;
      }

  pub latitude_there : (i : ℕ) → i < 5 → Sized angle (get_or (path_of tlat tlong rlat rlong long pole).points i nowhere).lat.0
  latitude_there i h =
      subst (λ (x : Radians). Sized angle x.0) ((pole_only tlat tlong rlat rlong long built_in pole).points i).lat
      (points_located tlat tlong rlat rlong a b long built_in built_in_law i h).lat
