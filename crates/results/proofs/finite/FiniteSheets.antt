-- Which figures of a sheet in range are finite, by their places among the 151: those of the path,
-- of each point and of the field there, and the ground, of any files; Es beside bounded words of
-- the files; all 29 numbers of a point besides where it is ordinary. What the laws of a point ask
-- (`Placed`) every control point of such a route has. Assumes nothing.
use Rattle.std.proofs.Common.{◌≡◌, refl, sym, subst, Bool, false, List, [], ◌∷◌, ℕ, zero, suc, ◌+◌, ◌-◌, ◌≤◌, ◌<◌, le_of_suc-le-suc, not-suc-le-zero, arith, T, leb, leb→le, pos, negsuc, length, get_or, Float}
use lib.Ieee.{nan, fin, round, lt, le}
use lib.Ieee.Scale.{finite}
use lib.Ieee.Fits.{and_l, and_r}
use Rattle.base.specs.declared.angle.Degrees.{Degrees}
use Rattle.base.specs.Single.{decimal, minus_decimal}
use Rattle.base.specs.Double.{fraction}
use Rattle.base.specs.Number.{abs_of}
use Rattle.base.specs.Ranges.{is_to, is_month}
use Rattle.base.proofs.order.Order.{finite_between}
use Rattle.base.proofs.order.Monotone.{abs_finite}
use Rattle.results.specs.FiniteOrNot.{
  UpToPower,
  PlaceInRange,
  EndsInRange,
  RouteInRange,
  HourInRange,
  FieldsInRange,
  SoundSheet,
  PointThere,
  point_number,
  sheet_point,
  sheet_field,
  sheet_maps,
  sheet_layers,
  sheet_es,
  sheet_ground,
  sheet_row,
  sheet_cosine,
  MapsBounded,
  CosineClear,
  LayerFigures,
  Ordinary,
}
use Rattle.results.proofs.numbers.Sizes.{Sized, range_between, between_range, larger}
use Rattle.results.proofs.clock.Clock.{Hour, Longitude}
use Rattle.maps.specs.declared.inputs.Inputs.{Inputs}
use Rattle.maps.specs.declared.geometry.PathGeometry.{PathGeometry}
use Rattle.maps.specs.Inputs.{is_long}
use Rattle.maps.specs.Layers.{monthly_of}
use Rattle.maps.specs.Figures.{SheetHour, hour_from, hour_of, head_of, numbers_of, point_row, sheet_path, figures_of}
use Rattle.results.proofs.path.Longitudes.{Typed, point_longitude}
use Rattle.results.proofs.path.PointRows.{most}
use Rattle.results.proofs.finite.FinitePath.{FinitePoint, FiniteHead, points_located, points_finite, path_finite, latitude_there}
use Rattle.results.proofs.finite.FiniteField.{FiniteMagnetic, gyrofrequency_sized}
use Rattle.results.proofs.finite.MagneticFinite.{gmdip_sized, points_magnetic}
use Rattle.results.proofs.finite.FiniteLayers.{
  Fields,
  Placed,
  EsFinite,
  cosine_of,
  ground_finite,
  e_height,
  zenang_range as zenang-range-at,
  beyond_none as beyond-none-at,
  none_beyond as none-beyond-at,
}
use Rattle.results.proofs.finite.FiniteFigures.{point_mapped as mapped_at, point_es, point_layers}
use Rattle.results.proofs.sheet.FigurePlaces.{head_at, present_at}

-- ---- ranges as tests

typed : (latd lond : Degrees) → PlaceInRange latd lond → Typed latd lond
unfolding decimal minus_decimal round
typed latd lond h = record {
  latitude = range_between (minus_decimal 90 0) (decimal 90 0) latd.0 h.latitude;
  longitude = range_between (minus_decimal 180 0) (decimal 180 0) lond.0 h.longitude;
}

hour_in : (i : Inputs) → HourInRange i → Hour i.gmt
unfolding decimal round
hour_in i h = range_between (decimal 0 1) (decimal 24 0) i.gmt h

fields_in : (i : Inputs) → FieldsInRange i → Fields i.ssn i.gmt i.psc
unfolding decimal round
fields_in i h = record {
  hour = hour_in i h.hour;
  sunspots = range_between (decimal 0 1) (decimal 300 0) i.ssn h.sunspots;
  e = range_between (decimal 125 3) (decimal 8 0) i.psc.e h.e;
  f1 = range_between (decimal 125 3) (decimal 8 0) i.psc.f1 h.f1;
  f2 = range_between (decimal 125 3) (decimal 8 0) i.psc.f2 h.f2;
  es = range_between (decimal 125 3) (decimal 8 0) i.psc.es h.es;
}

up_to_finite : (n : ℕ) (x : Float) → UpToPower n x → T (finite x)
up_to_finite n x h = abs_finite x (fin false 1 (pos n)) tt h

pub ranged_finite : (lo hi x : Float) → T (finite lo) → T (finite hi) → T (is_to lo hi x) → T (finite x)
ranged_finite lo hi x a b t = finite_between lo x hi a b (and_l (le lo x) (le x hi) t) (and_r (le lo x) (le x hi) t)

-- ---- lists of finite numbers
infixr 50 ◌and◌
data Finite : List Float → Type 0 where
  none : Finite []
  ◌and◌ : {x : Float} {xs : List Float} → T (finite x) → Finite xs → Finite (x ∷ xs)

finite_at : (l : List Float) → Finite l → (k : ℕ) → k < length l → T (finite (get_or l k nan))
finite_at [] h k b = absurd (not-suc-le-zero b)
finite_at (x ∷ xs) (p and ps) zero b = p
finite_at (x ∷ xs) (p and ps) (suc k) b = finite_at xs ps k (le_of_suc-le-suc b)

six_finite : (g : PathGeometry) → FiniteHead g → Finite (head_of g)
unfolding head_of
six_finite g p = p.gcd and p.gcd_km and p.btr and p.brt and p.rlatd and p.alatd and none

abbrev long_way : Inputs → Bool
long_way i = is_long i.route.long_path

at_most : (i : Inputs) (p : ℕ) → PointThere i p → p - 1 < 5
unfolding sheet_path
at_most i p t =
    let a = t.first in
    let b = t.last in
    let m = most i.route.tlat i.route.tlong i.route.rlat i.route.rlong (long_way i) i.pole in
    omega arith

module _ (i : Inputs) (r : EndsInRange i) where
  tx : Typed i.route.tlat i.route.tlong
  tx = typed _ _ r.transmitter

  rx : Typed i.route.rlat i.route.rlong
  rx = typed _ _ r.receiver

  -- NO NaN ON THE PATH: its six figures, of any files
  pub sheet_path_finite : (f2 file : List ℕ) (k : ℕ) → k < 6 → T (finite (get_or (figures_of f2 file i) k nan))
  unfolding sheet_path head_of
  sheet_path_finite f2 file k b =
      subst (λ (x : Float). T (finite x)) (sym (head_at f2 file i k b))
      (finite_at (head_of (sheet_path i))
      (six_finite (sheet_path i) (path_finite _ _ _ _ tx rx (long_way i) i.pole))
      k b)

  module _ (p : ℕ) (t : PointThere i p) where
    lat_there : Sized (fin false 1 (pos 5)) (sheet_point i p).lat.0
    unfolding sheet_path
    lat_there = latitude_there _ _ _ _ tx rx (long_way i) i.pole (p - 1) (at_most i p t)

    lon_there : Longitude (sheet_point i p).lon.0
    unfolding sheet_path
    lon_there = point_longitude _ _ _ _ tx rx (long_way i) i.pole (p - 1) (at_most i p t)

module _ (i : Inputs) (r : RouteInRange i) where
  pole_in : Typed i.pole.lat i.pole.lon
  pole_in = typed _ _ r.pole

  module _ (p : ℕ) (t : PointThere i p) where
    point_finite : FinitePoint (sheet_point i p)
    unfolding sheet_path
    point_finite = points_finite _ _ _ _ (tx i r.ends) (rx i r.ends) (long_way i) i.pole pole_in (p - 1) (at_most i p t)

    field_finite : FiniteMagnetic (sheet_field i p)
    unfolding sheet_path
    field_finite = points_magnetic _ _ _ _ (tx i r.ends) (rx i r.ends) (long_way i) i.pole pole_in (p - 1) (at_most i p t)

    -- what `FiniteFigures` asks of a point
    point_placed : Placed (sheet_point i p) (sheet_field i p)
    unfolding sheet_path le
    point_placed =
        let w = points_located _ _ _ _ (tx i r.ends) (rx i r.ends) (long_way i) i.pole pole_in (p - 1) (at_most i p t) in
        record {
          lat = w.lat;
          lon = w.lon;
          gmlat = w.gmlat;
          gyz = gyrofrequency_sized _ _ w.lat w.lon;
          gmdip = larger (fin false 1 (pos 5)) tt (gmdip_sized _ _ w.lat w.lon);
        }

module _ (f2 file : List ℕ) (i : Inputs) (p : ℕ) where
  abbrev h : SheetHour
  h = hour_of f2 file i

  -- the names of a row in their places
  pub point_numbers_law : (k : ℕ) → PointThere i p → k < 29
      → point_number f2 file i p k ≡ get_or (sheet_row f2 file i p) k nan
  unfolding point_row
  point_numbers_law k t b = present_at f2 file i p k t.first t.last b

  -- the cosine of the layers is that of the month
  cosine_is : cosine_of (hour_of f2 file i).monthly i.gmt (sheet_point i p) ≡ sheet_cosine i p
  unfolding hour_of hour_from monthly_of
  cosine_is = refl

  constants :
      T (finite (get_or (sheet_layers f2 file i p).yi 0 nan)) × T (finite (get_or (sheet_layers f2 file i p).hi 0 nan))
  unfolding decimal round
  constants =
      let k =
      e_height h.monthly i.ssn i.gmt i.psc h.hmym (sheet_point i p) (sheet_field i p) (sheet_maps f2 file i p) in
      (subst (λ (x : Float). T (finite x)) (sym k.0) tt, subst (λ (x : Float). T (finite x)) (sym k.1) tt)

  row_finite :
      FinitePoint (sheet_point i p) → FiniteMagnetic (sheet_field i p) →
      LayerFigures (sheet_cosine i p) (sheet_layers f2 file i p) → Ordinary (sheet_cosine i p) (sheet_layers f2 file i p) →
      EsFinite (sheet_es f2 file i p) → Finite (point_row h i (sheet_point i p))
  unfolding point_row numbers_of decimal round
  row_finite a b c o d =
      let g = ground_finite h.monthly h.fakmap (sheet_point i p).lat (sheet_field i p).east_lon in
      a.rd
      and a.lat
      and a.lon
      and a.gmlat
      and b.gyz
      and b.gmdip
      and b.east_lon
      and ranged_finite (fin false 1 (negsuc 4)) (fin false 1 (pos 53)) _ tt tt c.fi0
      and up_to_finite 55 _ c.fi1
      and up_to_finite 54 _ c.fi2
      and constants.0
      and up_to_finite 126 _ (c.yi1 o.f2m3 o.f1)
      and up_to_finite 126 _ (c.yi2 o.cosine o.f2m3 o.f1)
      and constants.1
      and up_to_finite 126 _ (c.hi1 o.f2m3 o.f1)
      and up_to_finite 126 _ (c.hi2 o.f2m3 o.f1)
      and up_to_finite 50 _ c.f2m3
      and up_to_finite 71 _ (c.hpf2 o.f2m3)
      and ranged_finite (fin false 1 (pos 0)) (fin false 1 (pos 111)) _ tt tt (c.rat o.cosine)
      and up_to_finite 125 _ (c.abiy o.e)
      and c.clck
      and ranged_finite (decimal 0 1) (decimal 2300 1) _ tt tt (c.zenang o.cosine)
      and up_to_finite 27 _ c.zenmax
      and d.fs0
      and d.fs1
      and d.fs2
      and d.hs
      and g.0
      and g.1
      and none

  -- from 0 to 230 degrees, of any inputs and files
  pub zenang_range : CosineClear (sheet_cosine i p) → T (is_to (decimal 0 1) (decimal 2300 1) (sheet_layers f2 file i p).zenang.0)
  unfolding hour_of hour_from monthly_of
  zenang_range w =
      between_range (zenang-range-at h.monthly i.ssn i.gmt i.psc h.hmym (sheet_point i p) (sheet_field i p) (sheet_maps f2 file i p) w)

  module _ (t : PointThere i p) where
    -- the ground pair, of any inputs and files
    pub sheet_ground_finite : (k : ℕ) → k < 2 → T (finite (point_number f2 file i p (27 + k)))
    unfolding numbers_of
    sheet_ground_finite k b =
        subst (λ (x : Float). T (finite x)) (sym (point_numbers_law (27 + k) t (omega arith)))
        (two k b)
      where
        g : T (finite (sheet_ground f2 file i p).0) × T (finite (sheet_ground f2 file i p).1)
        g = ground_finite h.monthly h.fakmap (sheet_point i p).lat (sheet_field i p).east_lon

        two : (k : ℕ) → k < 2 → T (finite (get_or (sheet_row f2 file i p) (27 + k) nan))
        two zero h = g.0
        two (suc zero) h = g.1
        two (suc (suc k)) h = absurd (omega arith)

    -- NO NaN ON THE PATH: the seven numbers of each point that is there and of the field there, of
    -- any files
    pub sheet_point_finite : RouteInRange i → (k : ℕ) → k < 7 → T (finite (point_number f2 file i p k))
    unfolding numbers_of
    sheet_point_finite r k b =
        subst (λ (x : Float). T (finite x)) (sym (point_numbers_law k t (omega arith)))
        (seven k b)
      where
        a : FinitePoint (sheet_point i p)
        a = point_finite i r p t

        f : FiniteMagnetic (sheet_field i p)
        f = field_finite i r p t

        seven : (k : ℕ) → k < 7 → T (finite (get_or (sheet_row f2 file i p) k nan))
        seven zero h = a.rd
        seven (suc zero) h = a.lat
        seven (suc (suc zero)) h = a.lon
        seven (suc (suc (suc zero))) h = a.gmlat
        seven (suc (suc (suc (suc zero)))) h = f.gyz
        seven (suc (suc (suc (suc (suc zero))))) h = f.gmdip
        seven (suc (suc (suc (suc (suc (suc zero)))))) h = f.east_lon
        seven (suc (suc (suc (suc (suc (suc (suc k))))))) h = absurd (omega arith)

    -- NO ZENITH ANGLE exactly where the cosine came out beyond 1 in size, of any files
    module _ (r : EndsInRange i) (f : HourInRange i) (month : T (is_month i.month)) where
      months : (1 ≤ i.month) × (i.month ≤ 12)
      months =
          let a = leb 1 i.month in
          let b = leb i.month 12 in
          (leb→le 1 i.month (and_l a b month), leb→le i.month 12 (and_r a b month))

      pub beyond_none : T (lt (fraction 1 1) (abs_of (sheet_cosine i p))) → (sheet_layers f2 file i p).zenang.0 ≡ nan
      unfolding hour_of hour_from monthly_of
      beyond_none e =
          beyond-none-at file i.month i.ssn i.gmt i.psc h.hmym (sheet_point i p) (sheet_field i p)
          (sheet_maps f2 file i p) months.0 months.1 (hour_in i f) (lat_there i r p t) (lon_there i r p t) e

      pub none_beyond : (sheet_layers f2 file i p).zenang.0 ≡ nan → T (lt (fraction 1 1) (abs_of (sheet_cosine i p)))
      unfolding hour_of hour_from monthly_of
      none_beyond e =
          none-beyond-at file i.month i.ssn i.gmt i.psc h.hmym (sheet_point i p) (sheet_field i p)
          (sheet_maps f2 file i p) months.0 months.1 (hour_in i f) (lat_there i r p t) (lon_there i r p t) e

    -- ---- of a sound sheet
    module _ (s : SoundSheet f2 file i) where
      placed : Placed (sheet_point i p) (sheet_field i p)
      placed = point_placed i s.route p t

      fields : Fields i.ssn i.gmt i.psc
      fields = fields_in i s.fields

      pub point_mapped : MapsBounded (sheet_maps f2 file i p)
      point_mapped =
          let g = mapped_at f2 file i s.bounded s.index fields (sheet_point i p) placed in
          record {
            g1 = g.g1.size;
            g2 = g.g2.size;
            g3 = g.g3.size;
            g4 = g.g4.size;
            g5 = g.g5.size;
            g6 = g.g6.size;
          }

      es_finite : EsFinite (sheet_es f2 file i p)
      es_finite = point_es f2 file i s.bounded s.index fields (sheet_point i p) placed

      -- sporadic E
      pub sheet_es_finite : (k : ℕ) → k < 4 → T (finite (point_number f2 file i p (23 + k)))
      unfolding numbers_of
      sheet_es_finite k b =
          subst (λ (x : Float). T (finite x)) (sym (point_numbers_law (23 + k) t (omega arith)))
          (four k b)
        where
          four : (k : ℕ) → k < 4 → T (finite (get_or (sheet_row f2 file i p) (23 + k) nan))
          four zero h = es_finite.fs0
          four (suc zero) h = es_finite.fs1
          four (suc (suc zero)) h = es_finite.fs2
          four (suc (suc (suc zero))) h = es_finite.hs
          four (suc (suc (suc (suc k)))) h = absurd (omega arith)

      -- each figure of the layers
      pub sheet_layers_law : LayerFigures (sheet_cosine i p) (sheet_layers f2 file i p)
      sheet_layers_law =
          subst (λ (c : Float). LayerFigures c (sheet_layers f2 file i p)) cosine_is
          (point_layers f2 file i s.bounded s.index fields (sheet_point i p) placed)

      -- ALL 29 NUMBERS of an ordinary point
      pub sheet_finite :
          Ordinary (sheet_cosine i p) (sheet_layers f2 file i p) →
          (k : ℕ) → k < 29 → T (finite (point_number f2 file i p k))
      sheet_finite o k b =
          subst (λ (x : Float). T (finite x)) (sym (present_at f2 file i p k t.first t.last b))
          (finite_at (point_row h i (sheet_point i p))
          (row_finite (point_finite i s.route p t) (field_finite i s.route p t) sheet_layers_law o es_finite)
          k (unfold point_row numbers_of in b))
