-- The rows of a path: five, +0.0 past the count, and the pole in no field but `gmlat`. Each is read
-- off the row's definition by whether the row is there. Assumes nothing.
use Rattle.std.proofs.Common.{◌≡◌, refl, sym, ap, subst, ◌∙◌, Bool, true, false, cond, [], ◌∷◌, ℕ, zero, suc, ◌≤◌, ◌<◌, lt_of_lt_of_le, arith, lt-ltb, le-ltb, get_or, Float}
use lib.Ieee.{nan, lt}
use Rattle.base.specs.declared.angle.Degrees.{Degrees}
use Rattle.base.specs.declared.angle.Radians.{Radians}
use Rattle.maps.specs.declared.inputs.Inputs.{Inputs}
use Rattle.maps.specs.declared.inputs.MagneticPole.{MagneticPole}
use Rattle.maps.specs.declared.inputs.Route.{Route}
use Rattle.base.specs.Single.{◌⊖◌, decimal}
use Rattle.base.specs.Angle.{degrees_of}
use Rattle.base.proofs.verdicts.Picks.{cond_true, cond_false}
use Rattle.maps.specs.declared.geometry.ControlPoint.{ControlPoint}
use Rattle.maps.specs.declared.geometry.PathGeometry.{PathGeometry}
use Rattle.maps.specs.declared.geometry.Place.{Place}
use Rattle.maps.specs.declared.geometry.Track.{Track}
use Rattle.maps.specs.Geometry.{EPSLON, place_of, down_meridian, on_circle, sample_of, pole_place, gmlat_of, geomagnetic_of, point_of, absent, control_point_if, control_row, rows_of, distances_of, path_of, nowhere, lat_at, mean_latitude, alatd_of}
use Rattle.maps.specs.Inputs.{is_long}
use Rattle.maps.specs.Figures.{head_of, sheet_path}
use Rattle.results.specs.SamePaths.{SamePlace, SamePath}
use Rattle.results.proofs.path.PointCounts.{CountRule, one, three, five, count_rule}

-- ---- five rows, by number
row_at : (t : Track) (p : Place) (gcd : Float) (n i : ℕ) → i < 5 → get_or (rows_of t p gcd n) i nowhere ≡ control_row t p gcd n i
unfolding rows_of
row_at t p gcd n zero h = refl
row_at t p gcd n (suc zero) h = refl
row_at t p gcd n (suc (suc zero)) h = refl
row_at t p gcd n (suc (suc (suc zero))) h = refl
row_at t p gcd n (suc (suc (suc (suc zero)))) h = refl
row_at t p gcd n (suc (suc (suc (suc (suc i))))) h = absurd (omega arith)

row_absent : (t : Track) (p : Place) (gcd : Float) (n i : ℕ) → n ≤ i → control_row t p gcd n i ≡ absent
unfolding control_row control_point_if
row_absent t p gcd n i h = cond_false _ _ (le-ltb i n h)

row_there : (t : Track) (p : Place) (gcd : Float) (n i : ℕ) → i < n → control_row t p gcd n i ≡ point_of t p (get_or (distances_of gcd n) i nan)
unfolding control_row control_point_if
row_there t p gcd n i h = cond_true _ _ (lt-ltb i n h)

at_most_five : (km : Float) (n : ℕ) → CountRule km n → n ≤ 5
at_most_five km n (one p) = omega arith
at_most_five km n (three p q) = omega arith
at_most_five km n (five p q) = omega arith

-- ---- a sample area's sine and cosine are those of its latitude
abbrev Placed : Place → Type 0
Placed p = p ≡ place_of p.lat p.lon

placed : (lat lon : Float) → Placed (place_of lat lon)
unfolding place_of
placed lat lon = refl

circle_placed : (t : Track) (d : Float) → Placed (on_circle t d)
unfolding on_circle
circle_placed t d = placed _ _

either_placed : (b : Bool) (p q : Place) → Placed p → Placed q → Placed (cond b p q)
either_placed true p q h k = h
either_placed false p q h k = k

sample_placed : (t : Track) (d : Float) → Placed (sample_of t d)
unfolding sample_of
sample_placed t d =
    either_placed (lt (t.tx.cos ⊖ EPSLON) (decimal 0 1)) (place_of (down_meridian t.tx.lat d) t.rlong) (on_circle t d) (placed _ _) (circle_placed t d)

point_gmlat : (t : Track) (pole : MagneticPole) (d : Float) → (point_of t (pole_place pole) d).gmlat ≡ geomagnetic_of pole (point_of t (pole_place pole) d).lat (point_of t (pole_place pole) d).lon
unfolding point_of geomagnetic_of
point_gmlat t pole d = ap (λ (at : Place). record { 0 = gmlat_of (pole_place pole) at }) (sample_placed t d)

-- ---- the rows of a path
module _ (tlat tlong rlat rlong : Degrees) (long : Bool) (pole : MagneticPole) where
  -- document 01, Figures: 'Rows of absent points are +0.0'
  pub rows_past : (i : ℕ) → i < 5 → (path_of tlat tlong rlat rlong long pole).count ≤ i → get_or (path_of tlat tlong rlat rlong long pole).points i nowhere ≡ absent
  unfolding path_of
  rows_past i h k = row_at _ _ _ _ i h ∙ row_absent _ _ _ _ i k

  pub most : (path_of tlat tlong rlat rlong long pole).count ≤ 5
  unfolding path_of
  most = at_most_five _ _ (count_rule _)

  -- the geomagnetic latitude of a row that is there is what `geomagnetic_latitude` gives at the
  -- row's place
  pub row_gmlat : (i : ℕ) → i < (path_of tlat tlong rlat rlong long pole).count → let p = get_or (path_of tlat tlong rlat rlong long pole).points i nowhere in p.gmlat ≡ geomagnetic_of pole p.lat p.lon
  unfolding path_of
  row_gmlat i h =
      subst (λ (p : ControlPoint). p.gmlat ≡ geomagnetic_of pole p.lat p.lon)
      (sym (row_at _ _ _ _ i (lt_of_lt_of_le h most) ∙ row_there _ _ _ _ i h))
      (point_gmlat _ pole _)

-- ---- the pole enters `gmlat` only
row_same : (t : Track) (p q : Place) (d : Float) (b : Bool) → SamePlace (control_point_if t p d b) (control_point_if t q d b)
unfolding control_point_if point_of
row_same t p q d true = record { rd = refl; lat = refl; lon = refl }
row_same t p q d false = record { rd = refl; lat = refl; lon = refl }

rows_same : (t : Track) (p q : Place) (gcd : Float) (n i : ℕ) → SamePlace (get_or (rows_of t p gcd n) i nowhere) (get_or (rows_of t q gcd n) i nowhere)
unfolding rows_of control_row
rows_same t p q gcd n zero = row_same t p q _ _
rows_same t p q gcd n (suc zero) = row_same t p q _ _
rows_same t p q gcd n (suc (suc zero)) = row_same t p q _ _
rows_same t p q gcd n (suc (suc (suc zero))) = row_same t p q _ _
rows_same t p q gcd n (suc (suc (suc (suc zero)))) = row_same t p q _ _
rows_same t p q gcd n (suc (suc (suc (suc (suc i))))) = record { rd = refl; lat = refl; lon = refl }

pub pole_only : (tlat tlong rlat rlong : Degrees) (long : Bool) (p q : MagneticPole) → SamePath (path_of tlat tlong rlat rlong long p) (path_of tlat tlong rlat rlong long q)
unfolding path_of
pole_only tlat tlong rlat rlong long p q =
    record { gcd = refl; gcd_km = refl; btr = refl; brt = refl; rlatd = refl; count = refl; points = rows_same _ (pole_place p) (pole_place q) _ _ }

-- so `alatd` is the same too
lat_same : (g h : PathGeometry) → SamePath g h → (i : ℕ) → lat_at g i ≡ lat_at h i
unfolding lat_at
lat_same g h s i = ap (λ (a : Radians). a.0) (s.points i).lat

mean_same : (g h : PathGeometry) → SamePath g h → mean_latitude g.count (lat_at g 0) (lat_at g 1) (lat_at g 2) ≡ mean_latitude h.count (lat_at h 0) (lat_at h 1) (lat_at h 2)
mean_same g h s = cc (s.count, lat_same g h s 0, lat_same g h s 1, lat_same g h s 2)

pub alatd_same : (g h : PathGeometry) → SamePath g h → alatd_of g ≡ alatd_of h
unfolding alatd_of
alatd_same g h s = ap (λ (a : Float). degrees_of (record { 0 = a })) (mean_same g h s)

-- and the six figures of a path with them, which take the route only
head_same : (g h : PathGeometry) → SamePath g h → head_of g ≡ head_of h
unfolding head_of
head_same g h s =
    let a = alatd_same g h s in
    λ t. (s.gcd t).0 ∷ s.gcd_km t ∷ (s.btr t).0 ∷ (s.brt t).0 ∷ (s.rlatd t).0 ∷ (a t).0 ∷ []

pub same_head : (i j : Inputs) → i.route ≡ j.route → head_of (sheet_path i) ≡ head_of (sheet_path j)
unfolding sheet_path
same_head i j same =
    ap (λ (r : Route). head_of (path_of r.tlat r.tlong r.rlat r.rlong (is_long r.long_path) i.pole)) same
    ∙ head_same _ _
    (pole_only j.route.tlat j.route.tlong j.route.rlat j.route.rlong (is_long j.route.long_path) i.pole j.pole)
