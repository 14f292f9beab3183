-- geometry.rs, expression by expression in binary32, in its names: the length, the bearings and the
-- points of a path, with the Fortran's own PI, clamped arc cosines, least distance, nudged receiver
-- and pole cases. Angles are in radians but for `Degrees`. `tx.sin` stands for `tlat.sin()` and
-- `rx.cos` for `rlat.cos()`. Assumes nothing.
use Rattle.std.specs.Prelude.{ℕ, Bool, cond, ◌&&◌, List, [], ◌∷◌, get_or, ◌==◌, nat_lt, slice_index_or, Float}
use Rattle.std.specs.Float.{nan}
use Rattle.std.specs.Float.Ieee.{neg, lt, le}
use Rattle.base.specs.declared.angle.Degrees.{Degrees}
use Rattle.base.specs.declared.angle.Radians.{Radians}
use Rattle.maps.specs.declared.inputs.MagneticPole.{MagneticPole}
use Rattle.base.specs.Single.{◌⊕◌, ◌⊖◌, ◌⊗◌, ◌⊘◌, decimal}
use Rattle.base.specs.Number.{abs_of}
use Rattle.base.specs.Constants.{PI, PI2, PIO2, RZ}
use Rattle.base.specs.Angle.{radians_of, degrees_of}
use Rattle.base.specs.Elementary.{sin32_of, cos32_of, acos32_of}
use Rattle.maps.specs.declared.geometry.ControlPoint.{ControlPoint}
use Rattle.maps.specs.declared.geometry.PathGeometry.{PathGeometry}
use Rattle.maps.specs.declared.geometry.Place.{Place}
use Rattle.maps.specs.declared.geometry.Circle.{Circle}
use Rattle.maps.specs.declared.geometry.Track.{Track}

-- ---- constants

unfoldable pub EPSLON : Float
EPSLON = decimal 1 7

-- a receiver that is this near in both coordinates, in degrees, is moved off
unfoldable pub DDX : Float
DDX = decimal 3 2

-- ---- signs, clamps and turns

-- SIGN(a, b): if b >= 0.0 { a.abs() } else { -a.abs() }
unfoldable pub sign_of : Float → Float → Float
sign_of a b = cond (le (decimal 0 1) b) (abs_of a) (neg (abs_of a))

-- if q.abs() > 1.0 { q = sign(1.0, q) }
unfoldable pub clamped_cosine : Float → Float
clamped_cosine q = cond (lt (decimal 10 1) (abs_of q)) (sign_of (decimal 10 1) q) q

-- .. and q.acos()
unfoldable pub acos_clamped : Float → Float
acos_clamped q = acos32_of (clamped_cosine q)

-- PIO2 - q.acos()
unfoldable pub latitude_of : Float → Float
latitude_of q = PIO2 ⊖ acos_clamped q

-- x -= sign(PI2, x)
unfoldable pub turned_of : Float → Float
turned_of x = x ⊖ sign_of PI2 x

-- if x.abs() > PI { x -= sign(PI2, x) }
unfoldable pub folded_of : Float → Float
folded_of x = cond (lt PI (abs_of x)) (turned_of x) x

-- if other { x = PI2 - x }
unfoldable pub other_way : Bool → Float → Float
other_way other x = cond other (PI2 ⊖ x) x

-- cos - EPSLON <= 0.0
unfoldable pub polar : Float → Bool
polar cos = le (cos ⊖ EPSLON) (decimal 0 1)

-- ---- the ends

-- (a - b).abs() <= DDX
unfoldable pub close : Degrees → Degrees → Bool
close a b = le (abs_of (a.0 ⊖ b.0)) DDX

-- dd = if rlatd < 0.0 { -DDX } else { DDX }
unfoldable pub nudge_of : Degrees → Float
nudge_of rlatd = cond (lt rlatd.0 (decimal 0 1)) (neg DDX) DDX

-- `rlatd`: rlatd = tlatd - dd where the receiver sits on top of the transmitter
unfoldable pub nudged_of : Degrees → Degrees → Degrees → Degrees → Degrees
nudged_of tlatd tlongd rlatd rlongd =
    cond (close tlatd rlatd && close tlongd rlongd)
    (record { 0 = tlatd.0 ⊖ nudge_of rlatd })
    rlatd

-- a place, with the sine and the cosine of its latitude
unfoldable pub place_of : Float → Float → Place
place_of lat lon = record { lat = lat; lon = lon; sin = sin32_of lat; cos = cos32_of lat }

-- longd * D2R; if latd.abs() > 89.9 { long = 0.0 }
unfoldable pub end_longitude : Degrees → Degrees → Float
end_longitude latd longd = cond (lt (decimal 899 1) (abs_of latd.0)) (decimal 0 1) (radians_of longd).0

-- tlat and tlong, or rlat and rlong
unfoldable pub end_of : Degrees → Degrees → Place
end_of latd longd = place_of (radians_of latd).0 (end_longitude latd longd)

-- ---- distance and bearings

-- tlat.sin() * rlat.sin() + tlat.cos() * rlat.cos() * dlong.cos()
unfoldable pub cos_between : Place → Place → Float → Float
cos_between a b dlong = a.sin ⊗ b.sin ⊕ a.cos ⊗ b.cos ⊗ cos32_of dlong

-- `dlong`, folded once into half a turn and once more for the long way
unfoldable pub dlong_of : Float → Float → Bool → Float
dlong_of tlong rlong long = let dlong = folded_of (tlong ⊖ rlong) in cond long (turned_of dlong) dlong

-- if gcd < 0.000001 { gcd = 0.000001 }
unfoldable pub at_least_minimum : Float → Float
at_least_minimum gcd = cond (lt gcd (decimal 1 6)) (decimal 1 6) gcd

-- `gcd`: qcos.acos(), the least distance, and for the long way PI2 - gcd
unfoldable pub gcd_of : Place → Place → Float → Bool → Float
gcd_of tx rx dlong long =
    let qcos = cos_between tx rx dlong in
    other_way long (at_least_minimum (acos_clamped qcos))

-- a bearing before it is turned, from a pole north or south; for `brt` the ends change places
unfoldable pub from_north : Place → Place → Float → Float → Float
from_north tx rx gcdSin gcdCos =
    let q = (rx.sin ⊖ tx.sin ⊗ gcdCos) ⊘ (tx.cos ⊗ gcdSin) in
    cond (polar tx.cos) (cond (le tx.lat (decimal 0 1)) (decimal 0 1) PI) (acos_clamped q)

-- `dlong`, `gcd`, `btr` and `brt`
unfoldable pub circle_of : Place → Place → Bool → Circle
circle_of tx rx long =
    let dlong = dlong_of tx.lon rx.lon long in
    let gcd = gcd_of tx rx dlong long in
    record {
      dlong = dlong;
      gcd = gcd;
      btr = other_way (lt (decimal 0 1) dlong) (from_north tx rx (sin32_of gcd) (cos32_of gcd));
      brt = other_way (lt dlong (decimal 0 1)) (from_north rx tx (sin32_of gcd) (cos32_of gcd));
    }

-- ---- sample areas

-- document 01, Figures: '`gcd_km` <= 2000.01 (as f32) gives one point, <= 4000 three, else five'
unfoldable pub count_of : Float → ℕ
count_of gcdKm = cond (le gcdKm (decimal 200001 2)) 1 (cond (le gcdKm (decimal 40000 1)) 3 5)

-- 1000.0 / RZ
unfoldable pub R1 : Float
R1 = decimal 10000 1 ⊘ RZ

-- their distances `rd`, +0.0 past the last
unfoldable pub distances_of : Float → ℕ → List Float
distances_of gcd count =
    let half = gcd ⊘ decimal 20 1 in
    let r2 = R1 ⊕ R1 in
    cond (count == 1) (half ∷ decimal 0 1 ∷ decimal 0 1 ∷ decimal 0 1 ∷ decimal 0 1 ∷ [])
    (cond (count == 3) (R1 ∷ half ∷ (gcd ⊖ R1) ∷ decimal 0 1 ∷ decimal 0 1 ∷ [])
    (R1 ∷ r2 ∷ half ∷ (gcd ⊖ r2) ∷ (gcd ⊖ R1) ∷ []))

-- `rflt` of a transmitter near a pole: tlat - sign(drf, tlat); if rflt.abs() > PIO2 { rflt = PIO2 *
-- sign(1.0, rflt) }
unfoldable pub down_meridian : Float → Float → Float
down_meridian tlat drf =
    let rflt = tlat ⊖ sign_of drf tlat in
    cond (lt PIO2 (abs_of rflt)) (PIO2 ⊗ sign_of (decimal 10 1) rflt) rflt

-- `rflg` on the circle; the three last arguments are drf.cos(), rflt.sin() and rflt.cos()
unfoldable pub circle_longitude : Track → Float → Float → Float → Float → Float
circle_longitude track drf drfCos sin cos =
    let tx = track.tx in
    let q = (drfCos ⊖ sin ⊗ tx.sin) ⊘ (cos ⊗ tx.cos) in
    cond (polar cos) tx.lon
    (folded_of (tx.lon ⊖ sign_of (other_way (le PI drf) (acos_clamped q)) track.dlong))

-- (rflt, rflg) on the circle
unfoldable pub on_circle : Track → Float → Place
on_circle track drf =
    let tx = track.tx in
    let rflt = latitude_of (cos32_of drf ⊗ tx.sin ⊕ sin32_of drf ⊗ tx.cos ⊗ track.btr_cos) in
    place_of rflt (circle_longitude track drf (cos32_of drf) (sin32_of rflt) (cos32_of rflt))

-- (rflt, rflg): straight down the meridian of a transmitter near a pole, else on the circle
unfoldable pub sample_of : Track → Float → Place
sample_of track drf =
    let tx = track.tx in
    cond (lt (tx.cos ⊖ EPSLON) (decimal 0 1))
    (place_of (down_meridian tx.lat drf) track.rlong)
    (on_circle track drf)

-- ---- geomagnetic latitude

-- glt and glg
unfoldable pub pole_place : MagneticPole → Place
pole_place pole = place_of (radians_of pole.lat).0 (radians_of pole.lon).0

-- q is glt.sin() * lat.sin() + glt.cos() * lat.cos() * (lon - glg).cos()
unfoldable pub gmlat_of : Place → Place → Float
gmlat_of pole at = latitude_of (cos_between pole at (at.lon ⊖ pole.lon))

-- `geomagnetic_latitude`
unfoldable pub geomagnetic_of : MagneticPole → Radians → Radians → Radians
geomagnetic_of pole lat lon = record { 0 = gmlat_of (pole_place pole) (place_of lat.0 lon.0) }

-- ---- the rows

-- rd: drf, lat: rflt, lon: rflg, gmlat
unfoldable pub point_of : Track → Place → Float → ControlPoint
point_of track pole drf =
    let at = sample_of track drf in
    record {
      rd = record { 0 = drf };
      lat = record { 0 = at.lat };
      lon = record { 0 = at.lon };
      gmlat = record { 0 = gmlat_of pole at };
    }

-- +0.0 in every field
unfoldable pub absent : ControlPoint
absent =
    record {
      rd = record { 0 = decimal 0 1 };
      lat = record { 0 = decimal 0 1 };
      lon = record { 0 = decimal 0 1 };
      gmlat = record { 0 = decimal 0 1 };
    }

-- a point, or +0.0 where it is absent
unfoldable pub control_point_if : Track → Place → Float → Bool → ControlPoint
control_point_if track pole drf present = cond present (point_of track pole drf) absent

-- row i of a path of `count` points
unfoldable pub control_row : Track → Place → Float → ℕ → ℕ → ControlPoint
control_row track pole gcd count i = control_point_if track pole (slice_index_or (distances_of gcd count) i nan) (nat_lt i count)

unfoldable pub rows_of : Track → Place → Float → ℕ → List ControlPoint
rows_of track pole gcd count =
    control_row track pole gcd count 0
    ∷ control_row track pole gcd count 1
    ∷ control_row track pole gcd count 2
    ∷ control_row track pole gcd count 3
    ∷ control_row track pole gcd count 4
    ∷ []

-- ---- the whole path

-- what every sample area is found from; the cosine is btr.cos()
unfoldable pub track_of : Place → Place → Bool → Track
track_of tx rx long =
    let c = circle_of tx rx long in
    record { tx = tx; rlong = rx.lon; dlong = c.dlong; btr_cos = cos32_of c.btr }

-- `path_geometry`
unfoldable pub path_of : Degrees → Degrees → Degrees → Degrees → Bool → MagneticPole → PathGeometry
path_of tlatd tlongd rlat rlongd long pole =
    let rlatd = nudged_of tlatd tlongd rlat rlongd in
    let tx = end_of tlatd tlongd in
    let rx = end_of rlatd rlongd in
    let c = circle_of tx rx long in
    let gcdKm = c.gcd ⊗ RZ in
    record {
      gcd = record { 0 = c.gcd };
      gcd_km = gcdKm;
      btr = record { 0 = c.btr };
      brt = record { 0 = c.brt };
      rlatd = rlatd;
      count = count_of gcdKm;
      points = rows_of (track_of tx rx long) (pole_place pole) c.gcd (count_of gcdKm);
    }

-- ---- what is read off a path

-- what `get_or` gives past the end of `points`; there are always five
abbrev pub nowhere : ControlPoint
nowhere =
    record {
      rd = record { 0 = nan };
      lat = record { 0 = nan };
      lon = record { 0 = nan };
      gmlat = record { 0 = nan };
    }

-- points[i].lat
unfoldable pub lat_at : PathGeometry → ℕ → Float
lat_at g i = (get_or g.points i nowhere).lat.0

-- points[0].lat.abs() where points.len() == 1, else ((points[0].lat + points[1].lat +
-- points[2].lat) / 3.0).abs()
unfoldable pub mean_latitude : ℕ → Float → Float → Float → Float
mean_latitude count lat1 lat2 lat3 = cond (count == 1) (abs_of lat1) (abs_of ((lat1 ⊕ lat2 ⊕ lat3) ⊘ decimal 30 1))

-- `alatd`: .. * R2D
unfoldable pub alatd_of : PathGeometry → Degrees
alatd_of g = degrees_of (record { 0 = mean_latitude g.count (lat_at g 0) (lat_at g 1) (lat_at g 2) })

-- `btr_deg` and `brt_deg`
unfoldable pub btr_deg : PathGeometry → Degrees
btr_deg g = degrees_of g.btr

unfoldable pub brt_deg : PathGeometry → Degrees
brt_deg g = degrees_of g.brt
