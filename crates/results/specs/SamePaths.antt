-- What two paths, two ends and two poles have in common. Assumes nothing.
use Rattle.std.specs.Prelude.{◌≡◌, Bool, ℕ, get_or}
use Rattle.std.specs.Float.Ieee.{lt}
use Rattle.base.specs.declared.angle.Degrees.{Degrees}
use Rattle.base.specs.Single.{decimal}
use Rattle.base.specs.Number.{abs_of}
use Rattle.base.specs.Angle.{radians_of}
use Rattle.maps.specs.declared.inputs.MagneticPole.{MagneticPole}
use Rattle.maps.specs.declared.geometry.ControlPoint.{ControlPoint}
use Rattle.maps.specs.declared.geometry.PathGeometry.{PathGeometry}
use Rattle.maps.specs.Geometry.{nowhere}

-- ---- paths that differ in no field but `gmlat`

-- of a control point all but the geomagnetic latitude
pub record SamePlace (a b : ControlPoint) : Type 0 where
  pub rd : a.rd ≡ b.rd
  pub lat : a.lat ≡ b.lat
  pub lon : a.lon ≡ b.lon

-- of a path its five own figures, the count, and every point so
pub record SamePath (g h : PathGeometry) : Type 0 where
  pub gcd : g.gcd ≡ h.gcd
  pub gcd_km : g.gcd_km ≡ h.gcd_km
  pub btr : g.btr ≡ h.btr
  pub brt : g.brt ≡ h.brt
  pub rlatd : g.rlatd ≡ h.rlatd
  pub count : g.count ≡ h.count
  pub points : (i : ℕ) → SamePlace (get_or g.points i nowhere) (get_or h.points i nowhere)

-- ---- ends and poles that are typed otherwise and worked alike

-- |latd| > 89.9, as it is asked of degrees as typed
abbrev pub near_pole : Degrees → Bool
near_pole latd = lt (decimal 899 1) (abs_of latd.0)

-- two ends that are the same in radians and in that test
pub record SameEnd (latd longd latd' longd' : Degrees) : Type 0 where
  pub lat : radians_of latd ≡ radians_of latd'
  pub lon : radians_of longd ≡ radians_of longd'
  pub polar : near_pole latd ≡ near_pole latd'

-- two poles that are the same in radians
pub record SamePole (p q : MagneticPole) : Type 0 where
  pub lat : radians_of p.lat ≡ radians_of q.lat
  pub lon : radians_of p.lon ≡ radians_of q.lon

-- all of a path but `rlatd`, which is typed
pub record SameWork (g h : PathGeometry) : Type 0 where
  pub gcd : g.gcd ≡ h.gcd
  pub gcd_km : g.gcd_km ≡ h.gcd_km
  pub btr : g.btr ≡ h.btr
  pub brt : g.brt ≡ h.brt
  pub count : g.count ≡ h.count
  pub points : g.points ≡ h.points
