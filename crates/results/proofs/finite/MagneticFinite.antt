-- No NaN and no infinity among the magnetic values of a path: the field 300 km over a control point
-- is finite (`FiniteField`) and vanishes nowhere, so the dip divides no zero by zero
-- (`DipDefined`). Assumes nothing.
use Rattle.std.proofs.Common.{◌⊎◌, Bool, true, false, not, ℕ, ◌<◌, T, pos, get_or}
use lib.Ieee.{fin, le, is_nan}
use Rattle.base.specs.declared.angle.Degrees.{Degrees}
use Rattle.base.specs.declared.angle.Radians.{Radians}
use Rattle.base.specs.Single.{decimal}
use Rattle.base.specs.Elementary.{sin32_of}
use Rattle.base.proofs.order.Order.{nought, Between, wider}
use Rattle.results.proofs.numbers.Sizes.{Sized, larger, sized_number, sized_finite}
use Rattle.maps.specs.declared.inputs.MagneticPole.{MagneticPole}
use Rattle.maps.specs.Geometry.{path_of, nowhere}
use Rattle.maps.specs.Magnetic.{clamped_place, east_of, magfin_of, magvar_of}
use Rattle.results.proofs.clock.Clock.{Longitude}
use Rattle.results.proofs.path.Longitudes.{sixteen, angle, Typed}
use Rattle.results.proofs.finite.FinitePath.{points_located}
use Rattle.results.proofs.finite.FiniteField.{Pins, pinned, sine_below_one, SizedUne, une_sized, over, east_in, FiniteMagnetic, east_finite, gyrofrequency_sized, dip_sized_if}
use Rattle.results.proofs.field.DipDefined.{une_not_zero, dip_defined}
use Rattle.results.proofs.field.FieldNotZero.{little}
use Rattle.results.proofs.field.Sines.{full, Away}

-- ---- 300 km over every latitude that is a number
pub nowhere_zero : (lat east_lon : Radians) → T (not (is_nan lat.0)) → Between nought full east_lon.0
    → Away little (magfin_of lat east_lon (decimal 3000000 1)).up ⊎ Away little (magfin_of lat east_lon (decimal 3000000 1)).north
nowhere_zero lat east_lon n b =
    let p = pinned lat east_lon n b in
    une_not_zero lat east_lon (unfold le in wider (fin true 1 (pos 0)) (fin false 1 (pos 0)) tt tt (sine_below_one _ p.lat)) p.lon

-- ---- at a control point
module _ (lat lon : Radians) (h : Sized angle lat.0) (k : Longitude lon.0) where
  pins : Pins (clamped_place lat (east_of lon))
  pins = pinned lat (east_of lon) (sized_number h) (east_in lon k)

  sized : SizedUne (over lat lon)
  sized = une_sized lat (east_of lon) (sized_number h) (east_in lon k)

  sine_in : Between (fin true 1 (pos 0)) (fin false 1 (pos 0)) (sin32_of (clamped_place lat (east_of lon)).p1.0)
  unfolding le
  sine_in = wider (fin true 1 (pos 0)) (fin false 1 (pos 0)) tt tt (sine_below_one _ pins.lat)

  pub gmdip_sized : Sized sixteen (magvar_of lat lon).gmdip.0
  unfolding le
  gmdip_sized =
      dip_sized_if lat lon h k
      (dip_defined lat (east_of lon) sine_in pins.lon (larger (fin false 1 (pos 40)) tt sized.north) (larger (fin false 1 (pos 50)) tt sized.east))

  pub magnetic_finite : FiniteMagnetic (magvar_of lat lon)
  magnetic_finite = record {
    gyz = sized_finite tt (gyrofrequency_sized lat lon h k);
    gmdip = sized_finite tt gmdip_sized;
    east_lon = east_finite lat lon h k;
  }

-- ---- at each control point of a path whose ends and whose pole are in range
pub points_magnetic : (tlat tlong rlat rlong : Degrees) → Typed tlat tlong → Typed rlat rlong → (long : Bool) (pole : MagneticPole) → Typed pole.lat pole.lon → (i : ℕ) → i < 5
    → FiniteMagnetic (magvar_of (get_or (path_of tlat tlong rlat rlong long pole).points i nowhere).lat (get_or (path_of tlat tlong rlat rlong long pole).points i nowhere).lon)
points_magnetic tlat tlong rlat rlong a b long pole c i h = let p = points_located tlat tlong rlat rlong a b long pole c i h in magnetic_finite _ _ p.lat p.lon
