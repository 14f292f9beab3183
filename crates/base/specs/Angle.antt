-- Degrees as typed and radians as worked. They meet only here. Assumes nothing.
use Rattle.base.specs.declared.angle.Degrees.{Degrees}
use Rattle.base.specs.declared.angle.Radians.{Radians}
use Rattle.base.specs.Single.{◌⊗◌}
use Rattle.base.specs.Constants.{D2R, R2D}

unfoldable pub radians_of : Degrees → Radians
radians_of d = record { 0 = d.0 ⊗ D2R }

unfoldable pub degrees_of : Radians → Degrees
degrees_of a = record { 0 = a.0 ⊗ R2D }
