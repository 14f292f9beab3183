-- `to_degrees` is one product with `R2D`, whose literal is the `f32` nearest to the Rust's digits.
use Rattle.std.proofs.Common.{refl}
use lib.Ieee.{round, of_bits}
use Rattle.base.specs.Single.{decimal}
use Rattle.base.specs.Constants.{R2D}
use Rattle.base.specs.Angle.{degrees_of}
use Rattle.base.proofs.angle.Radians.to_degrees.Goals as goal

pub returns : goal.returns
unfolding degrees_of R2D decimal round of_bits
returns c = refl
