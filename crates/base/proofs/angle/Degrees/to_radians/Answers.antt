-- `to_radians` is one product with `D2R`, whose literal is the `f32` nearest to the Rust's digits.
use Rattle.std.proofs.Common.{refl}
use lib.Ieee.{round, of_bits}
use Rattle.base.specs.Single.{decimal}
use Rattle.base.specs.Constants.{D2R}
use Rattle.base.specs.Angle.{radians_of}
use Rattle.base.proofs.angle.Degrees.to_radians.Goals as goal

pub returns : goal.returns
unfolding radians_of D2R decimal round of_bits
returns c = refl
