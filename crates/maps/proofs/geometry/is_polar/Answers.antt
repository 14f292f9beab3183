-- `is_polar` is one test against `EPSLON`, in the Rust's digits.
use Rattle.std.proofs.Common.{refl}
use lib.Ieee.{round, of_bits}
use Rattle.base.specs.Single.{decimal}
use Rattle.maps.specs.Geometry.{EPSLON, polar}
use Rattle.maps.proofs.geometry.is_polar.Goals as goal

pub returns : goal.returns
unfolding polar EPSLON decimal round of_bits
returns c = refl
