-- `latitude` is one difference from `PIO2`, in the Rust's digits.
use Rattle.std.proofs.Common.{ap, Float}
use lib.Ieee.{round, of_bits}
use Rattle.base.specs.Single.{◌⊖◌, decimal}
use Rattle.base.specs.Constants.{PIO2}
use Rattle.maps.specs.Geometry.{latitude_of}
use Rattle.maps.proofs.geometry.latitude.Goals as goal

pub returns : goal.returns
unfolding latitude_of PIO2 decimal round of_bits
returns c = ap (λ (a : Float). PIO2 ⊖ a) c.acos_clamped.ensures
