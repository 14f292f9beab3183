-- `is_close` compares the difference's size with `DDX`, in the Rust's digits.
use Rattle.std.proofs.Common.{ap, Float}
use lib.Ieee.{le, round, of_bits}
use Rattle.base.specs.Single.{decimal}
use Rattle.maps.specs.Geometry.{DDX, close}
use Rattle.maps.proofs.geometry.is_close.Goals as goal

pub returns : goal.returns
unfolding close DDX decimal round of_bits
returns c = ap (λ (a : Float). le a DDX) c.abs32.ensures
