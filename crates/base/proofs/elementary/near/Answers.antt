-- `near` is the definition's two steps, the first of them by `shifted`. Assumes nothing.
use Rattle.std.proofs.Common.{ap, Float}
use lib.Ieee.{round, of_bits}
use Rattle.base.specs.Double.{◌⊖◌, fraction}
use Rattle.base.specs.Elementary.{near_of}
use Rattle.base.proofs.elementary.near.Goals as goal

pub returns : goal.returns
unfolding near_of fraction round of_bits
returns c = ap (λ (s : Float). s ⊖ fraction 6755399441055744 1) c.shifted.ensures
