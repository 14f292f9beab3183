-- `half_angle` is `half_angle`, the root by its definition.
use Rattle.std.proofs.Common.{ap, Float}
use lib.Ieee.{round, of_bits}
use Rattle.base.specs.Double.{◌⊕◌, ◌⊘◌, fraction}
use Rattle.base.specs.Elementary.{half_angle}
use Rattle.base.proofs.elementary.half_angle.Goals as goal

pub returns : goal.returns
unfolding half_angle fraction round of_bits
returns c = ap (λ (s : Float). c.args.a ⊘ (fraction 1 1 ⊕ s)) c.sqrt64.ensures
