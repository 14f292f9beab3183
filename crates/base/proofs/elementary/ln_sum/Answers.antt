-- `ln_sum` is `ln_sum`, the series by its definition.
use Rattle.std.proofs.Common.{ap, Float}
use lib.Ieee.{round, of_bits}
use Rattle.base.specs.Double.{◌⊕◌, ◌⊗◌, fraction}
use Rattle.base.specs.Elementary.{ln2, ln_sum}
use Rattle.base.proofs.elementary.ln_sum.Goals as goal

pub returns : goal.returns
unfolding ln_sum ln2 fraction round of_bits
returns c = ap (λ (s : Float). c.args.k ⊗ ln2 ⊕ s) c.ln_series.ensures
