-- `cos_series` is `cos_series`: its table is the fractions, and `horner` is the sum.
use Rattle.std.proofs.Common.{List, ap, ◌∙◌, Float}
use lib.Ieee.{round, of_bits}
use Rattle.base.specs.Double.{◌⊗◌, fraction}
use Rattle.base.specs.Elementary.{horner, cos_series}
use Rattle.base.proofs.steps.Terms.{cos_tied}
use Rattle.base.proofs.elementary.cos_series.Goals as goal

pub returns : goal.returns
unfolding cos_series fraction round of_bits
returns c =
    let a = c.args.a in
    c.horner.ensures ∙ ap (λ (t : List Float). horner t (a ⊗ a)) cos_tied
