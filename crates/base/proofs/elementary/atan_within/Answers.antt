-- `atan_within` is three halvings, the series and the product with 8, each callee by its
-- definition.
use Rattle.std.proofs.Common.{ap, ◌∙◌, Float}
use lib.Ieee.{round, of_bits}
use Rattle.base.specs.Double.{◌⊗◌, fraction}
use Rattle.base.specs.Elementary.{half_angle, atan_series, atan_within}
use Rattle.base.proofs.elementary.atan_within.Goals as goal

pub returns : goal.returns
unfolding atan_within fraction round of_bits
returns c =
    let h = c.half_angle-3.ensures ∙ ap half_angle (c.half_angle-2.ensures ∙ ap half_angle c.half_angle.ensures) in
    ap (λ (s : Float). s ⊗ fraction 8 1) (c.atan_series.ensures ∙ ap atan_series h)
