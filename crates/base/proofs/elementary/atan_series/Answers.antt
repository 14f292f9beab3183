-- `atan_series` is `atan_series`: its table is the fractions, and `horner` is the sum.
use Rattle.std.proofs.Common.{List, ap, ◌∙◌, Float}
use lib.Ieee.{round, of_bits}
use Rattle.base.specs.Double.{◌⊗◌, fraction}
use Rattle.base.specs.Elementary.{horner, atan_series}
use Rattle.base.proofs.steps.Terms.{atan_tied}
use Rattle.base.proofs.elementary.atan_series.Goals as goal

pub returns : goal.returns
unfolding atan_series fraction round of_bits
returns c =
    let a = c.args.a in
    ap (λ (s : Float). a ⊗ s) (c.horner.ensures ∙ ap (λ (t : List Float). horner t (a ⊗ a)) atan_tied)
