-- `sin_series` is `sin_series`: its table is the fractions, and `horner` is the sum.
use Rattle.std.proofs.Common.{List, ap, ◌∙◌, Float}
use lib.Ieee.{round, of_bits}
use Rattle.base.specs.Double.{◌⊗◌, fraction}
use Rattle.base.specs.Elementary.{horner, sin_series}
use Rattle.base.proofs.steps.Terms.{sin_tied}
use Rattle.base.proofs.elementary.sin_series.Goals as goal

pub returns : goal.returns
unfolding sin_series fraction round of_bits
returns c =
    let a = c.args.a in
    ap (λ (s : Float). a ⊗ s) (c.horner.ensures ∙ ap (λ (t : List Float). horner t (a ⊗ a)) sin_tied)
