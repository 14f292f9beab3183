-- `ln_series` is `ln_series`: its table is the fractions, and `horner` is the sum.
use Rattle.std.proofs.Common.{List, ap, ◌∙◌, Float}
use lib.Ieee.{round, of_bits}
use Rattle.base.specs.Double.{◌⊗◌, fraction}
use Rattle.base.specs.Elementary.{horner, ln_series}
use Rattle.base.proofs.steps.Terms.{ln_tied}
use Rattle.base.proofs.elementary.ln_series.Goals as goal

pub returns : goal.returns
unfolding ln_series fraction round of_bits
returns c =
    let q = c.args.q in
    ap (λ (s : Float). fraction 2 1 ⊗ q ⊗ s) (c.horner.ensures ∙ ap (λ (t : List Float). horner t (q ⊗ q)) ln_tied)
