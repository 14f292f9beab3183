-- `exp_within` takes whole powers of two out, and sums the series of what is left.
use Rattle.std.proofs.Common.{List, ap, ◌∙◌, Float}
use lib.Ieee.{round, of_bits}
use Rattle.base.specs.Double.{◌⊖◌, ◌⊗◌, fraction}
use Rattle.base.specs.Elementary.{power_of_two, horner, ln2, exp_terms, exp_within}
use Rattle.base.proofs.steps.Terms.{exp_tied}
use Rattle.base.proofs.elementary.exp_within.Goals as goal

pub returns : goal.returns
unfolding exp_within ln2 fraction round of_bits
returns c =
    let k = c in
    let v = k.args.v in
    ap (λ (s : Float). s ⊗ c.power.result) (c.horner.ensures ∙ ap (λ (t : List Float). horner t (v ⊖ k.near-n.result ⊗ ln2)) exp_tied)
    ∙ ap (λ (s : Float). horner exp_terms (v ⊖ k.near-n.result ⊗ ln2) ⊗ s) c.power.ensures
    ∙ ap (λ (n : Float). horner exp_terms (v ⊖ n ⊗ ln2) ⊗ power_of_two n) k.near-n.ensures
