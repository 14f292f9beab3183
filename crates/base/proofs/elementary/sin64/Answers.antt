-- `sin64` is `sin_of`: up to 1000 in size by `split` and `sin_at`, and else a NaN.
use Rattle.std.proofs.Common.{◌≡◌, true, T, sym, ap, ◌∙◌, subst, Float}
use lib.Ieee.{le, round, of_bits}
use Rattle.base.specs.Double.{fraction}
use Rattle.base.specs.Number.{abs_of}
use Rattle.base.specs.Elementary.{sin_of, sin_at}
use Rattle.base.proofs.verdicts.Picks.{cond_true, cond_false}
use Rattle.base.proofs.elementary.sin64.Goals.{Then-abs64}
use Rattle.base.proofs.elementary.sin64.Goals as goal

within : (c : Then-abs64) → le (abs_of c.args.v) (fraction 1000 1) ≡ true
unfolding fraction round of_bits
within c = ap (λ (a : Float). le a (fraction 1000 1)) (sym c.abs64.ensures) ∙ c.if-abs64.true

pub returns-then-abs64 : goal.returns-then-abs64
unfolding sin_of
returns-then-abs64 c =
    let p = c.split-t.ensures in
    c.sin_at.ensures ∙ (λ i. sin_at (p.quarter i) (p.rest i)) ∙ sym (cond_true _ _ (within (goal.at.returns-then-abs64 c).Then-abs64))

pub returns-else-abs64 : goal.returns-else-abs64
unfolding sin_of fraction round of_bits
returns-else-abs64 c = sym (cond_false _ _ (ap (λ (a : Float). le a (fraction 1000 1)) (sym c.abs64.ensures) ∙ c.if-abs64.false))

pub split-t-requires : goal.split-t-requires
split-t-requires c = subst T (sym (within (goal.at.split-t-requires c).Then-abs64)) tt
