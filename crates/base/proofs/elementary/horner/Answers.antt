-- `horner` is the sum from the highest term down: a fold over the other terms, the highest of them
-- first.
use Rattle.std.proofs.Common.{sym, ap, ◌∙◌}
use Rattle.base.specs.Elementary.{horner}
use Rattle.base.proofs.steps.Terms.{horner_none, horner_fold}
use Rattle.base.proofs.elementary.horner.Goals as goal

pub returns-in-Some : goal.returns-in-Some
returns-in-Some c =
    let x = c.args.x in
    c.from_highest.ensures ∙ horner_fold _ _ x ∙ ap (λ t. horner t x) (sym c.in-Some.ensures.cases.0)

pub returns-in-None : goal.returns-in-None
returns-in-None c = horner_none _ _ c.in-None.ensures.cases
