-- `leading` is `leading_of`, by whether there is a digit here, and whether there is one after it.
use Rattle.std.proofs.Common.{sym, ◌∙◌}
use Rattle.base.proofs.verdicts.Picks.{cond_true, cond_false}
use Rattle.listing.specs.Decimal.{leading_of}
use Rattle.listing.proofs.decimal.leading.Goals as goal

pub returns-then-has_digit : goal.returns-then-has_digit
unfolding leading_of
returns-then-has_digit c = c.digit.ensures ∙ sym (cond_true _ _ (sym c.has_digit.ensures ∙ c.if-has_digit.true))

pub returns-then-has_digit-2 : goal.returns-then-has_digit-2
unfolding leading_of
returns-then-has_digit-2 c =
    c.sign.ensures
    ∙ sym (cond_true _ _ (sym c.has_digit-else-has_digit.ensures ∙ c.if-has_digit-2.true))
    ∙ sym (cond_false _ _ (sym c.has_digit.ensures ∙ c.if-has_digit.false))

pub returns-else-has_digit-2 : goal.returns-else-has_digit-2
unfolding leading_of
returns-else-has_digit-2 c =
    sym (cond_false _ _ (sym c.has_digit-else-has_digit.ensures ∙ c.if-has_digit-2.false)) ∙ sym (cond_false _ _ (sym c.has_digit.ensures ∙ c.if-has_digit.false))
