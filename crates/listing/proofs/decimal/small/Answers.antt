-- `small` is `decimal_text` of a float below 2^24, by whether it has a leading one that its bits do
-- not hold.
use Rattle.std.proofs.Common.{sym, ap, ◌∙◌, ℕ, arith}
use lib.Ieee.{binary32, of_fields}
use Rattle.listing.specs.Decimal.{text_of, decimal_text}
use Rattle.listing.proofs.digits.Values.{lowest, middle}
use Rattle.listing.proofs.decimal.small.Goals as goal

pub returns-then-exponent-eq0 : goal.returns-then-exponent-eq0
returns-then-exponent-eq0 c =
    let s = c in
    let a = s.args in
    c.text_of.ensures
    ∙ ap (λ (m : ℕ). text_of m a.negative) c.halved.ensures
    ∙ sym (ap (λ (e : ℕ). decimal_text (of_fields binary32 a.negative e a.fraction)) c.if-exponent-eq0.true ∙ lowest a.negative a.fraction s.requires.fraction_bound)

pub returns : goal.returns
returns c =
    let s = c in
    let a = s.args in
    c.text_of-2.ensures
    ∙ ap (λ (m : ℕ). text_of m a.negative) c.halved-2.ensures
    ∙ sym (middle a.negative a.exponent a.fraction s.requires.fraction_bound (omega arith) s.requires.exponent_bound)
