-- `put_parts` puts `decimal_text` of the float with these fields, by the exponent's field.
use Rattle.std.proofs.Common.{ℕ, ◌≡◌, sym, ap, ◌∙◌, arith}
use lib.Ieee.{binary32, of_fields}
use Rattle.base.proofs.verdicts.Picks.{cond_true, cond_false}
use Rattle.listing.specs.Decimal.{decimal_text}
use Rattle.listing.proofs.pieces.Puts.{put_as}
use Rattle.listing.proofs.digits.Values.{large, no_number, infinite}
use Rattle.listing.proofs.decimal.put_parts.Goals as goal

pub returns-then-exponent-lt255 : goal.returns-then-exponent-lt255
returns-then-exponent-lt255 c =
    let a = c.args in
    put_as c.put_scaled.ensures (sym (large a.negative a.exponent a.fraction (omega arith) (omega arith) c.if-exponent-lt255.true))

pub returns-then-fraction-gt0 : goal.returns-then-fraction-gt0
returns-then-fraction-gt0 c =
    let a = c.args in
    let e : a.exponent ≡ 255 = omega arith in
    put_as c.put-then-fraction-gt0.ensures
    (sym (ap (λ (x : ℕ). decimal_text (of_fields binary32 a.negative x a.fraction)) e ∙ no_number a.negative a.fraction c.if-fraction-gt0.true))

pub returns-then-negative : goal.returns-then-negative
returns-then-negative c =
    let a = c.args in
    let e : a.exponent ≡ 255 = omega arith in
    let z : a.fraction ≡ 0 = omega arith in
    put_as c.put-then-negative.ensures (sym ((λ i. decimal_text (of_fields binary32 a.negative (e i) (z i))) ∙ infinite a.negative ∙ cond_true _ _ c.if-negative.true))

pub returns-else-negative : goal.returns-else-negative
returns-else-negative c =
    let a = c.args in
    let e : a.exponent ≡ 255 = omega arith in
    let z : a.fraction ≡ 0 = omega arith in
    put_as c.put-else-negative.ensures (sym ((λ i. decimal_text (of_fields binary32 a.negative (e i) (z i))) ∙ infinite a.negative ∙ cond_false _ _ c.if-negative.false))
