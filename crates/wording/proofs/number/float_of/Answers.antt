-- `float_of` is `float_of`: `magnitude` has the pattern for either sign, to which the sign's bit is
-- added.
use Rattle.std.proofs.Common.{◌≡◌, true, false, ◌+◌, ◌^◌, ◌<◌, ◌≤◌, sym, ap, ◌∙◌, subst, refl}
use Rattle.std.specs.Float.{nan, binary32}
use Rattle.std.specs.Float.Ieee.{of_bits, round}
use Rattle.base.proofs.verdicts.Picks.{cond_true, cond_false}
use Rattle.wording.specs.Number.{float_of}
use Rattle.wording.proofs.decimals.Dividing.{ten_pos, ten_le}
use Rattle.wording.proofs.decimals.Reading.{written_most}
use Rattle.wording.proofs.number.float_of.Goals as goal

pub returns-then-not-is_written : goal.returns-then-not-is_written
unfolding float_of of_bits
returns-then-not-is_written c =
    let w : c.is_written.result ≡ false = cc in
    let n : of_bits binary32 2143289344 ≡ nan = refl in
    n ∙ sym (cond_false _ _ (sym c.is_written.ensures ∙ w))

pub magnitude-requires : goal.magnitude-requires
magnitude-requires c =
    let d = c.args.d in
    let e = c.pow.ensures in
    let w : c.is_written.result ≡ true = cc in
    let m = written_most d (sym c.is_written.ensures ∙ w) in
    (m.0, subst (λ x. 0 < x) (sym e) (ten_pos d.places), subst (λ x. x ≤ 10 ^ 18) (sym e) (ten_le d.places m.1))

pub returns : goal.returns
unfolding float_of
returns c =
    let d = c.args.d in
    let m = c.magnitude in
    let w : c.is_written.result ≡ true = cc in
    c.float32.ensures
    ∙ ap (λ x. of_bits binary32 (x + m.result)) c.sign_bit.ensures
    ∙ m.ensures.value d.negative
    ∙ ap (λ x. round binary32 d.negative d.digits x) c.pow.ensures
    ∙ sym (cond_true _ _ (sym c.is_written.ensures ∙ w))
