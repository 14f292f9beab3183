-- `ln64` is `ln_of`: NaN, the zeros, what is below zero and the infinity by their patterns, the rest
-- by `ln_bits`.
use Rattle.std.proofs.Common.{◌≡◌, ◌+◌, ◌-◌, ◌*◌, ◌%◌, ◌^◌, ◌<◌, true, ◌⊎◌, sym, refl, ap, ◌∙◌, inl, inr, eq-zero-or-pos, arith}
use lib.Ieee.{nan, inf, binary64, of_bits, to_bits}
use Rattle.base.specs.Elementary.{ln_of}
use Rattle.base.proofs.rounding.Patterns.{is_nan_law, wide, read_back, by_bits, capped}
use Rattle.base.proofs.steps.Logs.{ln_nan, ln_plus_zero, ln_minus_zero, ln_infinity, ln_below_zero}
use Rattle.base.proofs.elementary.ln64.Goals.{Start}
use Rattle.base.proofs.rounding.Signs.{by_test}
use Rattle.base.proofs.elementary.ln64.Goals as goal

endless : of_bits binary64 0xfff0000000000000 ≡ inf true
unfolding of_bits
endless = refl

-- the logarithm of a zero, by its two patterns
at_zero : (c : Start) → (to_bits binary64 c.args.x ≡ 0) ⊎ (0 < to_bits binary64 c.args.x) → to_bits binary64 c.args.x % 2 ^ 63 ≡ 0 → inf true ≡ ln_of c.args.x
at_zero c (inl e) h = ln_plus_zero ∙ ap ln_of (sym (by_bits binary64 c.args.x c.well_formed.0.1 0 e))
at_zero c (inr p) h =
    let w = wide binary64 c.args.x c.well_formed.0.1 in
    let e : to_bits binary64 c.args.x ≡ 2 ^ 63 = omega arith in
    ln_minus_zero ∙ ap ln_of (sym (by_bits binary64 c.args.x c.well_formed.0.1 (2 ^ 63) e))

pub returns-then-is_nan : goal.returns-then-is_nan
returns-then-is_nan c = ln_nan c.args.x (is_nan_law c.args.x (by_test _ c.is_nan.ensures.value c.if-is_nan.true))

pub returns-then-b-eq0 : goal.returns-then-b-eq0
returns-then-b-eq0 c = endless ∙ at_zero (goal.at.returns-then-b-eq0 c).Start (eq-zero-or-pos (to_bits binary64 c.args.x)) c.if-b-eq0.true

no_number : of_bits binary64 0x7ff8000000000000 ≡ nan
unfolding of_bits
no_number = refl

pub returns-then-b-gt9223372036854775808 : goal.returns-then-b-gt9223372036854775808
returns-then-b-gt9223372036854775808 c =
    let s = c in
    let b = to_bits binary64 s.args.x in
    let w = wide binary64 s.args.x s.well_formed.0.1 in
    let e : 2 ^ 63 + (b - 2 ^ 63) ≡ b = omega arith in
    no_number
    ∙ sym (ln_below_zero (b - 2 ^ 63) (omega arith) (omega (arith, capped binary64 s.args.x s.well_formed.0.1 (by_test _ c.is_nan.ensures.value c.if-is_nan.false))))
    ∙ ap ln_of (ap (of_bits binary64) e ∙ read_back binary64 s.args.x s.well_formed.0.1)

pub returns-then-b-eq9218868437227405312 : goal.returns-then-b-eq9218868437227405312
returns-then-b-eq9218868437227405312 c =
    let s = c in
    let e = by_bits binary64 s.args.x s.well_formed.0.1 (2047 * 2 ^ 52) c.if-b-eq9218868437227405312.true in
    e ∙ ln_infinity ∙ ap ln_of (sym e)

pub ln_bits-requires : goal.ln_bits-requires
ln_bits-requires c =
    let k = c in
    omega (arith, capped binary64 k.args.x k.well_formed.0.1 (by_test _ k.is_nan.ensures.value k.if-is_nan.false))

pub returns : goal.returns
returns c = c.ln_bits.ensures ∙ ap ln_of (read_back binary64 c.args.x c.well_formed.0.1)
