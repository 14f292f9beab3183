-- `sqrt64` is `sqrt_of binary64`: a normal number's by `normal_root`, NaN's, the zeros', the
-- infinity's and that of what is below zero by their patterns, a subnormal number's by `root_bits`.
use Rattle.std.proofs.Common.{◌≡◌, ◌+◌, ◌-◌, ◌*◌, ◌%◌, ◌^◌, ◌<◌, ◌⊎◌, sym, ap, ◌∙◌, inl, inr, eq-zero-or-pos, arith}
use lib.Ieee.{binary64, of_bits, to_bits}
use Rattle.base.specs.Number.{sqrt_of}
use Rattle.base.proofs.rounding.Patterns.{is_nan_law, no_nan, no_nan_bits, wide, read_back, by_bits, capped}
use Rattle.base.proofs.rounding.Signs.{by_test}
use Rattle.base.proofs.rounding.Sorts.{fixed, plus_zero, minus_zero, infinity, nan_root, below_zero}
use Rattle.base.proofs.number.sqrt64.Goals.{Start}
use Rattle.base.proofs.number.sqrt64.Goals as goal

zero_root : (c : Start) → (to_bits binary64 c.args.x ≡ 0) ⊎ (0 < to_bits binary64 c.args.x) → to_bits binary64 c.args.x % 2 ^ 63 ≡ 0 → c.args.x ≡ sqrt_of binary64 c.args.x
zero_root c (inl e) h = fixed c.args.x 0 (by_bits binary64 c.args.x c.well_formed.0.1 0 e) plus_zero
zero_root c (inr p) h =
    let w = wide binary64 c.args.x c.well_formed.0.1 in
    let e : to_bits binary64 c.args.x ≡ 2 ^ 63 = omega arith in
    fixed c.args.x (2 ^ 63) (by_bits binary64 c.args.x c.well_formed.0.1 (2 ^ 63) e) minus_zero

pub returns-then-is_nan : goal.returns-then-is_nan
returns-then-is_nan c = nan_root c.args.x (is_nan_law c.args.x (by_test _ c.is_nan.ensures.value c.if-is_nan.true))

pub float_to_bits-b : goal.float_to_bits-b
float_to_bits-b c = no_nan c.args.x (by_test _ c.is_nan.ensures.value c.if-is_nan.false)

pub returns-then-wrapping_sub_u64-lt9214364837600034816 : goal.returns-then-wrapping_sub_u64-lt9214364837600034816
returns-then-wrapping_sub_u64-lt9214364837600034816 c =
    let s = c in
    c.normal_root.ensures ∙ ap (sqrt_of binary64) (read_back binary64 s.args.x s.well_formed.0.1)

pub returns-then-b-eq0 : goal.returns-then-b-eq0
returns-then-b-eq0 c =
    let s = c in
    zero_root (goal.at.returns-then-b-eq0 c).Start (eq-zero-or-pos (to_bits binary64 s.args.x)) c.if-b-eq0.true

pub returns-then-b-gt9223372036854775808 : goal.returns-then-b-gt9223372036854775808
unfolding of_bits
returns-then-b-gt9223372036854775808 c =
    let k = c in
    let s = k in
    let b = to_bits binary64 s.args.x in
    let w = wide binary64 s.args.x s.well_formed.0.1 in
    let e : 2 ^ 63 + (b - 2 ^ 63) ≡ b = omega arith in
    sym (below_zero (b - 2 ^ 63) (omega arith) (omega (arith, capped binary64 s.args.x s.well_formed.0.1 (by_test _ k.is_nan.ensures.value k.if-is_nan.false))))
    ∙ ap (sqrt_of binary64) (ap (of_bits binary64) e ∙ read_back binary64 s.args.x s.well_formed.0.1)

pub returns-then-b-eq9218868437227405312 : goal.returns-then-b-eq9218868437227405312
returns-then-b-eq9218868437227405312 c =
    let s = c in
    fixed s.args.x (2047 * 2 ^ 52) (by_bits binary64 s.args.x s.well_formed.0.1 (2047 * 2 ^ 52) c.if-b-eq9218868437227405312.true) infinity

pub root_bits-requires : goal.root_bits-requires
root_bits-requires c =
    let k = c in
    omega (arith, capped binary64 k.args.x k.well_formed.0.1 (by_test _ k.is_nan.ensures.value k.if-is_nan.false))

pub float_from_bits-result : goal.float_from_bits-result
float_from_bits-result c = no_nan_bits binary64 c.root_bits.result (omega arith)

pub returns : goal.returns
returns c =
    let s = c in
    c.root_bits.ensures.value ∙ ap (sqrt_of binary64) (read_back binary64 s.args.x s.well_formed.0.1)
