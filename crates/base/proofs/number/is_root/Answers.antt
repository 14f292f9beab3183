-- `is_root` is true only of the root: then the digits of s are the nearest root of the number's
-- digits (`is_nearest`), and its exponent is half of the number's.
use Rattle.std.proofs.Common.{◌≡◌, ◌+◌, ◌/◌, ◌%◌, ◌^◌, ◌∙◌, arith}
use mathlib.Core.Bool.{false≢true}
use lib.Ieee.{binary64, to_bits}
use Rattle.base.proofs.rounding.Patterns.{no_nan, by_bits}
use Rattle.base.proofs.rounding.Signs.{by_test}
use Rattle.base.proofs.roots.Rooted.{at_most}
use Rattle.base.proofs.rounding.Sorts.{bits_of, normal_root}
use Rattle.base.proofs.number.is_root.Goals as goal

pub float_to_bits-s : goal.float_to_bits-s
float_to_bits-s c = no_nan c.args.s (by_test _ c.is_nan.ensures.value c.if-is_nan.false)

pub overflow_mul-m : goal.overflow_mul-m
overflow_mul-m c =
    let b = c.args.b in
    omega (arith, at_most (b % 2 ^ 52 + 2 ^ 52) ((b / 2 ^ 52 + 1020) % 2))

pub returns : goal.returns
returns c = λ t.
    let k = c in
    let s = k in
    let b = s.args.b in
    let q = c.is_nearest.ensures t in
    let e : to_bits binary64 s.args.s ≡ bits_of (b % 2 ^ 52 + 2 ^ 52) (b / 2 ^ 52 + 1020) = omega arith in
    by_bits binary64 s.args.s s.well_formed.1.0.1 (bits_of (b % 2 ^ 52 + 2 ^ 52) (b / 2 ^ 52 + 1020)) e ∙ (normal_root b s.requires.0 s.requires.1).1

pub returns-then-is_nan : goal.returns-then-is_nan
returns-then-is_nan c = λ t. absurd (false≢true t)

pub returns-then-w-ge9007199254740992 : goal.returns-then-w-ge9007199254740992
returns-then-w-ge9007199254740992 c = λ t. absurd (false≢true t)
