-- `narrow` is `narrow_of`: the sign's bit is carried over, and `magnitude` rounds the size for
-- either sign.
use Rattle.std.proofs.Common.{◌≡◌, ◌+◌, ◌*◌, ◌/◌, ◌^◌, sym, ap, ◌∙◌, arith, Float}
use lib.Ieee.{nan, binary32, binary64, of_bits, to_bits}
use Rattle.base.specs.Number.{narrow_of}
use Rattle.base.proofs.rounding.Narrowing.{either_sign}
use Rattle.base.proofs.rounding.Patterns.{is_nan_law, no_nan_bits, wide, read_back, capped}
use Rattle.base.proofs.rounding.Signs.{by_test}
use Rattle.base.proofs.number.narrow.Goals as goal

nan_case : (x : Float) → x ≡ nan → nan ≡ narrow_of x
unfolding narrow_of
nan_case x e = ap narrow_of (sym e)

pub returns-then-is_nan : goal.returns-then-is_nan
unfolding of_bits
returns-then-is_nan c = nan_case c.args.x (is_nan_law c.args.x (by_test _ c.is_nan.ensures.value c.if-is_nan.true))

pub overflow_mul-result : goal.overflow_mul-result
overflow_mul-result c = omega (arith, wide binary64 c.args.x c.well_formed.0.1)

pub magnitude-requires : goal.magnitude-requires
magnitude-requires c = omega (arith, capped binary64 c.args.x c.well_formed.0.1 (by_test _ c.is_nan.ensures.value c.if-is_nan.false))

pub overflow_add-result : goal.overflow_add-result
overflow_add-result c = omega (arith, wide binary64 c.args.x c.well_formed.0.1, c.magnitude.ensures.bound)

pub overflow_cast-result : goal.overflow_cast-result
overflow_cast-result c = omega (arith, wide binary64 c.args.x c.well_formed.0.1, c.magnitude.ensures.bound)

pub float_from_bits-result : goal.float_from_bits-result
float_from_bits-result c =
    no_nan_bits binary32 (to_bits binary64 c.args.x / 2 ^ 63 * 2 ^ 31 + c.magnitude.result) (omega (arith, wide binary64 c.args.x c.well_formed.0.1, c.magnitude.ensures.bound))

pub returns : goal.returns
returns c =
    let x = c.args.x in
    either_sign (to_bits binary64 x) c.magnitude.result (wide binary64 c.args.x c.well_formed.0.1) c.magnitude.ensures.value
    ∙ ap narrow_of (read_back binary64 x c.well_formed.0.1)
