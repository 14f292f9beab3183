-- `abs64` drops the sign's bit (`abs_bits`).
use lib.Ieee.{binary64}
use Rattle.base.proofs.rounding.Patterns.{is_nan_law, no_nan, abs_nan, abs_bits, abs_no_nan, held}
use Rattle.base.proofs.rounding.Signs.{by_test}
use Rattle.base.proofs.number.abs64.Goals as goal

pub returns-then-is_nan : goal.returns-then-is_nan
returns-then-is_nan c = abs_nan c.args.x (is_nan_law c.args.x (by_test _ c.is_nan.ensures.value c.if-is_nan.true))

pub float_from_bits-result : goal.float_from_bits-result
float_from_bits-result c =
    let number = no_nan c.args.x (by_test _ c.is_nan.ensures.value c.if-is_nan.false) in
    abs_no_nan binary64 c.args.x (held binary64 c.args.x c.well_formed.0.1) number

pub returns : goal.returns
returns c =
    let number = no_nan c.args.x (by_test _ c.is_nan.ensures.value c.if-is_nan.false) in
    abs_bits binary64 c.args.x (held binary64 c.args.x c.well_formed.0.1) number
