-- `ln_scaled` is `ln_sum` of the exponent and of the digits, whose pattern m + 2 ^ 52 * 1022 is that
-- of m / 2 ^ 52.
use Rattle.std.proofs.Common.{◌+◌, ◌*◌, ◌^◌, ap, ◌∙◌, arith, Float}
use lib.Ieee.{binary64, minus, of_int, of_bits}
use Rattle.base.specs.Elementary.{ln_sum}
use Rattle.base.proofs.rounding.Patterns.{no_nan_bits}
use Rattle.base.proofs.rounding.Twos.{digits_bits}
use Rattle.base.proofs.elementary.ln_scaled.Goals as goal

pub float_from_bits-m : goal.float_from_bits-m
float_from_bits-m c = no_nan_bits binary64 (c.args.m + 1022 * 2 ^ 52) (omega arith)

pub returns : goal.returns
returns c =
    let s = c in
    c.ln_sum.ensures
    ∙ ap (λ (k : Float). ln_sum k (of_bits binary64 (s.args.m + 1022 * 2 ^ 52))) c.exponent.ensures
    ∙ ap (ln_sum (of_int binary64 (minus s.args.f 1075))) (digits_bits s.args.m s.requires.0 s.requires.1)
