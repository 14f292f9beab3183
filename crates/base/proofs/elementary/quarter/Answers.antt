-- `quarter` is `quarter_of` of the nearest whole number: the last two bits of the shifted number are
-- those of the nearest (`shifted_quarter`).
use Rattle.std.proofs.Common.{◌%◌, not, T, sym, ap, ◌∙◌, subst, Float}
use lib.Ieee.{binary64, is_nan, to_bits}
use Rattle.base.proofs.steps.Turns.{shifted_no_nan, shifted_quarter}
use Rattle.base.proofs.elementary.quarter.Goals as goal

pub float_to_bits-result : goal.float_to_bits-result
float_to_bits-result c = subst (λ (s : Float). T (not (is_nan s))) (sym c.shifted.ensures) (shifted_no_nan c.args.y c.requires)

pub returns : goal.returns
returns c = ap (λ (s : Float). to_bits binary64 s % 4) c.shifted.ensures ∙ shifted_quarter c.args.y c.requires
