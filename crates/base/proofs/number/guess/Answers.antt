-- `guess` is safe. Nothing is proved of how near it is.
use Rattle.std.proofs.Common.{◌-◌, ◌/◌, arith}
use lib.Ieee.{binary64}
use Rattle.base.proofs.rounding.Patterns.{no_nan_bits}
use Rattle.base.proofs.number.guess.Goals as goal

pub float_from_bits-x : goal.float_from_bits-x
float_from_bits-x c = no_nan_bits binary64 c.args.b (omega arith)

pub float_from_bits-y0 : goal.float_from_bits-y0
float_from_bits-y0 c = no_nan_bits binary64 (0x5fe4_0000_0000_0000 - c.args.b / 2) (omega arith)
