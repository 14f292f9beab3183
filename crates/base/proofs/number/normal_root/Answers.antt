-- `normal_root` is the root: the guess where it was found to be (`is_root`), and by `root_bits`
-- where not.
use Rattle.std.proofs.Common.{arith}
use lib.Ieee.{binary64}
use Rattle.base.proofs.rounding.Patterns.{no_nan_bits}
use Rattle.base.proofs.number.normal_root.Goals as goal

pub float_from_bits-result : goal.float_from_bits-result
float_from_bits-result c = no_nan_bits binary64 c.root_bits.result (omega arith)

pub returns-then-is_root : goal.returns-then-is_root
returns-then-is_root c = c.is_root.ensures c.if-is_root.true
