-- `power_up` is 2 ^ k: by the exponent's field, and the infinity from 2 ^ 1024 on.
use Rattle.std.proofs.Common.{◌≡◌, ◌+◌, ◌*◌, ◌^◌, false, refl, ◌∙◌, arith}
use lib.Ieee.{binary64, inf, of_bits}
use Rattle.base.proofs.rounding.Patterns.{no_nan_bits}
use Rattle.base.proofs.rounding.Twos.{up_bits, up_inf}
use Rattle.base.proofs.elementary.power_up.Goals as goal

pub float_from_bits-result : goal.float_from_bits-result
float_from_bits-result c = no_nan_bits binary64 ((c.args.k + 1023) * 2 ^ 52) (omega arith)

endless : of_bits binary64 0x7ff0000000000000 ≡ inf false
unfolding of_bits
endless = refl

pub returns-then-k-lt1024 : goal.returns-then-k-lt1024
returns-then-k-lt1024 c = up_bits c.args.k c.if-k-lt1024.true

pub returns-else-k-lt1024 : goal.returns-else-k-lt1024
returns-else-k-lt1024 c = endless ∙ up_inf c.args.k c.if-k-lt1024.false
