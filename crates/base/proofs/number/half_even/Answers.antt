-- `half_even` is `closest`, without a branch (`half_up`).
use Rattle.std.proofs.Common.{◌^◌}
use Rattle.base.proofs.rounding.Halves.{half_of, half_pos, half_twice, half_up}
use Rattle.base.proofs.number.half_even.Goals as goal

pub returns : goal.returns
returns c =
    let n = c.args.n in
    half_up c.args.m (half_of n) (2 ^ n) (half_pos n c.requires.0 c.requires.1) (half_twice n c.requires.0 c.requires.1)
