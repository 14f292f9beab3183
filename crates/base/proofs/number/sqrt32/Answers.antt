-- `sqrt32` rounds twice, which for a root gives what rounding once gives (`sqrt_narrow`).
use Rattle.std.proofs.Common.{ap, ◌∙◌}
use lib.Ieee.{binary32, binary64}
use Rattle.base.specs.Number.{narrow_of, sqrt_of}
use Rattle.base.proofs.rounding.DoubleRounding.{sqrt_narrow}
use Rattle.base.proofs.rounding.Patterns.{held}
use Rattle.base.proofs.number.sqrt32.Goals as goal

pub returns : goal.returns
returns c =
    c.narrow.ensures
    ∙ ap narrow_of (c.sqrt64.ensures ∙ ap (sqrt_of binary64) c.widen.ensures)
    ∙ sqrt_narrow c.args.x (held binary32 c.args.x c.well_formed.0.1)
