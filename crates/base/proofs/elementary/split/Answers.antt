-- `split` is the quarter and the rest of v by `turns_of`: v in quarter turns is 1024 at most in size
-- (`turns_small`), as `quarter` asks.
use Rattle.std.proofs.Common.{ap, ◌∙◌}
use lib.Ieee.{round, of_bits}
use Rattle.base.specs.Double.{fraction}
use Rattle.base.specs.Elementary.{turns_of, reduced_of}
use Rattle.base.proofs.steps.Turns.{turns_small}
use Rattle.base.proofs.elementary.split.Goals as goal

pub quarter-requires : goal.quarter-requires
unfolding fraction round of_bits
quarter-requires c = turns_small c.args.v c.requires

pub returns : goal.returns
unfolding turns_of fraction round of_bits
returns c = record { quarter = c.quarter.ensures; rest = c.reduced.ensures ∙ ap (reduced_of c.args.v) c.near.ensures }
