-- `merged_of` picks by whether twilight is near.
use Rattle.std.proofs.Common.{sym}
use lib.Ieee.{round, of_bits}
use Rattle.base.specs.Single.{decimal}
use Rattle.maps.specs.Layers.{merged_of}
use Rattle.base.proofs.verdicts.Picks.{cond_true, cond_false}
use Rattle.maps.proofs.ionosphere.layers.merged_of.Goals as goal

pub returns-then-zmax-z : goal.returns-then-zmax-z
unfolding merged_of decimal round of_bits
returns-then-zmax-z c =
    rw (c.half_over.ensures, c.retard.ensures, c.at_least_xf1-ffec.ensures)
    (sym (cond_true _ _ c.if-zmax-z.true))

pub returns-else-zmax-z : goal.returns-else-zmax-z
unfolding merged_of decimal round of_bits
returns-else-zmax-z c = rw (c.twilight.ensures, c.at_least_xf1-ffec.ensures) (sym (cond_false _ _ c.if-zmax-z.false))
