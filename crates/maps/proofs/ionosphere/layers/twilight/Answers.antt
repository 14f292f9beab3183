-- `twilight` picks by two tests, after which each field is the definition's.
use Rattle.std.proofs.Common.{sym, ◌∙◌}
use lib.Ieee.{round, of_bits}
use Rattle.base.specs.Single.{decimal}
use Rattle.maps.specs.Layers.{twilight_of}
use Rattle.base.proofs.verdicts.Picks.{cond_true, cond_false}
use Rattle.maps.proofs.ionosphere.layers.twilight.Goals as goal

pub returns-then-f1-fc : goal.returns-then-f1-fc
unfolding twilight_of decimal round of_bits
returns-then-f1-fc c =
    rw (c.half_over-rfn.ensures, c.retard.ensures)
    (sym (cond_true _ _ c.if-dhn.true ∙ cond_true _ _ c.if-f1-fc.true))

pub returns-else-f1-fc : goal.returns-else-f1-fc
unfolding twilight_of decimal round of_bits
returns-else-f1-fc c =
    rw (c.half_over-rfn.ensures, c.retard.ensures)
    (sym (cond_true _ _ c.if-dhn.true ∙ cond_false _ _ c.if-f1-fc.false))

pub returns-else-dhn : goal.returns-else-dhn
unfolding twilight_of decimal round of_bits
returns-else-dhn c = rw (c.half_over-rfn.ensures, c.retard.ensures) (sym (cond_false _ _ c.if-dhn.false))
