-- `clamped` picks by the size of q.
use Rattle.std.proofs.Common.{sym, ◌∙◌}
use lib.Ieee.{round, of_bits}
use Rattle.base.specs.Single.{decimal}
use Rattle.maps.specs.Geometry.{clamped_cosine}
use Rattle.base.proofs.verdicts.Picks.{cond_true, cond_false}
use Rattle.maps.proofs.geometry.clamped.Goals as goal

pub returns-then-abs32 : goal.returns-then-abs32
unfolding clamped_cosine decimal round of_bits
returns-then-abs32 c = c.sign.ensures ∙ sym (cond_true _ _ (rw c.abs32.ensures at c.if-abs32.true))

pub returns-else-abs32 : goal.returns-else-abs32
unfolding clamped_cosine decimal round of_bits
returns-else-abs32 c = sym (cond_false _ _ (rw c.abs32.ensures at c.if-abs32.false))
