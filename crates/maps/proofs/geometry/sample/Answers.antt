-- `sample` picks by how near the transmitter is to a pole.
use Rattle.std.proofs.Common.{sym, ◌∙◌}
use lib.Ieee.{round, of_bits}
use Rattle.base.specs.Single.{decimal}
use Rattle.maps.specs.Geometry.{EPSLON, sample_of}
use Rattle.base.proofs.verdicts.Picks.{cond_true, cond_false}
use Rattle.maps.proofs.geometry.sample.Goals as goal

pub returns-then-tx : goal.returns-then-tx
unfolding sample_of EPSLON decimal round of_bits
returns-then-tx c = rw (c.place_at.ensures, c.down_meridian.ensures) (sym (cond_true _ _ c.if-tx.true))

pub returns-else-tx : goal.returns-else-tx
unfolding sample_of EPSLON decimal round of_bits
returns-else-tx c = c.on_circle.ensures ∙ sym (cond_false _ _ c.if-tx.false)
