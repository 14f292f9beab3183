-- `gob` is `gob_of`, arm by arm.
use Rattle.std.proofs.Common.{sym, ap, ◌∙◌, Float}
use lib.Ieee.{le, round, of_bits}
use Rattle.base.specs.Single.{decimal}
use Rattle.base.proofs.verdicts.Picks.{cond_true, cond_false}
use Rattle.maps.specs.Magnetic.{gob_of}
use Rattle.maps.proofs.magnetic.gob.Goals as goal

pub returns-then-cosine : goal.returns-then-cosine
unfolding gob_of decimal round of_bits
returns-then-cosine c = sym (cond_true _ _ (ap (λ (g : Float). le g (decimal 1 6)) (sym c.cos32-cosine.ensures) ∙ c.if-cosine.true))

pub returns-else-cosine : goal.returns-else-cosine
unfolding gob_of decimal round of_bits
returns-else-cosine c = c.cos32-cosine.ensures ∙ sym (cond_false _ _ (ap (λ (g : Float). le g (decimal 1 6)) (sym c.cos32-cosine.ensures) ∙ c.if-cosine.false))
