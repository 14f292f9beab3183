-- `clamped` is `clamped_place`, arm by arm; the literals are the floats nearest to the Rust's
-- digits.
use Rattle.std.proofs.Common.{sym, ◌∙◌}
use lib.Ieee.{neg, round, of_bits}
use Rattle.base.specs.Single.{decimal}
use Rattle.base.proofs.verdicts.Picks.{cond_true, cond_false}
use Rattle.maps.specs.Magnetic.{o, RD, clamped_place}
use Rattle.maps.proofs.magnetic.clamped.Goals as goal

pub returns-then-lat : goal.returns-then-lat
unfolding clamped_place RD o decimal round of_bits
returns-then-lat c = sym (cond_true _ _ c.if-lat.true)

pub returns-then-lat-2 : goal.returns-then-lat-2
unfolding clamped_place RD o decimal round of_bits neg
returns-then-lat-2 c = sym (cond_false _ _ c.if-lat.false ∙ cond_true _ _ c.if-lat-2.true)

pub returns-else-lat-2 : goal.returns-else-lat-2
unfolding clamped_place RD o decimal round of_bits neg
returns-else-lat-2 c = sym (cond_false _ _ c.if-lat.false ∙ cond_false _ _ c.if-lat-2.false)
