-- `point_count` picks by 2000.01 and 4000.0, in the Rust's digits.
use Rattle.std.proofs.Common.{sym, ◌∙◌}
use lib.Ieee.{round, of_bits}
use Rattle.base.specs.Single.{decimal}
use Rattle.maps.specs.Geometry.{count_of}
use Rattle.base.proofs.verdicts.Picks.{cond_true, cond_false}
use Rattle.maps.proofs.geometry.point_count.Goals as goal

pub returns-then-gcd_km : goal.returns-then-gcd_km
unfolding count_of decimal round of_bits
returns-then-gcd_km c = sym (cond_true _ _ c.if-gcd_km.true)

pub returns-then-gcd_km-2 : goal.returns-then-gcd_km-2
unfolding count_of decimal round of_bits
returns-then-gcd_km-2 c = sym (cond_false _ _ c.if-gcd_km.false ∙ cond_true _ _ c.if-gcd_km-2.true)

pub returns-else-gcd_km-2 : goal.returns-else-gcd_km-2
unfolding count_of decimal round of_bits
returns-else-gcd_km-2 c = sym (cond_false _ _ c.if-gcd_km.false ∙ cond_false _ _ c.if-gcd_km-2.false)
