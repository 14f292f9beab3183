-- `at_least_minimum` picks by one test against 0.000001, in the Rust's digits.
use Rattle.std.proofs.Common.{sym}
use lib.Ieee.{round, of_bits}
use Rattle.base.specs.Single.{decimal}
use Rattle.maps.specs.Geometry.{at_least_minimum}
use Rattle.base.proofs.verdicts.Picks.{cond_true, cond_false}
use Rattle.maps.proofs.geometry.at_least_minimum.Goals as goal

pub returns-then-gcd : goal.returns-then-gcd
unfolding at_least_minimum decimal round of_bits
returns-then-gcd c = sym (cond_true _ _ c.if-gcd.true)

pub returns-else-gcd : goal.returns-else-gcd
unfolding at_least_minimum decimal round of_bits
returns-else-gcd c = sym (cond_false _ _ c.if-gcd.false)
