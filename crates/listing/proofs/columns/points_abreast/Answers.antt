-- `points_abreast` is `abreast`, by whether the count is below five.
use Rattle.std.proofs.Common.{lt-ltb, le-ltb, sym, arith}
use Rattle.base.proofs.verdicts.Picks.{cond_true, cond_false}
use Rattle.listing.specs.Columns.{abreast}
use Rattle.listing.proofs.columns.points_abreast.Goals as goal

pub returns-then-count-lt5 : goal.returns-then-count-lt5
unfolding abreast
returns-then-count-lt5 c = record { answer = sym (cond_true _ _ (lt-ltb _ _ c.if-count-lt5.true)); bound = omega arith }

pub returns-else-count-lt5 : goal.returns-else-count-lt5
unfolding abreast
returns-else-count-lt5 c = record { answer = sym (cond_false _ _ (le-ltb _ _ c.if-count-lt5.false)); bound = omega arith }
