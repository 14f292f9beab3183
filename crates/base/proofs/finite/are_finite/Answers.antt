-- `are_finite` is `all_finite`, by the loop's invariant that the sums gathered so far stay below the
-- sign's bit exactly where the words so far are finite.
use Rattle.std.proofs.Common.{refl}
use Rattle.base.specs.Finite.{all_finite}
use Rattle.base.proofs.layout.FirstWords.{all_next}
use Rattle.base.proofs.finite.are_finite.Goals as goal

pub loop-i-init : goal.loop-i-init
unfolding all_finite
loop-i-init c = refl

pub loop-i-preserved : goal.loop-i-preserved
loop-i-preserved c = all_next _ _ _ c.loop-i.seen _ c.loop-i.invariant c.whole_word.ensures
