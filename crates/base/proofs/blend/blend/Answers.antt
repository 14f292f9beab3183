-- `blend` fills the buffer from `base` on with `blend_at`, by the loop's invariant that i elements
-- are filled: both words of a turn are those of the definition.
use Rattle.std.proofs.Common.{sym, refl}
use Rattle.base.specs.Fill.{fill}
use Rattle.base.specs.Blend.{blend_at}
use Rattle.base.proofs.lists.Fills.{fill_next}
use Rattle.base.proofs.blend.blend.Goals as goal

pub loop-i-init : goal.loop-i-init
unfolding fill
loop-i-init c = refl

pub loop-i-preserved : goal.loop-i-preserved
unfolding blend_at
loop-i-preserved c =
    rw (c.blended.ensures, c.finite_word-x1.ensures, c.finite_word-x0.ensures, c.loop-i.invariant) (sym (fill_next _ _ _ _))
