-- `blend` fills the buffer from `base` on with `blend_at`, by the loop's invariant that i elements
-- are filled: both words of a turn are those of the definition.
use Rattle.std.proofs.Common.{◌≡◌}
use Rattle.base.specs.Fill.{fill}
use Rattle.base.specs.Blend.{blend_at}
use Rattle.base.proofs.blend.blend.Given as goal

abbrev pub invariant-loop-i : goal.invariant-loop-i
invariant-loop-i l = (l.out ≡ fill (blend_at l.s l.at l.width l.w) l.base l.initial.out l.i)
