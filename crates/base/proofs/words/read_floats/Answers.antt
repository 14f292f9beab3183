-- `read_floats` fills the array with the floats. The loop's invariant: the first i are filled.
use Rattle.std.proofs.Common.{sym, refl, arith}
use Rattle.base.specs.Fill.{fill}
use Rattle.base.proofs.lists.Fills.{fill_first, filled}
use Rattle.base.proofs.words.read_floats.Goals as goal

pub loop-i-init : goal.loop-i-init
unfolding fill
loop-i-init c = refl

pub loop-i-preserved : goal.loop-i-preserved
loop-i-preserved c =
    rw (c.finite_word.ensures, c.loop-i.invariant) (sym (fill_first _ _ _))

pub returns : goal.returns
returns c = filled _ _ c.loop-i.invariant (omega arith)
