-- `for_loop` is `for_loop`: the two arms of its branch meet in the time that is raised or not.
use Rattle.std.proofs.Common.{◌≡◌, cond, sym}
use lib.Ieee.{lt, of_bits, round}
use Rattle.base.specs.Single.{◌⊕◌, ◌⊖◌, ◌⊗◌, decimal}
use Rattle.base.proofs.verdicts.Picks.{cond_true, cond_false}
use Rattle.maps.specs.Clocks.{for_loop}
use Rattle.maps.proofs.ionosphere.clocks.for_loop.Goals.{Joined-time, then-time, else-time}
use Rattle.maps.proofs.ionosphere.clocks.for_loop.Goals as goal

raised : (c : Joined-time) → let time = c.args.time in c.if-time.raised ≡ cond (lt time (decimal 0 1)) (time ⊕ decimal 240 1) time
unfolding decimal round of_bits
raised c = elim c.if-time.branch [ then-time w ↦ rw w.raised-is (sym (cond_true _ _ w.if-time.true)) | else-time w ↦ rw w.raised-is (sym (cond_false _ _ w.if-time.false)) ]

pub returns : goal.returns
unfolding for_loop decimal round of_bits
returns c = let p = raised (goal.at.returns c).Joined-time in let q = c.whole_of-fint2.ensures in λ t. p t ⊖ q t ⊗ decimal 240 1
