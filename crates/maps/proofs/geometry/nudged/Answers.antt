-- `nudged` moves the receiver where both differences are close; each arm rewrites with the tests
-- that led there.
use Rattle.std.proofs.Common.{sym, ◌∙◌}
use Rattle.maps.specs.Geometry.{nudged_of}
use Rattle.maps.proofs.geometry.nudged.Goals.{else-is_close-via-then-is_close+else-is_close-2, else-is_close-via-else-is_close}
use Rattle.maps.proofs.geometry.nudged.Goals as goal

pub returns-then-is_close-2 : goal.returns-then-is_close-2
unfolding nudged_of
returns-then-is_close-2 c =
    rw (
      sym c.is_close.ensures ∙ c.if-is_close.true,
      sym c.is_close-then-is_close.ensures ∙ c.if-is_close-2.true,
      c.nudge.ensures,
    )

pub returns-else-is_close : goal.returns-else-is_close
unfolding nudged_of
returns-else-is_close c =
    elim c.else-is_close.branch [
      | else-is_close-via-then-is_close+else-is_close-2 w ↦
          rw (sym c.is_close.ensures ∙ w.if-is_close.true, sym w.is_close-then-is_close.ensures ∙ w.if-is_close-2.false)
      | else-is_close-via-else-is_close w ↦ rw (sym c.is_close.ensures ∙ w.if-is_close.false)
    ]
