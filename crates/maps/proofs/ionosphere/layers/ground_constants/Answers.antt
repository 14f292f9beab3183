-- `ground_constants` brings the longitude into 0 to 360, where the arms of its branch meet, and
-- reads the map there.
use Rattle.std.proofs.Common.{◌≡◌, cond, sym}
use lib.Ieee.{lt, round, of_bits}
use Rattle.base.specs.Single.{◌⊕◌, decimal}
use Rattle.base.specs.Angle.{degrees_of}
use Rattle.maps.specs.Layers.{ground_of}
use Rattle.base.proofs.verdicts.Picks.{cond_true, cond_false}
use Rattle.maps.proofs.ionosphere.layers.ground_constants.Goals.{Joined-clgd, then-clgd, else-clgd}
use Rattle.maps.proofs.ionosphere.layers.ground_constants.Goals as goal

east : (c : Joined-clgd) → let clgd = (degrees_of c.args.east_lon).0 in c.if-clgd.clgd ≡ cond (lt clgd (decimal 0 1)) (clgd ⊕ decimal 3600 1) clgd
unfolding decimal round of_bits
east c =
    elim c.if-clgd.branch [ then-clgd w ↦ rw (w.clgd-is, c.to_degrees-clgd.ensures) (sym (cond_true _ _ (rw c.to_degrees-clgd.ensures at w.if-clgd.true))) | else-clgd w ↦ rw (w.clgd-is, c.to_degrees-clgd.ensures) (sym (cond_false _ _ (rw c.to_degrees-clgd.ensures at w.if-clgd.false))) ]

pub returns : goal.returns
unfolding ground_of
returns c = rw (c.ground_at.ensures, c.noisy.ensures, east (goal.at.returns c).Joined-clgd, c.to_degrees-rfltd.ensures)
