-- `noisy_sum` is the latitude series over the columns: of the two arrays the series take what was
-- filled.
use Rattle.std.proofs.Common.{ap, Float}
use Rattle.base.specs.Single.{◌⊕◌, ◌⊗◌}
use Rattle.maps.proofs.sums.NoisySums.{latitude_of_law}
use Rattle.maps.proofs.ionosphere.noisy.noisy_sum.Goals as goal

pub returns : goal.returns
returns c =
    let a = c.args in
    rw (c.latitude_sum.ensures, c.columns-zz.ensures, c.sines.ensures)
    (ap (λ (x : Float). x ⊕ a.alf ⊕ a.bet ⊗ a.p) (latitude_of_law _ _ a.plane.now a.ln a.lm c.requires.1 c.requires.0 _))
