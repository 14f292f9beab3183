-- `layers_there` is `layers_there`: the same calls as for a control point of a path are rewritten by
-- what they ensure.
use Rattle.std.proofs.Common.{refl}
use Rattle.maps.specs.Ionosphere.{layers_there}
use Rattle.maps.proofs.ionosphere.layers_there.Goals as goal

pub returns : goal.returns
unfolding layers_there
returns c =
    let b = c in
    rw (c.layer_parameters.ensures, b.point_at-pt.ensures, b.gammas_at-g.ensures, b.magvar-mag.ensures) refl
