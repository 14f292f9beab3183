-- `path_geometry` composes its callees as the definition does.
use lib.Ieee.{round, of_bits}
use Rattle.base.specs.Single.{decimal}
use Rattle.base.specs.Constants.{RZ}
use Rattle.maps.specs.Geometry.{track_of, path_of}
use Rattle.maps.proofs.geometry.path_geometry.Goals as goal

pub returns : goal.returns
unfolding path_of track_of RZ decimal round of_bits
returns c =
    rw (
      c.rows-points.ensures,
      c.pole_place.ensures,
      c.cos32.ensures,
      c.point_count-count.ensures,
      c.circle_by-c.ensures,
      c.end-rx.ensures,
      c.end-tx.ensures,
      c.nudged-rlatd.ensures,
    )
