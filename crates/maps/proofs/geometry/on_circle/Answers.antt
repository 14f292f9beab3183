-- `on_circle` hands the sine and the cosine of the new latitude on, which the definition's place
-- has again.
use Rattle.maps.specs.Geometry.{place_of, on_circle}
use Rattle.maps.proofs.geometry.on_circle.Goals as goal

pub returns : goal.returns
unfolding place_of on_circle
returns c =
    rw (
      c.circle_longitude-rflg.ensures,
      c.cos32-cos.ensures,
      c.sin32-sin.ensures,
      c.latitude-rflt.ensures,
      c.sin32.ensures,
      c.cos32-drf_cos.ensures,
    )
