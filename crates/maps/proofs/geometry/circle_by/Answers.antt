-- `circle_by` hands `dlong` and `gcd`, with its sine and cosine, to both bearings.
use lib.Ieee.{round, of_bits}
use Rattle.base.specs.Single.{decimal}
use Rattle.maps.specs.Geometry.{circle_of}
use Rattle.maps.proofs.geometry.circle_by.Goals as goal

pub returns : goal.returns
unfolding circle_of decimal round of_bits
returns c =
    rw (
      c.other_way-2.ensures,
      c.other_way.ensures,
      c.from_north-brt.ensures,
      c.from_north-btr.ensures,
      c.cos32-gcd_cos.ensures,
      c.sin32-gcd_sin.ensures,
      c.distance-gcd.ensures,
      c.longitude_between-dlong.ensures,
    )
