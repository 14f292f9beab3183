-- `zenith` is its expression.
use Rattle.maps.specs.Layers.{zenith_of}
use Rattle.maps.proofs.ionosphere.layers.zenith.Goals as goal

pub returns : goal.returns
unfolding zenith_of
returns c =
    rw (
      c.acos32.ensures,
      c.cos32-3.ensures,
      c.cos32-2.ensures,
      c.cos32.ensures,
      c.sin32-2.ensures,
      c.sin32.ensures,
    )
