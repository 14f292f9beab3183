-- `ef1_of` hands one zenith angle, its cosine and one `zenmax` to both layers and on.
use Rattle.maps.specs.Layers.{ef1_of}
use Rattle.maps.proofs.ionosphere.layers.ef1_of.Goals as goal

pub returns : goal.returns
unfolding ef1_of
returns c =
    rw (
      c.f1_layer.ensures,
      c.e_layer.ensures,
      c.cos32-cosdi.ensures,
      c.cos32-cosz.ensures,
      c.to_degrees-zdeg.ensures,
      c.abs32-cycen.ensures,
    )
