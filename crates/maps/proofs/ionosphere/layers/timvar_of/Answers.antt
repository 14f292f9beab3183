-- `timvar_of` composes its callees as the definition does.
use Rattle.maps.specs.Layers.{timvar_of}
use Rattle.maps.proofs.ionosphere.layers.timvar_of.Goals as goal

pub returns : goal.returns
unfolding timvar_of
returns c =
    rw (
      c.zenith-cycen.ensures,
      c.ssl_of.ensures,
      c.timvar_clck-clock.ensures,
      c.ssp_of-ssp.ensures,
    )
