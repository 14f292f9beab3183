-- `layer_parameters` composes its callees as the definition does.
use lib.Ieee.{round, of_bits}
use Rattle.base.specs.Single.{decimal}
use Rattle.maps.specs.Layers.{layers_of}
use Rattle.maps.proofs.ionosphere.layers.layer_parameters.Goals as goal

pub returns : goal.returns
unfolding layers_of decimal round of_bits
returns c =
    rw (
      c.retarded-w.ensures,
      c.e_retardation-ret.ensures,
      c.below_f2-f1.ensures,
      c.abiy_of-abiy.ensures,
      c.rat_of-rat.ensures,
      c.ef1_of-v.ensures,
      c.timvar_of-t.ensures,
    )
