-- `f2_weights` is `f2_weights`: the literals are the definition's decimals, by computation.
use Rattle.std.proofs.Common.{refl}
use lib.Ieee.{round, of_bits}
use Rattle.base.specs.Single.{decimal}
use Rattle.base.specs.Blend.{f2_weights}
use Rattle.base.proofs.blend.f2_weights.Goals as goal

pub returns : goal.returns
unfolding f2_weights decimal round of_bits
returns c = refl
