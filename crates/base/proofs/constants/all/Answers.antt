-- `all` is `constants`: each of the nine is the float nearest to its decimal, by computation over
-- the whole list.
use Rattle.std.proofs.Common.{refl}
use lib.Ieee.{round, of_bits}
use Rattle.base.specs.Single.{decimal}
use Rattle.base.specs.Constants.{D2R, R2D, PI, PI2, PIO2, RZ, VOFL, GAMA, DCL}
use Rattle.base.proofs.constants.all.Goals as goal

pub returns : goal.returns
unfolding D2R R2D PI PI2 PIO2 RZ VOFL GAMA DCL decimal round of_bits
returns c = refl
