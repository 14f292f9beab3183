-- `gammas_at` is `gammas_at`: the place's east longitude and cosine, and the maps there, by what the
-- calls ensure.
use Rattle.std.proofs.Common.{refl}
use Rattle.maps.specs.Ionosphere.{gammas_at}
use Rattle.maps.proofs.ionosphere.gammas_at.Goals as goal

pub returns : goal.returns
unfolding gammas_at
returns c = rw (c.versy.ensures, c.cos32.ensures, c.east-clg.ensures) refl
