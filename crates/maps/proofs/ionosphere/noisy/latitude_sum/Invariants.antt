-- `latitude_sum` is `latitude_sum`. The loop's invariant: the sum is that of k columns, and v is the
-- turn k.
use Rattle.std.proofs.Common.{◌≡◌, get_or}
use lib.Ieee.{nan}
use Rattle.maps.specs.Noisy.{turn_of, latitude_sum}
use Rattle.maps.proofs.ionosphere.noisy.latitude_sum.Given as goal

abbrev pub invariant-loop-k : goal.invariant-loop-k
invariant-loop-k l =
    record {
      summed : l.sum ≡ latitude_sum (λ i. (turn_of l.angle.sine l.angle.cosine i).sine) (λ i. get_or l.zz i nan) l.k;
      sine : l.v.sine ≡ (turn_of l.angle.sine l.angle.cosine l.k).sine;
      cosine : l.v.cosine ≡ (turn_of l.angle.sine l.angle.cosine l.k).cosine;
    }
