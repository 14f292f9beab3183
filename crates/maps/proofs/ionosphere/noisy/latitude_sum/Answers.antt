-- `latitude_sum` is `latitude_sum`. The loop's invariant: the sum is that of k columns, and v is the
-- turn k.
use Rattle.std.proofs.Common.{◌≡◌, refl, add-one, arith}
use lib.Ieee.{round, of_bits}
use Rattle.base.specs.Single.{decimal}
use Rattle.maps.specs.Noisy.{turn_of, latitude_sum}
use Rattle.maps.proofs.ionosphere.noisy.latitude_sum.Goals as goal

pub loop-k-init : goal.loop-k-init
unfolding latitude_sum turn_of decimal round of_bits
loop-k-init c = record { summed = refl; sine = refl; cosine = refl }

pub loop-k-preserved : goal.loop-k-preserved
unfolding latitude_sum turn_of
loop-k-preserved c =
    let v = c.loop-k.invariant in
    record {
      summed = rw (add-one, v.summed, v.sine);
      sine = rw (add-one, c.plus-v.ensures.sine, v.sine, v.cosine);
      cosine = rw (add-one, c.plus-v.ensures.cosine, v.sine, v.cosine);
    }

pub returns : goal.returns
returns c = let e : c.loop-k.k ≡ c.args.n = omega arith in rw e at c.loop-k.invariant.summed
