-- `sines` is `sx_of`. The loop's invariant: the first k sines are filled, and v is the turn k.
use Rattle.std.proofs.Common.{◌≡◌, refl, add-one, arith}
use lib.Ieee.{round, of_bits}
use Rattle.base.specs.Single.{decimal}
use Rattle.base.specs.Fill.{fill}
use Rattle.maps.specs.Noisy.{turn_of, sx_of}
use Rattle.maps.proofs.lists.Refills.{fill_turn}
use Rattle.maps.proofs.ionosphere.noisy.sines.Goals as goal

pub loop-k-init : goal.loop-k-init
unfolding fill turn_of
loop-k-init c = record { filled = refl; sine = refl; cosine = refl }

pub loop-k-preserved : goal.loop-k-preserved
unfolding turn_of
loop-k-preserved c =
    let l = c.loop-k in
    let a = c.args.angle in
    let v = l.invariant in
    record {
      filled = fill_turn (λ i. (turn_of a.sine a.cosine i).sine) _ l.k v.filled v.sine;
      sine = rw (add-one, c.plus-v.ensures.sine, v.sine, v.cosine);
      cosine = rw (add-one, c.plus-v.ensures.cosine, v.sine, v.cosine);
    }

pub returns : goal.returns
unfolding sx_of decimal round of_bits
returns c = let e : c.loop-k.k ≡ c.args.n = omega arith in rw e at c.loop-k.invariant.filled
