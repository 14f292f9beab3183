-- `sines` is `sx_of`. The loop's invariant: the first k sines are filled, and v is the turn k.
use Rattle.std.proofs.Common.{◌≡◌}
use Rattle.base.specs.Fill.{fill}
use Rattle.maps.specs.Noisy.{turn_of}
use Rattle.maps.proofs.ionosphere.noisy.sines.Given as goal

abbrev pub invariant-loop-k : goal.invariant-loop-k
invariant-loop-k l =
    record {
      filled : l.sx ≡ fill (λ i. (turn_of l.angle.sine l.angle.cosine i).sine) 0 l.initial.sx l.k;
      sine : l.v.sine ≡ (turn_of l.angle.sine l.angle.cosine l.k).sine;
      cosine : l.v.cosine ≡ (turn_of l.angle.sine l.angle.cosine l.k).cosine;
    }
