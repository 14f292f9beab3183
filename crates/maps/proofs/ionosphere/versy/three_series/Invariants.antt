-- `three_series` gives three `gamma_of`. The loops' invariant: each sum that goes on has the terms before k.
use Rattle.std.proofs.Common.{◌≡◌, ◌-◌}
use Rattle.maps.specs.Versy.{elements, sum_of}
use Rattle.maps.proofs.ionosphere.versy.three_series.Given as goal

abbrev pub invariant-three : goal.invariant-three
invariant-three l =
    record {
      first : l.a ≡ sum_of l.x.ab.now l.x.start (elements l.x.g.now) (l.k - 1);
      second : l.b ≡ sum_of l.y.ab.now l.y.start (elements l.y.g.now) (l.k - 1);
      third : l.c ≡ sum_of l.z.ab.now l.z.start (elements l.z.g.now) (l.k - 1);
    }

abbrev pub invariant-two : goal.invariant-two
invariant-two l =
    record {
      first : l.a ≡ sum_of l.x.ab.now l.x.start (elements l.x.g.now) (l.k - 1);
      second : l.b ≡ sum_of l.y.ab.now l.y.start (elements l.y.g.now) (l.k - 1);
    }
