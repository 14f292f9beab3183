-- `finished` is `gamma_of`. The loop's invariant: gamma is the sum of the terms before k, before it is
-- narrowed.
use Rattle.std.proofs.Common.{◌≡◌, ◌-◌}
use Rattle.maps.specs.Versy.{elements, sum_of}
use Rattle.maps.proofs.ionosphere.versy.Series.finished.Given as goal

abbrev pub invariant-loop-k : goal.invariant-loop-k
invariant-loop-k l = l.gamma ≡ sum_of l.self.ab.now l.self.start (elements l.self.g.now) (l.k - 1)
