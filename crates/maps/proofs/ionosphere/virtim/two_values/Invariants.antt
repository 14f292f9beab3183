-- `two_values` gives two `value_of`. The loop's invariant: each value is that of the first ka
-- harmonics.
use Rattle.std.proofs.Common.{◌≡◌, ◌≤◌}
use Rattle.maps.specs.Virtim.{wave_in, value_of}
use Rattle.maps.proofs.ionosphere.virtim.two_values.Given as goal

abbrev pub invariant-loop-ka : goal.invariant-loop-ka
invariant-loop-ka l = (l.ka ≤ l.n) × (l.first ≡ value_of (wave_in l.c l.s) l.cof l.a l.ka) × (l.second ≡ value_of (wave_in l.c l.s) l.cof l.b l.ka)
