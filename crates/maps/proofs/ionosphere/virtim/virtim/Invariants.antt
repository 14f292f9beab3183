-- `virtim` is `virtim_of`. The loop's invariant: AB is what the loop of the definition has at k, and
-- the table that is lent keeps its rule, which is computed here over all of its entries. The arrays
-- of cosines and sines hold the waves that the definition takes, as far as a map's harmonics go.
use Rattle.std.proofs.Common.{◌≡◌, ◌≤◌}
use Rattle.maps.specs.Loop.{loop}
use Rattle.maps.specs.Virtim.{hour_wave, time_map_of}
use Rattle.maps.proofs.ionosphere.virtim.virtim.Given as goal

abbrev pub invariant-loop-k : goal.invariant-loop-k
invariant-loop-k l = (l.k ≤ 6) × (l.ab ≡ loop 0 l.k (time_map_of (hour_wave l.gmt) l.cof l.index.words.now) l.initial.ab)
