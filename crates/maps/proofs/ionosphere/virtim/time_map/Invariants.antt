-- `time_map` is `time_map_of`. The loop's invariant: that many pairs of rows are filled in. By its rule
-- the table has the place where the definition has the row's series start.
use Rattle.std.proofs.Common.{◌≡◌, ◌*◌}
use Rattle.base.specs.Fill.{fill}
use Rattle.maps.specs.Virtim.{wave_in, row_value}
use Rattle.maps.proofs.ionosphere.virtim.time_map.Given as goal

abbrev pub invariant-loop-pair : goal.invariant-loop-pair
invariant-loop-pair l = l.ab ≡ fill (row_value (wave_in l.c l.s) l.cof l.index.words.now l.k) l.first l.initial.ab (2 * l.pair)
