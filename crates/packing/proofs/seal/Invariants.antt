-- `seal` makes the buffer the year file of the parts that lie in it. The loop's invariant: the pairs
-- of the first k parts are written, and the part k starts at `at`; starts rise up to the file's end.
use Rattle.std.proofs.Common.{◌≡◌}
use Rattle.packing.specs.Pack.{start_in}
use Rattle.packing.proofs.pairs.Written.{begun}
use Rattle.packing.proofs.seal.Given as goal

abbrev pub invariant-loop-k : goal.invariant-loop-k
invariant-loop-k l = (l.at ≡ start_in 112 l.sizes l.k) × (l.year ≡ begun l.sizes l.initial.year l.k)
