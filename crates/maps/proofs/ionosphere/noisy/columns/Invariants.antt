-- `columns` is `columns_of`. The loop's invariant: each column has the sum of its first k rows.
use Rattle.std.proofs.Common.{◌≡◌, ◌-◌, ◌≤◌}
use Rattle.maps.proofs.sums.NoisySums.{rows_in}
use Rattle.maps.proofs.ionosphere.noisy.columns.Given as goal

abbrev pub invariant-loop-k : goal.invariant-loop-k
invariant-loop-k l = (l.k ≤ l.ln) × (l.zz ≡ rows_in l.sx l.plane l.lm l.k)

abbrev pub decreases-loop-k : goal.decreases-loop-k
decreases-loop-k l = l.ln - l.k
