-- `columns` is `columns_of`. The loop's invariant: each column has the sum of its first k rows.
use Rattle.std.proofs.Common.{◌≡◌, arith, rules}
use lib.Ieee.{round, of_bits}
use Rattle.base.specs.Single.{decimal}
use Rattle.maps.proofs.sums.NoisySums.{rows_start, rows_turn, rows_end}
use Rattle.maps.proofs.ionosphere.noisy.columns.Goals as goal

pub loop-k-init : goal.loop-k-init
unfolding decimal round of_bits
loop-k-init c = let a = c.args in (search rules, rows_start a.sx.now a.plane.now a.lm c.requires.1)

pub loop-k-preserved : goal.loop-k-preserved
loop-k-preserved c =
    let k = c in
    let a = k.args in
    (search rules, rows_turn a.sx.now a.plane.now a.lm k.loop-k.k k.requires.1 k.loop-k.invariant.1 c.add_row.ensures)

pub returns : goal.returns
returns c =
    let k = c in
    let a = k.args in
    let e : k.loop-k.k ≡ a.ln = omega arith in
    rows_end a.sx.now a.plane.now a.lm a.ln k.requires.1 (rw e at k.loop-k.invariant.1) c.add_last.ensures
