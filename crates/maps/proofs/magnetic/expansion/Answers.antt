-- `expansion` is `expansion_of`. The loop's invariant: the two tables and the sums are what the loop
-- of the definition has at n.
use Rattle.std.proofs.Common.{◌≡◌, ap, arith, rules}
use lib.Ieee.{round, of_bits}
use Rattle.base.specs.Single.{decimal}
use Rattle.maps.specs.declared.magnetic.Field.{Field}
use Rattle.maps.specs.Magnetic.{o, State, degree_of, expansion_of}
use Rattle.maps.proofs.lists.Loops.{loop_start, loop_turn}
use Rattle.maps.proofs.magnetic.expansion.Goals as goal

pub loop-n-init : goal.loop-n-init
loop-n-init c = (search rules, search rules, loop_start 1 _ _)

pub loop-n-preserved : goal.loop-n-preserved
loop-n-preserved c =
    let k = c.loop-n in
    (search rules, search rules, loop_turn 1 (degree_of c.args.x) _ k.n k.invariant.0 k.invariant.2 c.degree-b.ensures)

pub returns : goal.returns
unfolding expansion_of o decimal round of_bits
returns c =
    let e : c.loop-n.n ≡ 7 = omega arith in
    ap (λ (w : State Field). w.sums) (rw e at c.loop-n.invariant.2)
