-- `multiples_of` is `multiples_of`. The loop's invariant: `v` is what the loop of the definition has
-- at m.
use Rattle.std.proofs.Common.{◌≡◌, arith, rules}
use lib.Ieee.{round, of_bits}
use Rattle.base.specs.Single.{decimal}
use Rattle.maps.specs.Magnetic.{o, multiple_of, multiples_of}
use Rattle.maps.proofs.lists.Loops.{loop_start, loop_turn}
use Rattle.maps.proofs.magnetic.multiples_of.Goals as goal

pub loop-m-init : goal.loop-m-init
loop-m-init c = (search rules, search rules, loop_start 2 multiple_of _)

pub loop-m-preserved : goal.loop-m-preserved
loop-m-preserved c =
    let k = c.loop-m in
    (search rules, search rules, loop_turn 2 multiple_of _ k.m k.invariant.0 k.invariant.2 c.multiple-v.ensures)

pub returns : goal.returns
unfolding multiples_of o decimal round of_bits
returns c =
    let e : c.loop-m.m ≡ 7 = omega arith in
    rw (e, c.cos32.ensures, c.sin32.ensures) at c.loop-m.invariant.2
