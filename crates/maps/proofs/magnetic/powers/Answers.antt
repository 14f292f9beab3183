-- `powers` is `powers_of`. The loop's invariant: `aor` is what the loop of the definition has at m.
use Rattle.std.proofs.Common.{◌≡◌, refl, arith, rules}
use lib.Ieee.{round, of_bits}
use Rattle.base.specs.Single.{decimal}
use Rattle.maps.specs.Magnetic.{o, aor_step, powers_of}
use Rattle.maps.proofs.lists.Loops.{loop_start, loop_turn}
use Rattle.maps.proofs.magnetic.powers.Goals as goal

pub loop-m-init : goal.loop-m-init
loop-m-init c = (search rules, search rules, loop_start 2 (aor_step c.args.ar) _)

pub loop-m-preserved : goal.loop-m-preserved
unfolding aor_step
loop-m-preserved c =
    let k = c.loop-m in
    let ar = c.args.ar in
    (search rules, search rules, loop_turn 2 (aor_step ar) _ k.m k.invariant.0 k.invariant.2 refl)

pub returns : goal.returns
unfolding powers_of o decimal round of_bits
returns c = let e : c.loop-m.m ≡ 7 = omega arith in rw e at c.loop-m.invariant.2
