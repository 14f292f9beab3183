-- `add_last` changes each of the first lm elements: the loop's invariant is that it has changed the
-- first j.
use Rattle.std.proofs.Common.{◌≡◌, refl, arith, rules}
use Rattle.base.specs.Single.{◌⊕◌}
use Rattle.base.specs.Fill.{fill}
use Rattle.maps.specs.Noisy.{in_plane, each}
use Rattle.maps.proofs.lists.Refills.{each_turn}
use Rattle.maps.proofs.ionosphere.noisy.add_last.Goals as goal

pub loop-j-init : goal.loop-j-init
unfolding each fill
loop-j-init c = (search rules, refl)

pub loop-j-preserved : goal.loop-j-preserved
loop-j-preserved c =
    let k = c.loop-j in
    let a = c.args in
    (search rules, each_turn (λ i z. z ⊕ in_plane a.plane.now 15 i) _ k.j k.invariant.1)

pub returns : goal.returns
returns c = let e : c.loop-j.j ≡ c.args.lm = omega arith in rw e at c.loop-j.invariant.1
