-- `add_row` changes each of the first lm elements: the loop's invariant is that it has changed the
-- first j.
use Rattle.std.proofs.Common.{◌≡◌, ◌-◌, ◌≤◌}
use Rattle.base.specs.Single.{◌⊕◌, ◌⊗◌}
use Rattle.maps.specs.Noisy.{in_plane, each}
use Rattle.maps.proofs.ionosphere.noisy.add_row.Given as goal

abbrev pub invariant-loop-j : goal.invariant-loop-j
invariant-loop-j l = (l.j ≤ l.lm) × (l.zz ≡ each (λ i z. z ⊕ l.x ⊗ in_plane l.plane l.k i) l.initial.zz l.j)

abbrev pub decreases-loop-j : goal.decreases-loop-j
decreases-loop-j l = l.lm - l.j
