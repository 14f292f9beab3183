-- `rung` fills in `rung_of`. The loop's invariant: the places before k are filled, an even number of
-- them, and the cosine and the sine are the next two.
use Rattle.std.proofs.Common.{◌≡◌, ℕ, ◌+◌, ◌-◌, ◌/◌, ◌%◌, ◌≤◌, List, Float}
use Rattle.base.specs.Fill.{fill}
use Rattle.maps.specs.Versy.{raised, rung_of}
use Rattle.maps.proofs.ionosphere.versy.rung.Given as goal

pub record Made (sx c s : Float) (below end : ℕ) (g₀ g : List Float) (cosine sine : Float) (k : ℕ) : Type 0 where
  pub low : below + 1 ≤ k
  pub high : k ≤ end + 1
  pub even : (k - below - 1) % 2 ≡ 0
  pub cos : cosine ≡ raised sx ((k - below - 1) / 2) c
  pub sin : sine ≡ raised sx ((k - below - 1) / 2) s
  pub is : g ≡ fill (rung_of sx c s) (below + 1) g₀ (k - below - 1)

abbrev pub invariant-loop-k : goal.invariant-loop-k
invariant-loop-k l = Made l.sx l.c l.s l.below l.end l.initial.g l.g l.cosine l.sine l.k

abbrev pub decreases-loop-k : goal.decreases-loop-k
decreases-loop-k l = l.end + 1 - l.k
