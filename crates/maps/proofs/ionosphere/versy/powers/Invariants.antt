-- `powers` fills in `sx_power`. The loop's invariant: the powers 1 to n - 1 stand in their places,
-- after 1.0, and the power is the n-th.
use Rattle.std.proofs.Common.{◌≡◌, ℕ, ◌+◌, ◌-◌, ◌≤◌, List, Float}
use Rattle.base.specs.Fill.{fill}
use Rattle.maps.specs.Versy.{sx_power}
use Rattle.maps.proofs.ionosphere.versy.powers.Given as goal

pub record Raised (sx : Float) (k : ℕ) (g₀ g : List Float) (power : Float) (n : ℕ) : Type 0 where
  pub first : 1 ≤ n
  pub turns : n ≤ k + 1
  pub next : power ≡ sx_power sx n
  pub is : g ≡ fill (λ i. sx_power sx (1 + i)) 1 g₀ (n - 1)

abbrev pub invariant-loop-n : goal.invariant-loop-n
invariant-loop-n l = Raised l.sx l.k l.initial.g l.g l.power l.n
