-- `powers` fills in `sx_power`. The loop's invariant: the powers 1 to n - 1 stand in their places,
-- after 1.0, and the power is the n-th.
use Rattle.std.proofs.Common.{◌≡◌, ℕ, zero, suc, ◌+◌, ◌-◌, ◌<◌, ◌≤◌, List, set, sym, refl, ap, ◌∙◌, add-one, arith, rules, Float}
use lib.Ieee.{round, of_bits}
use Rattle.base.specs.Double.{◌⊗◌, fraction}
use Rattle.base.specs.Fill.{fill}
use Rattle.maps.specs.Versy.{sx_power}
use Rattle.maps.proofs.sums.GeographicFunctions.{fill_then, fill_more}
use Rattle.maps.proofs.ionosphere.versy.powers.Invariants.{Raised}
use Rattle.maps.proofs.ionosphere.versy.powers.Goals as goal

power_next : (sx : Float) (n : ℕ) → 1 ≤ n → sx ⊗ sx_power sx n ≡ sx_power sx (n + 1)
unfolding sx_power
power_next sx zero h = absurd (omega arith)
power_next sx (suc n) h = sym (ap (sx_power sx) (add-one (suc n)))

again :
    (sx : Float) (k : ℕ) (g₀ g : List Float) (power : Float) (n : ℕ) → Raised sx k g₀ g power n → n < k + 1 →
    Raised sx k g₀ (set g n power) (sx ⊗ power) (n + 1)
again sx k g₀ g power n v h =
    let l = v.first in
    let e : 1 + (n - 1) ≡ n = omega arith in
    let d : n - 1 + 1 ≡ n + 1 - 1 = omega arith in
    record {
      first = omega arith;
      turns = omega arith;
      next = ap (λ (x : Float). sx ⊗ x) v.next ∙ power_next sx n l;
      is =
          fill_then (λ i. sx_power sx (1 + i)) 1 g₀ (n - 1) n v.is e (v.next ∙ ap (sx_power sx) (sym e))
          ∙ ap (fill (λ i. sx_power sx (1 + i)) 1 g₀) d;
    }

-- with the first of them, 1.0
all : (sx : Float) (k : ℕ) (g g₁ : List Float) (power : Float) (n : ℕ) → Raised sx k (set g 0 (fraction 1 1)) g₁ power n → k + 1 ≤ n → g₁ ≡ fill (sx_power sx) 0 g (k + 1)
unfolding fill sx_power
all sx k g g₁ power n v h =
    let l = v.turns in
    let e : n - 1 ≡ k = omega arith in
    let d : 1 + k ≡ k + 1 = omega arith in
    v.is
    ∙ ap (fill (λ i. sx_power sx (1 + i)) 1 (set g 0 (fraction 1 1))) e
    ∙ sym (fill_more (sx_power sx) 0 g 1 k)
    ∙ ap (fill (sx_power sx) 0 g) d

pub loop-n-init : goal.loop-n-init
unfolding sx_power fill
loop-n-init c = record { first = search rules; turns = search rules; next = refl; is = refl }

pub loop-n-preserved : goal.loop-n-preserved
loop-n-preserved c = again _ _ _ _ _ _ c.loop-n.invariant c.loop-n-test.true

pub returns : goal.returns
unfolding fraction round of_bits
returns c = all _ _ _ _ _ _ c.loop-n.invariant c.loop-n-test.false
