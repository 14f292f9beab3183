-- A map's series, a term at a time: one term more, its narrowing, and that it takes the functions
-- up to its last term only. Assumes nothing.
use Rattle.std.proofs.Common.{◌≡◌, ℕ, zero, suc, ◌+◌, ◌-◌, ◌≤◌, List, get_or, refl, ap, ◌∙◌, arith, Float}
use lib.Ieee.{nan}
use Rattle.base.specs.Double.{◌⊕◌, ◌⊗◌}
use Rattle.base.specs.Number.{narrow_of}
use Rattle.maps.specs.Versy.{gamma_of, sum_of}

module _ (ab : List Float) (at : ℕ) (g : ℕ → Float) where
  pub sum_next :
      (k : ℕ) {s v x : Float} → 1 ≤ k → s ≡ sum_of ab at g (k - 1) → v ≡ narrow_of s → x ≡ get_or ab (at + k) nan →
      v ⊕ x ⊗ g k ≡ sum_of ab at g k
  unfolding sum_of
  sum_next zero h e d p = absurd (omega arith)
  sum_next (suc n) h e d p =
      let below : suc n - 1 ≡ n = omega arith in
      let q = d ∙ ap narrow_of (e ∙ ap (sum_of ab at g) below) in
      λ t. q t ⊕ p t ⊗ g (suc n)

  pub gamma_narrowed : (n : ℕ) → gamma_of ab at g n ≡ narrow_of (sum_of ab at g n)
  unfolding gamma_of sum_of
  gamma_narrowed zero = refl
  gamma_narrowed (suc n) = ap (λ (x : Float). narrow_of (x ⊕ get_or ab (at + suc n) nan ⊗ g (suc n))) (gamma_narrowed n)

  pub gamma_same : (h : ℕ → Float) (n : ℕ) → ((i : ℕ) → i ≤ n → g i ≡ h i) → gamma_of ab at g n ≡ gamma_of ab at h n
  unfolding gamma_of
  gamma_same h zero e = ap (λ (x : Float). narrow_of (x ⊗ get_or ab at nan)) (e 0 (omega arith))
  gamma_same h (suc n) e =
      let p = gamma_same h n (λ i l. e i (omega arith)) in
      let q = e (suc n) (omega arith) in
      λ t. narrow_of (p t ⊕ get_or ab (at + suc n) nan ⊗ q t)
