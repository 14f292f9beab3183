-- A list filled from a place on with the values of a function, and those values as a list of their
-- own. Assumes nothing.
use Rattle.std.specs.Prelude.{ℕ, zero, suc, ◌+◌, List, [], ◌∷◌, ◌++◌, slice_set}

module _ {A : Type 0} where
  -- l with f 0 .. f (n - 1) from `base` on
  unfoldable pub fill : (ℕ → A) → ℕ → List A → ℕ → List A
  fill f base l zero = l
  fill f base l (suc n) = slice_set (fill f base l n) (base + n) (f n)

  -- f 0 .. f (n - 1)
  unfoldable pub tabulate : (ℕ → A) → ℕ → List A
  tabulate f zero = []
  tabulate f (suc n) = tabulate f n ++ (f n ∷ [])
