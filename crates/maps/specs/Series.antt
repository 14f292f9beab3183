-- CCIR Report 340: a map's value at a place and an hour; j counts the geographic functions, h the
-- harmonics of the day,
--     Omega(place, T) = sum over j = 0 .. n of D_j(T) G_j(place)
--     D_j(T) = U_{0,j} + sum over h = 1 .. H of (U_{2h-1,j} sin hT + U_{2h,j} cos hT)
-- T is the hour's angle (`time_of`), the U_{s,j} are the map's coefficients at the sunspot number
-- (`coefficient_of`), the D_j its daily series (`daily_of`), the G_j its geographic functions
-- (`geographic_of`), and n and H are words 8 and 9 of its index. Assumes nothing.
use Rattle.std.specs.Prelude.{ℕ, zero, suc, Float}
use Rattle.base.specs.Double.{◌⊕◌, ◌⊗◌}
use Rattle.base.specs.Number.{narrow_of}
use Rattle.base.specs.Elementary.{sin_of}
use Rattle.maps.specs.Virtim.{hour_wave, daily_of}
use Rattle.maps.specs.Versy.{geographic_of}

-- the sum of the D_j G_j up to j = n, as the Rust adds: the first alone, then each addition in f64,
-- narrowed to f32 at once
unfoldable pub map_series_of : (ℕ → Float) → (ℕ → Float) → ℕ → Float
map_series_of d g zero = narrow_of (g 0 ⊗ d 0)
map_series_of d g (suc n) = narrow_of (map_series_of d g n ⊕ d (suc n) ⊗ g (suc n))

-- Omega: u s j is U_{s,j}, w are the words of the map's index; x, clg and gob as `versy` has them
unfoldable pub omega_of : (ℕ → ℕ → Float) → (ℕ → ℕ) → Float → Float → Float → Float → Float
omega_of u w gmt x clg gob =
    map_series_of (λ j. daily_of (hour_wave gmt) (λ s. u s j) (w 9)) (geographic_of w (sin_of x) gob clg) (w 8)
