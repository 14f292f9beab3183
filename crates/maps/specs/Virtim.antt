-- `virtim` of ionosphere.rs: every map's daily series worked out at an hour, 2,604 coefficients to
-- 318. Maps are counted from 0 here. Assumes nothing.
use Rattle.std.specs.Prelude.{◌≡◌, ℕ, zero, suc, ◌+◌, ◌-◌, ◌*◌, ◌<◌, List, get_or, replicate, slice_index, slice_index_or, Float}
use Rattle.std.specs.Float.{nan}
use Rattle.base.specs.declared.angle.Radians.{Radians}
use Rattle.base.specs.Single.{◌⊕◌, ◌⊖◌, ◌⊗◌, decimal}
use Rattle.base.specs.Angle.{radians_of}
use Rattle.base.specs.Elementary.{sin32_of, cos32_of}
use Rattle.base.specs.Fill.{fill, tabulate}
use Rattle.base.specs.Index.{map_word, rows, harmonics, GoodIndex}
use Rattle.base.specs.Blend.{IA, IB, IC}
use Rattle.maps.specs.declared.ionosphere.virtim.Waves.{Waves}
use Rattle.maps.specs.Loop.{loop}

-- every map of the index table passed the index check
abbrev pub GoodTable : List ℕ → Type 0
GoodTable index = (k : ℕ) → k < 6 → GoodIndex (map_word index k) (slice_index rows k) (slice_index harmonics k)

-- time = (15.0 * gmt - 180.0) * D2R
unfoldable pub time_of : Float → Radians
time_of gmt = radians_of (record { 0 = decimal 150 1 ⊗ gmt ⊖ decimal 1800 1 })

-- c[jb] and s[jb], from c[0] and s[0]
pub record Wave : Type 0 where
  pub c : Float
  pub s : Float

unfoldable pub wave_of : Float → Float → ℕ → Wave
wave_of c s zero = record { c = c; s = s }
wave_of c s (suc jb) =
    let v = wave_of c s jb in
    record { c = c ⊗ v.c ⊖ s ⊗ v.s; s = c ⊗ v.s ⊕ s ⊗ v.c }

-- of an hour: c[0] is time.cos(), and s[0] is time.sin()
unfoldable pub hour_wave : Float → ℕ → Wave
hour_wave gmt jb = let time = (time_of gmt).0 in wave_of (cos32_of time) (sin32_of time) jb

-- `value` after ka harmonics: cof[at], then value + s[ka] * cof[at + 2 * ka + 1] + c[ka] * cof[at +
-- 2 * ka + 2]
unfoldable pub value_of : (ℕ → Wave) → List Float → ℕ → ℕ → Float
value_of v cof at zero = slice_index_or cof at nan
value_of v cof at (suc ka) =
    value_of v cof at ka ⊕ (v ka).s ⊗ get_or cof (at + 2 * ka + 1) nan ⊕ (v ka).c ⊗ get_or cof (at + 2 * ka + 2) nan

-- D(T) = U_0 + sum over h = 1 .. n of (U_{2h-1} sin hT + U_{2h} cos hT): u are a row's
-- coefficients, v (h - 1) has cos hT and sin hT
unfoldable pub daily_of : (ℕ → Wave) → (ℕ → Float) → ℕ → Float
daily_of v u zero = u 0
daily_of v u (suc n) = daily_of v u n ⊕ (v n).s ⊗ u (2 * n + 1) ⊕ (v n).c ⊗ u (2 * n + 2)

-- U_{s,j} of the map k where it stands in COFION
abbrev pub coefficient_in : List Float → ℕ → ℕ → ℕ → Float
coefficient_in cof k s j = slice_index_or cof (slice_index IA k - 1 + j * slice_index IB k + s) nan

-- the value of the row j of the map iz: its coefficients start at IA + j * IB, and word 9 is its
-- number of harmonics
unfoldable pub row_value : (ℕ → Wave) → List Float → List ℕ → ℕ → ℕ → Float
row_value v cof index iz j = value_of v cof (slice_index IA iz - 1 + j * slice_index IB iz) (map_word index iz 9)

-- Document 02, request 05: the rule of the table of series starts. At the place in AB of the row j
-- of the map k it has the place in COFION of the row's first coefficient. Maps, rows and places are
-- counted from 0, as IA and IC are not.
pub record StartsRule (starts : List ℕ) : Type 0 where
  pub at :
      (k j : ℕ) → k < 6 → j < slice_index rows k → slice_index starts (slice_index IC k - 1 + j) ≡ slice_index IA k - 1 + j * slice_index IB k

-- a map's rows 0 to word 8, put into AB from IC on
unfoldable pub time_map_of : (ℕ → Wave) → List Float → List ℕ → ℕ → List Float → List Float
time_map_of v cof index iz ab = fill (row_value v cof index iz) (slice_index IC iz - 1) ab (map_word index iz 8 + 1)

-- for each map the rows 0 to word 8 are put into AB from IC on; the other numbers of AB are 0.0
unfoldable pub virtim_of : List Float → List ℕ → Float → List Float
virtim_of cof index gmt =
    loop 0 6 (time_map_of (hour_wave gmt) cof index) (replicate 318 (decimal 0 1))

-- ---- on the way: nothing below need be believed

-- Only private contracts and proofs use what follows.

-- the arrays c and s
unfoldable pub hour_waves : Float → Waves
hour_waves gmt = record { c = tabulate (λ jb. (hour_wave gmt jb).c) 8; s = tabulate (λ jb. (hour_wave gmt jb).s) 8 }

-- c[jb] and s[jb] of two arrays
unfoldable pub wave_in : List Float → List Float → ℕ → Wave
wave_in c s jb = record { c = slice_index_or c jb nan; s = slice_index_or s jb nan }
