-- Document 01, Blend: the maps at a sunspot number, from their two planes. Assumes nothing.
use Rattle.std.specs.Prelude.{ℕ, ◌+◌, ◌*◌, List, [], ◌∷◌, ◌++◌, get_or, slice_index_or, Float}
use Rattle.base.specs.declared.blend.Weights.{Weights}
use Rattle.base.specs.Single.{◌⊕◌, ◌⊖◌, ◌⊗◌, ◌⊘◌, decimal}
use Rattle.base.specs.Fill.{tabulate}
use Rattle.base.specs.Words.{float_at}
use Rattle.base.specs.Tables.{start_of, words_of, plane_of, holding, entry_place, xf2cof, fakmap, xfm3cf, xesmcf, xpmap, xeslcf, xesucf, xercof}

-- ---- the blend

-- '(x0 × wa + x1 × wb) / d, each operation rounded once'
abbrev pub blend_of : Weights → Float → Float → Float
blend_of w x0 x1 = (x0 ⊗ w.wa ⊕ x1 ⊗ w.wb) ⊘ w.d

-- 'F2 and M3000 use 100 - s, s, 100'
unfoldable pub f2_weights : Float → Weights
f2_weights s = record { wa = decimal 100 0 ⊖ s; wb = s; d = decimal 100 0 }

-- 'the Es and E maps 150 - s, s - 10, 140'
unfoldable pub e_weights : Float → Weights
e_weights s = record { wa = decimal 150 0 ⊖ s; wb = s ⊖ decimal 10 0; d = decimal 140 0 }

-- 'the height map 125 - s, s - 25, 100'
unfoldable pub height_weights : Float → Weights
height_weights s = record { wa = decimal 125 0 ⊖ s; wb = s ⊖ decimal 25 0; d = decimal 100 0 }

-- the element i of two planes of `width` words each, one after the other from the byte `at` on
unfoldable pub blend_at : List ℕ → ℕ → ℕ → Weights → ℕ → Float
blend_at file at width w i = blend_of w (float_at file (at + 4 * i)) (float_at file (at + 4 * (width + i)))

-- ---- the maps, in the order of the Rust's storage

-- the two planes of a table, blended; the file is the one that holds it
abbrev pub blend_table : ℕ → Weights → List ℕ → List Float
blend_table number w file = tabulate (blend_at file (start_of number) (plane_of number) w) (plane_of number)

unfoldable pub eslcof_of : List ℕ → Float → List Float
eslcof_of month s = blend_table xeslcf (e_weights s) month

unfoldable pub esmcof_of : List ℕ → Float → List Float
esmcof_of month s = blend_table xesmcf (e_weights s) month

unfoldable pub esucof_of : List ℕ → Float → List Float
esucof_of month s = blend_table xesucf (e_weights s) month

unfoldable pub f2cof_of : List ℕ → Float → List Float
f2cof_of f2 s = blend_table xf2cof (f2_weights s) f2

unfoldable pub fm3cof_of : List ℕ → Float → List Float
fm3cof_of month s = blend_table xfm3cf (f2_weights s) month

unfoldable pub ercof_of : List ℕ → Float → List Float
ercof_of month s = blend_table xercof (e_weights s) month

unfoldable pub hmym_of : List ℕ → Float → List Float
hmym_of month s = blend_table xpmap (height_weights s) month

-- the land map has one plane, and nothing is blended
unfoldable pub fakmap_of : List ℕ → List Float
fakmap_of month = tabulate (λ i. float_at month (start_of fakmap + 4 * i)) (words_of fakmap)

-- `cofion`: the six maps one after the other
abbrev pub cofion_maps : List ℕ → List ℕ → Float → List (List Float)
cofion_maps f2 month s =
    eslcof_of month s
    ∷ esmcof_of month s
    ∷ esucof_of month s
    ∷ f2cof_of f2 s
    ∷ fm3cof_of month s
    ∷ ercof_of month s
    ∷ []

abbrev pub appended : List (List Float) → List Float
appended [] = []
appended (l ∷ ls) = l ++ appended ls

unfoldable pub cofion_of : List ℕ → List ℕ → Float → List Float
cofion_of f2 month s = appended (cofion_maps f2 month s)

-- ---- the Rust's constants over them

-- IA: where the run of each map begins among the 2,604, counted from 1
abbrev pub IA : List ℕ
IA = 1 ∷ 276 ∷ 703 ∷ 978 ∷ 1966 ∷ 2407 ∷ []

-- IB: how many coefficients a row of each map has
abbrev pub IB : List ℕ
IB = 5 ∷ 7 ∷ 5 ∷ 13 ∷ 9 ∷ 9 ∷ []

-- IC: where the rows of each map begin among the 318, counted from 1
abbrev pub IC : List ℕ
IC = 1 ∷ 56 ∷ 117 ∷ 172 ∷ 248 ∷ 297 ∷ []

-- ---- a map's coefficient by its entries

-- the tables of the six maps, in the order of `cofion`
abbrev pub map_tables : List ℕ
map_tables = xeslcf ∷ xesmcf ∷ xesucf ∷ xf2cof ∷ xfm3cf ∷ xercof ∷ []

-- and their weights
abbrev pub map_weights : Float → List Weights
map_weights s = e_weights s ∷ e_weights s ∷ e_weights s ∷ f2_weights s ∷ f2_weights s ∷ e_weights s ∷ []

-- the coefficient i of the row j of the map k, counted from 0: the entries [0][j][i] and [1][j][i]
-- of its table, blended
unfoldable pub coefficient_of : List ℕ → List ℕ → Float → ℕ → ℕ → ℕ → Float
coefficient_of f2 month s k i j =
    let number = get_or map_tables k 0 in
    let file = holding number f2 month in
    blend_of (slice_index_or (map_weights s) k (e_weights s))
    (float_at file (entry_place number i j 0))
    (float_at file (entry_place number i j 1))
