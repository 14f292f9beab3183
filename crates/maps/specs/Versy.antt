-- `versy` of ionosphere.rs: a map's value is the sum of its time coefficients D_j, each times a
-- geographic function G_j of the place, and the geographic functions are given in closed form from
-- the map's ladder of words. Series.antt has the whole formula. Assumes nothing.
use Rattle.std.specs.Prelude.{ℕ, zero, suc, ◌+◌, ◌-◌, ◌/◌, ◌%◌, cond, List, get_or, replicate, pos, ◌==◌, nat_le, slice_index, slice_index_or, Float}
use Rattle.std.specs.Float.{nan, binary32}
use Rattle.std.specs.Float.Ieee.{of_int, mul}
use Rattle.base.specs.Double.{◌⊕◌, ◌⊗◌, fraction}
use Rattle.base.specs.Number.{narrow_of}
use Rattle.base.specs.Elementary.{sin_of, cos_of}
use Rattle.base.specs.Fill.{fill, tabulate}
use Rattle.base.specs.Index.{map_word}
use Rattle.base.specs.Blend.{IC}
use Rattle.maps.specs.declared.ionosphere.versy.Gammas.{Gammas}

-- ---- the geographic functions

-- sx to the power n: 1, sx, sx * sx, sx * (sx * sx), ..
unfoldable pub sx_power : Float → ℕ → Float
sx_power sx zero = fraction 1 1
sx_power sx (suc zero) = sx
sx_power sx (suc (suc n)) = sx ⊗ sx_power sx (suc n)

-- sx * (sx * (.. * x)), n times
unfoldable pub raised : Float → ℕ → Float → Float
raised sx zero x = x
raised sx (suc n) x = sx ⊗ raised sx n x

-- `cx` of the harmonic j, 1 to 8: gob, gob * gob, ..
unfoldable pub cx_of : Float → ℕ → Float
cx_of gob zero = fraction 1 1
cx_of gob (suc zero) = gob
cx_of gob (suc (suc j)) = cx_of gob (suc j) ⊗ gob

-- `t` of the harmonic j: clg, then j * clg as an f32
unfoldable pub t_of : Float → ℕ → Float
t_of clg j = cond (j == 1) clg (mul binary32 (of_int binary32 (pos j)) clg)

unfoldable pub cos_wave : Float → Float → ℕ → Float
cos_wave gob clg j = cx_of gob j ⊗ cos_of (t_of clg j)

unfoldable pub sin_wave : Float → Float → ℕ → Float
sin_wave gob clg j = cx_of gob j ⊗ sin_of (t_of clg j)

-- the function i of the harmonic j: its cosine, its sine, both times sx, both times sx once more,
-- ..
unfoldable pub harmonic_of : Float → Float → Float → ℕ → ℕ → Float
harmonic_of sx gob clg j i = raised sx (i / 2) (cond (i % 2 == 0) (cos_wave gob clg j) (sin_wave gob clg j))

-- The function k, above the word j - 1 of the ladder w: up to the word j it is one of the harmonic
-- j, above it one of the next; a word that equals the one before it ends the ladder, as word 8
-- does, and past its end the functions are 0. n harmonics may still come.
unfoldable pub geographic_from : (ℕ → ℕ) → Float → Float → Float → ℕ → ℕ → ℕ → Float
geographic_from w sx gob clg zero j k = fraction 0 1
geographic_from w sx gob clg (suc n) j k =
    cond (w j == w (j - 1)) (fraction 0 1)
    (cond (nat_le k (w j)) (harmonic_of sx gob clg j (k - w (j - 1) - 1)) (geographic_from w sx gob clg n (j + 1) k))

-- the function k: up to word 0 a power of sx
unfoldable pub geographic_of : (ℕ → ℕ) → Float → Float → Float → ℕ → Float
geographic_of w sx gob clg k = cond (nat_le k (w 0)) (sx_power sx k) (geographic_from w sx gob clg 8 1 k)

-- ---- the same functions in an array, 'filled along the index ladder'

-- '76 numbers set to 0 first'
unfoldable pub zeros : List Float
zeros = replicate 76 (fraction 0 1)

-- after the word j of the ladder w, n harmonics may still come: those of the next one stand in the
-- places after the word j up to the next
unfoldable pub filled_from : (ℕ → ℕ) → Float → Float → Float → ℕ → ℕ → List Float → List Float
filled_from w sx gob clg zero j g = g
filled_from w sx gob clg (suc n) j g =
    cond (w (j + 1) == w j) g
    (filled_from w sx gob clg n (j + 1) (fill (harmonic_of sx gob clg (j + 1)) (w j + 1) g (w (j + 1) - w j)))

unfoldable pub filled_of : (ℕ → ℕ) → Float → Float → Float → List Float
filled_of w sx gob clg = filled_from w sx gob clg 8 0 (fill (sx_power sx) 0 zeros (w 0 + 1))

-- the ladder's last word
unfoldable pub top_from : (ℕ → ℕ) → ℕ → ℕ → ℕ
top_from w zero j = w j
top_from w (suc n) j = cond (w (j + 1) == w j) (w j) (top_from w n (j + 1))

unfoldable pub top_of : (ℕ → ℕ) → ℕ
top_of w = top_from w 8 0

-- ---- the series

-- gamma after the terms 0 to n, `at` being the first one's place in AB: the first alone, then each
-- addition in f64 and narrowed at once
unfoldable pub gamma_of : List Float → ℕ → (ℕ → Float) → ℕ → Float
gamma_of ab at g zero = narrow_of (g 0 ⊗ get_or ab at nan)
gamma_of ab at g (suc n) = narrow_of (gamma_of ab at g n ⊕ get_or ab (at + suc n) nan ⊗ g (suc n))

-- the value of the map k, counted from 0, whose geographic functions are g
unfoldable pub series_of : List Float → List ℕ → ℕ → (ℕ → Float) → Float
series_of ab index k g = gamma_of ab (slice_index IC k - 1) g (map_word index k 8)

-- the value of the map iz, 1 to 6; its last term is word 8
unfoldable pub versy_of : List Float → List ℕ → ℕ → Float → Float → Float → Float
versy_of ab index iz x clg gob = series_of ab index (iz - 1) (geographic_of (map_word index (iz - 1)) (sin_of x) gob clg)

-- the six maps at a place: the E map at its latitude, the others at its dip
unfoldable pub gammas_of : List Float → List ℕ → Float → Float → Float → Float → Gammas
gammas_of ab index dip lat clg gob =
    record {
      g1 = versy_of ab index 1 dip clg gob;
      g2 = versy_of ab index 2 dip clg gob;
      g3 = versy_of ab index 3 dip clg gob;
      g4 = versy_of ab index 4 dip clg gob;
      g5 = versy_of ab index 5 dip clg gob;
      g6 = versy_of ab index 6 lat clg gob;
    }

-- ---- on the way: nothing below need be believed

-- Only private contracts and proofs use what follows.

-- the waves of the harmonics 1 to 8: cosine, sine, cosine, ..
unfoldable pub wave_at : Float → Float → ℕ → Float
wave_at gob clg i = cond (i % 2 == 0) (cos_wave gob clg (i / 2 + 1)) (sin_wave gob clg (i / 2 + 1))

unfoldable pub waves_of : Float → Float → List Float
waves_of gob clg = tabulate (wave_at gob clg) 16

-- the function i of a harmonic from its two waves
unfoldable pub rung_of : Float → Float → Float → ℕ → Float
rung_of sx c s i = raised sx (i / 2) (cond (i % 2 == 0) c s)

-- the number i of an array
abbrev pub elements : List Float → ℕ → Float
elements g i = slice_index_or g i nan

-- gamma before it is narrowed
unfoldable pub sum_of : List Float → ℕ → (ℕ → Float) → ℕ → Float
sum_of ab at g zero = g 0 ⊗ get_or ab at nan
sum_of ab at g (suc n) = narrow_of (sum_of ab at g n) ⊕ get_or ab (at + suc n) nan ⊗ g (suc n)

-- the maps k, k + 1 and k + 2 at a place: sx for the first two, sz for the third
unfoldable pub three_at : List Float → List ℕ → ℕ → Float → Float → Float → Float → Float × Float × Float
three_at ab index k sx sz gob clg = (
  series_of ab index k (geographic_of (map_word index k) sx gob clg),
  series_of ab index (k + 1) (geographic_of (map_word index (k + 1)) sx gob clg),
  series_of ab index (k + 2) (geographic_of (map_word index (k + 2)) sz gob clg),
)
