-- `noisy` of ionosphere.rs, the two-variable Fourier map, in its names. A plane's 16 rows of 29
-- stand one after the other. Assumes nothing.
use Rattle.std.specs.Prelude.{ℕ, zero, suc, ◌+◌, ◌*◌, Bool, cond, List, get_or, replicate, slice_index_or, Float}
use Rattle.std.specs.Float.{nan}
use Rattle.base.specs.Single.{◌⊕◌, ◌⊖◌, ◌⊗◌, decimal}
use Rattle.base.specs.Elementary.{sin32_of, cos32_of}
use Rattle.base.specs.Fill.{fill}

-- plane[k][j]
abbrev pub in_plane : List Float → ℕ → ℕ → Float
in_plane plane k j = slice_index_or plane (k * 29 + j) nan

-- the sine and the cosine of k + 1 times an angle, from those of the angle, as both of its loops
-- have them
pub record Turn : Type 0 where
  pub sine : Float
  pub cosine : Float

unfoldable pub turn_of : Float → Float → ℕ → Turn
turn_of s1 c1 zero = record { sine = s1; cosine = c1 }
turn_of s1 c1 (suc k) =
    let v = turn_of s1 c1 k in
    record { sine = v.sine ⊗ c1 ⊕ v.cosine ⊗ s1; cosine = v.cosine ⊗ c1 ⊖ v.sine ⊗ s1 }

-- r after k rows: r += sx[k] * plane[k][j]
unfoldable pub column_of : (ℕ → Float) → List Float → ℕ → ℕ → Float
column_of sx plane j zero = decimal 0 1
column_of sx plane j (suc k) = column_of sx plane j k ⊕ sx k ⊗ in_plane plane k j

-- zz[j] = r + plane[15][j], where r is the sum of ln rows
unfoldable pub zz_of : (ℕ → Float) → List Float → ℕ → ℕ → Float
zz_of sx plane ln j = column_of sx plane j ln ⊕ in_plane plane 15 j

-- r after k columns: r += sk * z
unfoldable pub latitude_sum : (ℕ → Float) → (ℕ → Float) → ℕ → Float
latitude_sum sk zz zero = decimal 0 1
latitude_sum sk zz (suc k) = latitude_sum sk zz k ⊕ sk k ⊗ zz k

-- lm columns, each summed over ln sines of half the longitude, and they over sines of the latitude
-- counted from the south pole
unfoldable pub noisy_sum : ℕ → ℕ → List Float → Float → Float → Float → Float → Float
noisy_sum lm ln plane alf bet xla ceg =
    let q = decimal 87266466 10 ⊗ ceg in
    let zz = zz_of (λ k. (turn_of (sin32_of q) (cos32_of q) k).sine) plane ln in
    let p = decimal 1745329252 11 ⊗ (xla ⊕ decimal 900 1) in
    latitude_sum (λ k. (turn_of (sin32_of p) (cos32_of p) k).sine) zz lm ⊕ alf ⊕ bet ⊗ p

-- `noisy(plane, &[alf, bet], ratio_map, xla, ceg)`: (lm, ln) = if ratio_map { (15, 10) } else {
-- (29, 15) }
unfoldable pub noisy_of : List Float → Float → Float → Bool → Float → Float → Float
noisy_of plane alf bet ratioMap xla ceg =
    cond ratioMap (noisy_sum 15 10 plane alf bet xla ceg) (noisy_sum 29 15 plane alf bet xla ceg)

-- ---- the arrays on the way: nothing below need be believed

-- Only private contracts and proofs use what follows. Past what is filled the arrays keep the 0.0
-- that they are made of.

-- sx: the sines of 1 to n times an angle
unfoldable pub sx_of : Float → Float → ℕ → List Float
sx_of s1 c1 n = fill (λ k. (turn_of s1 c1 k).sine) 0 (replicate 15 (decimal 0 1)) n

-- l with f j z in the place of z, the j-th, for each of its first n
unfoldable pub each : (ℕ → Float → Float) → List Float → ℕ → List Float
each f l n = fill (λ j. f j (slice_index_or l j nan)) 0 l n

-- zz: the first lm columns
unfoldable pub columns_of : List Float → List Float → ℕ → ℕ → List Float
columns_of sx plane ln lm = fill (zz_of (λ k. get_or sx k nan) plane ln) 0 (replicate 29 (decimal 0 1)) lm
