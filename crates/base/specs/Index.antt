-- Document 01, Index check, over the words of `ikim`; and what it gives to those who index by them.
-- Assumes nothing.
use Rattle.std.specs.Prelude.{◌≡◌, ℕ, zero, suc, ◌+◌, ◌-◌, ◌*◌, ◌%◌, ◌<◌, ◌≤◌, Bool, true, cond, ◌&&◌, List, [], ◌∷◌, ℤ, pos, ◌-ℤ◌, ◌==◌, ◌≢◌, int_le, int_lt, slice_index, unsigned_abs, Err, Ok}
use Rattle.base.specs.declared.refusal.Refusal.TheVariants.{Index}
use Rattle.base.specs.Refusal.{Verdict}
use Rattle.base.specs.Fill.{tabulate}
use Rattle.base.specs.Words.{word_at, integer_at}
use Rattle.base.specs.Tables.{ikim, start_of, words_of}

-- ---- the words

-- where the word j of the map k stands, both counted from 0: a row of `ikim` has 10 words
abbrev pub ikim_place : ℕ → ℕ → ℕ
ikim_place k j = start_of ikim + (k * 10 + j) * 4

-- the word as the Rust reads it, signed
abbrev pub ikim_at : List ℕ → ℕ → ℕ → ℤ
ikim_at month k j = integer_at month (ikim_place k j)

-- the 60 words of `ikim`, unsigned
unfoldable pub index_of : List ℕ → List ℕ
index_of month = tabulate (λ i. word_at month (start_of ikim + i * 4)) (words_of ikim)

-- ---- the check

-- 'Rows are 55, 61, 55, 76, 49, 22; harmonics at most 2, 3, 2, 6, 4, 4'
abbrev pub rows : List ℕ
rows = 55 ∷ 61 ∷ 55 ∷ 76 ∷ 49 ∷ 22 ∷ []

abbrev pub harmonics : List ℕ
harmonics = 2 ∷ 3 ∷ 2 ∷ 6 ∷ 4 ∷ 4 ∷ []

-- z is a to b
abbrev pub is_whole_to : ℕ → ℕ → ℤ → Bool
is_whole_to a b z = int_le (pos a) z && int_le z (pos b)

abbrev pub equals : ℤ → ℤ → Bool
equals y z = int_le y z && int_le z y

-- 'exceeds the one before by an even number and is at most 75': z, after y
abbrev pub exceeds : ℤ → ℤ → Bool
exceeds y z = int_lt y z && (unsigned_abs (z -ℤ y) % 2 == 0 && int_le z (pos 75))

-- n words after the word j: each exceeds the one before, 'up to the first that equals its
-- predecessor'
unfoldable pub climbs : (ℕ → ℤ) → ℕ → ℕ → Bool
climbs w zero j = true
climbs w (suc n) j = cond (equals (w j) (w (j + 1))) true (exceeds (w j) (w (j + 1)) && climbs w n (j + 1))

-- 'word 8 is 0 to rows - 1; word 9 is 0 to the harmonics; word 0 is 1 to 75; each of words 1 to 8
-- ..'
unfoldable pub good_map : (ℕ → ℤ) → ℕ → ℕ → Bool
good_map w rows harmonics =
    is_whole_to 0 (rows - 1) (w 8) && (is_whole_to 0 harmonics (w 9) && (is_whole_to 1 75 (w 0) && climbs w 8 0))

-- 'place the lowest bad map 1 to 6': of n maps, the first one being the map k, counted from 0
unfoldable pub lowest_bad : List ℕ → ℕ → ℕ → Verdict
lowest_bad month zero k = Ok tt
lowest_bad month (suc n) k =
    cond (good_map (ikim_at month k) (slice_index rows k) (slice_index harmonics k))
    (lowest_bad month n (k + 1))
    (Err (Index (k + 1)))

unfoldable pub index_check : List ℕ → Verdict
index_check month = lowest_bad month 6 0

-- ---- what a map that is not bad gives, over its words as natural numbers

-- n words after the word j: one that equals its predecessor ends the ladder, the others exceed
-- theirs by an even number and are at most 75
pub data Climbs (w : ℕ → ℕ) : ℕ → ℕ → Type 0 where
  top : {j : ℕ} → Climbs w zero j
  level : {n j : ℕ} → w (j + 1) ≡ w j → Climbs w (suc n) j
  up :
      {n j : ℕ} → w j + 2 ≤ w (j + 1) → (w (j + 1) - w j) % 2 ≡ 0 → w (j + 1) ≤ 75 → Climbs w n (j + 1) →
      Climbs w (suc n) j

pub record GoodIndex (w : ℕ → ℕ) (rows harmonics : ℕ) : Type 0 where
  pub low : 1 ≤ w 0
  pub high : w 0 ≤ 75
  pub climbing : Climbs w 8 0
  pub terms : w 8 < rows
  pub waves : w 9 ≤ harmonics

-- the ladder goes as far as its word j: none of its words up to there equals its predecessor
abbrev pub Reaches : (ℕ → ℕ) → ℕ → Type 0
Reaches w j = (i : ℕ) → i < j → w (i + 1) ≢ w i

-- the word j of the map k among the 60
abbrev pub map_word : List ℕ → ℕ → ℕ → ℕ
map_word index k j = slice_index index (k * 10 + j)
