-- Files that are written out, byte by byte: a month file with ladders that climb and a record,
-- which every check accepts, and the files of document 01's known points (b) and (c). Assumes
-- nothing.
use Rattle.std.specs.Prelude.{List, [], ◌∷◌, ◌++◌, ℕ, ◌<◌, take, drop, replicate}
use Rattle.base.specs.Words.{four_bytes}
use Rattle.base.specs.MonthFile.{record_size, sizes}

-- ---- bytes

-- words as bytes
abbrev pub word_bytes : List ℕ → List ℕ
word_bytes [] = []
word_bytes (w ∷ ws) = four_bytes w ++ word_bytes ws

-- records of these sizes, all zeros: each is its size, that many zeros, and its size again
abbrev pub file_of : List ℕ → List ℕ
file_of [] = []
file_of (n ∷ ns) = four_bytes n ++ (replicate n 0 ++ (four_bytes n ++ file_of ns))

-- ---- files that are accepted

-- a month file with this index table in its first record, and zeros in the eight others
unfoldable pub file_with : List ℕ → List ℕ
file_with table = four_bytes 240 ++ (word_bytes table ++ (four_bytes 240 ++ file_of (drop 1 sizes)))

-- every map climbs four or five rungs up to its last row, and has all of its harmonics
abbrev pub good_index_table : List ℕ
good_index_table =
    8 ∷ 26 ∷ 38 ∷ 46 ∷ 50 ∷ 54 ∷ 54 ∷ 54 ∷ 54 ∷ 2
    ∷ 10 ∷ 30 ∷ 44 ∷ 52 ∷ 58 ∷ 60 ∷ 60 ∷ 60 ∷ 60 ∷ 3
    ∷ 10 ∷ 30 ∷ 42 ∷ 50 ∷ 54 ∷ 54 ∷ 54 ∷ 54 ∷ 54 ∷ 2
    ∷ 11 ∷ 35 ∷ 53 ∷ 65 ∷ 71 ∷ 75 ∷ 75 ∷ 75 ∷ 75 ∷ 6
    ∷ 6 ∷ 22 ∷ 34 ∷ 42 ∷ 46 ∷ 48 ∷ 48 ∷ 48 ∷ 48 ∷ 4
    ∷ 5 ∷ 13 ∷ 17 ∷ 19 ∷ 21 ∷ 21 ∷ 21 ∷ 21 ∷ 21 ∷ 4
    ∷ []

abbrev pub good_month_file : List ℕ
good_month_file = file_with good_index_table

abbrev pub good_record : List ℕ
good_record = replicate record_size 0

-- each number of a list is below the limit
abbrev pub Below : ℕ → List ℕ → Type 0
Below limit [] = Unit
Below limit (n ∷ ns) = (n < limit) × Below limit ns

-- ---- files that are not

-- the first eight records, the ninth up to its closing marker, and what stands there
unfoldable pub ending_in : List ℕ → List ℕ
ending_in l = file_of (take 8 sizes) ++ (four_bytes 1584 ++ (replicate 1584 0 ++ l))

-- (b) '38,551 good bytes': the last byte is not there
abbrev pub cut_file : List ℕ
cut_file = ending_in (48 ∷ 6 ∷ 0 ∷ [])

-- (c) 'last marker wrong'
abbrev pub wrong_file : List ℕ
wrong_file = ending_in (0 ∷ 0 ∷ 0 ∷ 0 ∷ [])
