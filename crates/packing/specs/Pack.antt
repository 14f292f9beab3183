-- Document 02, request 01: a year file made of its parts, one after the other behind the directory;
-- and one made in a buffer in which they lie so. Assumes nothing.
use Rattle.std.specs.Prelude.{ℕ, zero, suc, ◌+◌, cond, List, [], ◌∷◌, ◌++◌, map, leb, ltb, length, take, drop}
use Rattle.base.specs.Refusal.{Verdict}
use Rattle.base.specs.Files.{file_check, daw_check}
use Rattle.base.specs.Words.{four_bytes}
use Rattle.base.specs.Year.{directory_size}

-- the pairs of parts of these sizes, the first of which starts at `at`
unfoldable pub pairs_of : ℕ → List ℕ → List ℕ
pairs_of at [] = []
pairs_of at (n ∷ ns) = four_bytes at ++ (four_bytes n ++ pairs_of (at + n) ns)

unfoldable pub together : List (List ℕ) → List ℕ
together [] = []
together (p ∷ ps) = p ++ together ps

-- the year file of these parts
unfoldable pub packed : List (List ℕ) → List ℕ
packed parts = pairs_of directory_size (map length parts) ++ together parts

-- what a file that is to be part k, counted from 0, is refused by: 'months 1 to 12, then CCIR, then
-- URSI'. A model's file that has the record of month 12 has those of all months, whose words count
unfoldable pub part_check : ℕ → List ℕ → Verdict
part_check k part = cond (ltb k 12) (file_check part) (daw_check part)

-- ---- in a buffer

-- the most bytes of a year file that the programs take
abbrev pub year_most : ℕ
year_most = 1048576

-- where the part k of these sizes starts, the first one starting at `at`
unfoldable pub start_in : ℕ → List ℕ → ℕ → ℕ
start_in at ns zero = at
start_in at [] (suc k) = at
start_in at (n ∷ ns) (suc k) = start_in (at + n) ns k

-- the bytes of a year file with fourteen parts of these sizes
abbrev pub size_of_year : List ℕ → ℕ
size_of_year sizes = start_in directory_size sizes 14

-- bytes that lie one after the other, as parts of these sizes
unfoldable pub parts_of : List ℕ → List ℕ → List (List ℕ)
parts_of [] l = []
parts_of (n ∷ ns) l = take n l ∷ parts_of ns (drop n l)

-- the year file of the parts that lie in the buffer behind the place of its directory; none where it
-- would have more than `year_most` bytes
unfoldable pub sealed_file : List ℕ → List ℕ → List ℕ
sealed_file sizes buffer =
    cond (leb (size_of_year sizes) year_most) (packed (parts_of sizes (drop directory_size buffer))) []
