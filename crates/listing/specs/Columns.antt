-- The page of a sheet with its points side by side, for a person to read. Assumes nothing.
use Rattle.std.specs.Prelude.{ℕ, ◌+◌, ◌*◌, cond, List, ◌++◌, ltb, get_or, Float}
use Rattle.std.specs.Float.{nan}
use Rattle.maps.specs.declared.inputs.Inputs.{Inputs}
use Rattle.wording.specs.Token.{ascii}
use Rattle.listing.specs.Text.{decimal_of}
use Rattle.listing.specs.Decimal.{decimal_text}
use Rattle.listing.specs.Page.{Row, page_row, name_text, unit_text}
use Rattle.listing.specs.Fields.{at_right, in_turn, fields_words}

-- how many points stand side by side: there are at most five
unfoldable pub abreast : ℕ → ℕ
abreast count = cond (ltb count 5) count 5

-- a number in its column: at the right end of 16 characters, with a blank before them, so that no two
-- run together
unfoldable pub cell : List ℕ → List ℕ
cell l = ascii " " ++ at_right l

-- n numbers side by side: the one at `at`, and of each point after the first the one 29 further on
abbrev pub cells_text : List Float → ℕ → ℕ → List ℕ
cells_text figures at n = in_turn (λ (p : ℕ). cell (decimal_text (get_or figures (at + 29 * p) nan))) n

-- name, numbers, unit
unfoldable pub side_row : Row → List ℕ → List ℕ
side_row w cells = name_text w ++ (cells ++ (unit_text w.unit ++ ascii "\n"))

-- m lines of n numbers: line k has the row `first` + k, and its first number stands at `at` + k
abbrev pub side_rows : ℕ → List Float → ℕ → ℕ → ℕ → List ℕ
side_rows first figures at n m = in_turn (λ (k : ℕ). side_row (page_row (first + k)) (cells_text figures (at + k) n)) m

-- the numbers of the points, from 1 on
abbrev pub point_numbers : ℕ → List ℕ
point_numbers n = in_turn (λ (p : ℕ). cell (decimal_of (p + 1))) n

unfoldable pub points_head : ℕ → List ℕ
points_head n = ascii "point       " ++ (point_numbers n ++ ascii "\n")

-- the fields, the six figures of the path, and the 29 of each point that is there
unfoldable pub columns_text : Inputs → ℕ → List Float → List ℕ
columns_text i count figures =
    let n = abreast count in
    let path = side_rows 12 figures 0 1 6 in
    let points = side_rows 18 figures 6 n 29 in
    fields_words i ++ (ascii "\n" ++ (path ++ (ascii "\n" ++ (points_head n ++ points))))
