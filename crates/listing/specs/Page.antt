-- The page of a sheet, for a person to read. Assumes nothing.
use Rattle.std.specs.Prelude.{ℕ, zero, suc, ◌+◌, ◌*◌, Bool, cond, List, [], ◌∷◌, ◌++◌, ltb, get_or, take, replicate, Float}
use Prim.Native.String.{String, [] as []ˢ, ◌∷◌ as ◌∷ˢ◌}
use Rattle.std.specs.Float.{nan, binary32}
use Rattle.std.specs.Float.Ieee.{to_bits}
use Rattle.maps.specs.declared.inputs.Inputs.{Inputs}
use Rattle.maps.specs.Inputs.{is_long}
use Rattle.wording.specs.Token.{ascii}
use Rattle.listing.specs.Text.{decimal_of}
use Rattle.listing.specs.Answer.{hex_of}
use Rattle.listing.specs.Decimal.{decimal_text}

-- ---- the table

-- a number of the page: its name, of a figure the Rust's (the ground pair has none there), and its
-- unit, which is empty where it has none
pub record Row : Type 0 where
  pub name : String
  pub unit : String

abbrev pub row : String → String → Row
row name unit = record { name = name; unit = unit }

abbrev pub page_rows : List Row
page_rows =
    -- 0 to 5: fields, after the month
    row "ssn" ""
    ∷ row "gmt" "hours"
    ∷ row "tlat" "degrees"
    ∷ row "tlong" "degrees"
    ∷ row "rlat" "degrees"
    ∷ row "rlong" "degrees"
    -- 6 to 11: fields, after the flag
    ∷ row "psc e" ""
    ∷ row "psc f1" ""
    ∷ row "psc f2" ""
    ∷ row "psc es" ""
    ∷ row "pole lat" "degrees"
    ∷ row "pole lon" "degrees"
    -- 12 to 17: 'First gcd, gcd_km, btr, brt, rlatd, alatd'
    ∷ row "gcd" "radians"
    ∷ row "gcd_km" "km"
    ∷ row "btr" "radians"
    ∷ row "brt" "radians"
    ∷ row "rlatd" "degrees"
    ∷ row "alatd" "degrees"
    -- 18 to 46: 'then 29 numbers for each of five points'
    ∷ row "rd" "radians"
    ∷ row "lat" "radians"
    ∷ row "lon" "radians"
    ∷ row "gmlat" "radians"
    ∷ row "gyz" "MHz"
    ∷ row "gmdip" "radians"
    ∷ row "east_lon" "radians"
    ∷ row "fi[0]" "MHz"
    ∷ row "fi[1]" "MHz"
    ∷ row "fi[2]" "MHz"
    ∷ row "yi[0]" "km"
    ∷ row "yi[1]" "km"
    ∷ row "yi[2]" "km"
    ∷ row "hi[0]" "km"
    ∷ row "hi[1]" "km"
    ∷ row "hi[2]" "km"
    ∷ row "f2m3" ""
    ∷ row "hpf2" "km"
    ∷ row "rat" ""
    ∷ row "abiy" ""
    ∷ row "clck" "hours"
    ∷ row "zenang" "degrees"
    ∷ row "zenmax" "degrees"
    ∷ row "fs[0]" "MHz"
    ∷ row "fs[1]" "MHz"
    ∷ row "fs[2]" "MHz"
    ∷ row "hs" "km"
    ∷ row "sigma" "mhos/m"
    ∷ row "epsilon" ""
    ∷ []

abbrev pub page_row : ℕ → Row
page_row k = get_or page_rows k (row "" "")

-- ---- a line

-- the name, in twelve characters
unfoldable pub name_text : Row → List ℕ
name_text w = take 12 (ascii w.name ++ replicate 12 32)

-- the unit after two blanks
abbrev pub unit_text : String → List ℕ
unit_text []ˢ = []
unit_text (c ∷ˢ s) = ascii "  " ++ ascii (c ∷ˢ s)

-- decimals and bits
unfoldable pub value_text : Float → List ℕ
value_text x = decimal_text x ++ (ascii "  " ++ hex_of (to_bits binary32 x))

-- name, number, unit
unfoldable pub row_text : Row → Float → List ℕ
row_text w x = name_text w ++ (value_text x ++ (unit_text w.unit ++ ascii "\n"))

-- n lines: the number of line k is the one at `at` + k, and has the row `first` + k
unfoldable pub rows_text : ℕ → List Float → ℕ → ℕ → List ℕ
rows_text first xs at zero = []
rows_text first xs at (suc k) = rows_text first xs at k ++ row_text (page_row (first + k)) (get_or xs (at + k) nan)

-- ---- the page

-- the fields in document 01's order: the month, six numbers, the flag, six numbers
abbrev pub early_fields : Inputs → List Float
early_fields i =
    let w = i.route in
    i.ssn ∷ i.gmt ∷ w.tlat.0 ∷ w.tlong.0 ∷ w.rlat.0 ∷ w.rlong.0 ∷ []

abbrev pub late_fields : Inputs → List Float
late_fields i =
    let f = i.psc in
    f.e ∷ f.f1 ∷ f.f2 ∷ f.es ∷ i.pole.lat.0 ∷ i.pole.lon.0 ∷ []

unfoldable pub long_text : Bool → List ℕ
long_text long = cond long (ascii "the long way round\n") []

unfoldable pub fields_text : Inputs → List ℕ
fields_text i =
    let early = rows_text 0 (early_fields i) 0 6 in
    let late = rows_text 6 (late_fields i) 0 6 in
    let long = long_text (is_long i.route.long_path) in
    ascii "month       " ++ (decimal_of i.month ++ (ascii "\n" ++ (early ++ (long ++ late))))

-- the point of number p, from 0 on: number k of it stands at 6 + 29 p + k
unfoldable pub point_text : List Float → ℕ → List ℕ
point_text figures p = ascii "point " ++ (decimal_of (p + 1) ++ (ascii "\n" ++ rows_text 18 figures (6 + 29 * p) 29))

-- where it is there
unfoldable pub there_text : ℕ → List Float → ℕ → List ℕ
there_text count figures p = cond (ltb p count) (point_text figures p) []

-- the first n points
unfoldable pub first_points : ℕ → List Float → ℕ → List ℕ
first_points count figures zero = []
first_points count figures (suc p) = first_points count figures p ++ there_text count figures p

unfoldable pub page_text : Inputs → ℕ → List Float → List ℕ
page_text i count figures = fields_text i ++ (rows_text 12 figures 0 6 ++ first_points count figures 5)
