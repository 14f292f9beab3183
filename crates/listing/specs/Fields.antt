-- The 15 fields of a sheet in words, a line for each: its name, its value and its unit. Assumes
-- nothing.
use Rattle.std.specs.Prelude.{ℕ, zero, suc, ◌+◌, ◌-◌, cond, List, [], ◌∷◌, ◌++◌, eqb, length, get_or, take, replicate, Float}
use Prim.Native.String.{String}
use Rattle.std.specs.Float.{binary32}
use Rattle.std.specs.Float.Ieee.{of_bits}
use Rattle.maps.specs.declared.inputs.Inputs.{Inputs}
use Rattle.wording.specs.Token.{ascii}
use Rattle.listing.specs.Text.{decimal_of}
use Rattle.listing.specs.Decimal.{decimal_text}
use Rattle.listing.specs.Page.{Row, row, unit_text}
use Rattle.listing.specs.Survey.{model_name}

-- ---- texts in order

-- at the right end of 16 characters; a longer text as it is
unfoldable pub at_right : List ℕ → List ℕ
at_right l = replicate (16 - length l) 32 ++ l

-- f 0, f 1, .., f (n - 1), one after the other
unfoldable pub in_turn : (ℕ → List ℕ) → ℕ → List ℕ
in_turn f zero = []
in_turn f (suc k) = in_turn f k ++ f k

-- ---- the table

-- a field's name and unit, in the documents' order from field 1 on
abbrev pub field_rows : List Row
field_rows =
    row "month" ""
    ∷ row "sunspot number" ""
    ∷ row "hour" "hours GMT"
    ∷ row "transmitter latitude" "degrees"
    ∷ row "transmitter longitude" "degrees"
    ∷ row "receiver latitude" "degrees"
    ∷ row "receiver longitude" "degrees"
    ∷ row "long way round" ""
    ∷ row "factor E" ""
    ∷ row "factor F1" ""
    ∷ row "factor F2" ""
    ∷ row "factor Es" ""
    ∷ row "pole latitude" "degrees"
    ∷ row "pole longitude" "degrees"
    ∷ row "F2 model" ""
    ∷ []

abbrev pub field_row : ℕ → Row
field_row k = get_or field_rows (k - 1) (row "" "")

-- '0 is the short way'
abbrev pub flag_name : ℕ → String
flag_name flag = cond (eqb flag 0) "no" (cond (eqb flag 1) "yes" "neither 0 nor 1")

-- the values in the same order, each in 16 characters but for a number of 2 ^ 24 or more in size
abbrev pub field_values : Inputs → List (List ℕ)
field_values i =
    at_right (decimal_of i.month)
    ∷ decimal_text i.ssn
    ∷ decimal_text i.gmt
    ∷ decimal_text i.route.tlat.0
    ∷ decimal_text i.route.tlong.0
    ∷ decimal_text i.route.rlat.0
    ∷ decimal_text i.route.rlong.0
    ∷ at_right (ascii (flag_name i.route.long_path))
    ∷ decimal_text i.psc.e
    ∷ decimal_text i.psc.f1
    ∷ decimal_text i.psc.f2
    ∷ decimal_text i.psc.es
    ∷ decimal_text i.pole.lat.0
    ∷ decimal_text i.pole.lon.0
    ∷ at_right (ascii (model_name i.model))
    ∷ []

abbrev pub field_value : Inputs → ℕ → List ℕ
field_value i k = get_or (field_values i) (k - 1) []

-- ---- the lines

-- the name, in 24 characters
unfoldable pub field_name : Row → List ℕ
field_name w = take 24 (ascii w.name ++ replicate 24 32)

-- field k, from 1 to 15, with no line feed
unfoldable pub field_text : Inputs → ℕ → List ℕ
field_text i k = field_name (field_row k) ++ (field_value i k ++ unit_text (field_row k).unit)

abbrev pub field_line : Inputs → ℕ → List ℕ
field_line i k = field_text i k ++ ascii "\n"

-- all 15
unfoldable pub fields_words : Inputs → List ℕ
fields_words i = in_turn (λ (k : ℕ). field_line i (k + 1)) 15

-- ---- on the way: nothing below need be believed

-- Only private contracts and proofs use what follows.

-- the numbers of the fields that are an `f32`; 0 for the month, the flag and the model
abbrev pub singles : Inputs → List Float
singles i =
    let w = i.route in
    let f = i.psc in
    let none = of_bits binary32 0 in
    none
    ∷ i.ssn
    ∷ i.gmt
    ∷ w.tlat.0
    ∷ w.tlong.0
    ∷ w.rlat.0
    ∷ w.rlong.0
    ∷ none
    ∷ f.e
    ∷ f.f1
    ∷ f.f2
    ∷ f.es
    ∷ i.pole.lat.0
    ∷ i.pole.lon.0
    ∷ none
    ∷ []
