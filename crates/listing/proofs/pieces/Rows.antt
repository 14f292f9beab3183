-- The lines of a page: the source's tables are its rows, how long each part is at most, and one
-- line or point more. Assumes nothing.
use Rattle.std.proofs.Common.{◌≡◌, refl, sym, ap, ◌∙◌, Bool, List, [], ◌∷◌, ◌++◌, map, ℕ, zero, suc, ◌+◌, ◌*◌, ◌≤◌, ◌<◌, add-one, arith, leb, ltb, leb→le, length, get_or, replicate, length-append, length-take-le, Float}
use lib.ListN.{get_or-map, length-map}
use Prim.Native.String.{String}
use Rattle.listing.specs.declared.unit.Unit.{Unit}
use Rattle.listing.specs.Unit.{unit_name}
use lib.Ieee.{nan, binary32, to_bits}
use Rattle.base.proofs.lists.Entries.{at as entry}
use Rattle.maps.specs.declared.inputs.Inputs.{Inputs}
use Rattle.maps.specs.Inputs.{is_long}
use Rattle.wording.specs.Token.{ascii}
use Rattle.listing.specs.Answer.{hex_of}
use Rattle.listing.specs.Page.{Row, page_rows, page_row, name_text, unit_text, value_text, row_text, rows_text, early_fields, late_fields, long_text, fields_text, point_text, there_text, first_points}
use Rattle.listing.proofs.digits.Places.{at_most_20}
use Rattle.listing.proofs.digits.Values.{either, length_decimal}

-- ---- the tables

abbrev nobody : Row
nobody = record { name = ""; unit = "" }

pub any_default : {A : Type 0} (l : List A) (k : ℕ) (d d' : A) → k < length l → get_or l k d ≡ get_or l k d'
any_default [] k d d' h = absurd (omega arith)
any_default (x ∷ l) zero d d' h = refl
any_default (x ∷ l) (suc k) d d' h = any_default l k d d' (omega arith)

pub name_at : (k : ℕ) → k < 47 → get_or (map name_text page_rows) k [] ≡ name_text (page_row k)
name_at k h = any_default (map name_text page_rows) k [] (name_text nobody) h ∙ get_or-map name_text page_rows k nobody

-- a table of units is that of some rows, by computation over the whole table
pub unit_at :
    (units : List Unit) (rows : List Row) (k : ℕ) (d : Unit) → map unit_name units ≡ map (λ (w : Row). w.unit) rows → k < length rows →
    unit_name (get_or units k d) ≡ (get_or rows k nobody).unit
unit_at units rows k d e h =
    let l = length-map rows (λ (w : Row). w.unit) in
    sym (get_or-map unit_name units k d)
    ∙ ap (λ (l : List String). get_or l k (unit_name d)) e
    ∙ any_default (map (λ (w : Row). w.unit) rows) k (unit_name d) "" (omega arith)
    ∙ get_or-map (λ (w : Row). w.unit) rows k nobody

-- ---- a line

pub length_name : (w : Row) → length (name_text w) ≡ 12
unfolding name_text
length_name w =
    let l = ascii w.name ++ replicate 12 32 in
    let a = length-append (ascii w.name) (replicate 12 32) in
    length-take-le 12 l (omega arith)

is_most : ℕ → ℕ → Bool
is_most k n = leb n 9

unit_size : Row → ℕ
unit_size w = length (unit_text w.unit)

pub length_its_unit : (k : ℕ) → k < 47 → length (unit_text (page_row k).unit) ≤ 9
unfolding is_most unit_size
length_its_unit k h =
    let a : get_or (map unit_size page_rows) k 0 ≡ unit_size (page_row k) = get_or-map unit_size page_rows k nobody in
    omega (arith, leb→le (get_or (map unit_size page_rows) k 0) 9 (entry is_most (map unit_size page_rows) tt k h))

length_hex : (n : ℕ) → length (hex_of n) ≡ 8
unfolding hex_of
length_hex n = refl

pub length_value : (x : Float) → length (value_text x) ≤ 54
unfolding value_text
length_value x =
    let b = length_decimal x in
    let d = length_hex (to_bits binary32 x) in
    simp length-append (omega arith)

pub length_row : (k : ℕ) (x : Float) → k < 47 → length (row_text (page_row k) x) ≤ 76
unfolding row_text
length_row k x h =
    let a = length_name (page_row k) in
    let b = length_value x in
    let d = length_its_unit k h in
    simp length-append (omega arith)

-- ---- lines

module _ (first : ℕ) (xs : List Float) (at : ℕ) where
  pub no_rows : rows_text first xs at 0 ≡ []
  unfolding rows_text
  no_rows = refl

  pub next_row : (k : ℕ) → rows_text first xs at (k + 1) ≡ rows_text first xs at k ++ row_text (page_row (first + k)) (get_or xs (at + k) nan)
  unfolding rows_text
  next_row k = ap (rows_text first xs at) (add-one k)

  pub length_rows : (n : ℕ) → first + n ≤ 47 → length (rows_text first xs at n) ≤ 76 * n
  unfolding rows_text
  length_rows zero h = omega arith
  length_rows (suc k) h =
      let a = length_rows k (omega arith) in
      let b = length_row (first + k) (get_or xs (at + k) nan) (omega arith) in
      omega (arith, length-append (rows_text first xs at k) (row_text (page_row (first + k)) (get_or xs (at + k) nan)))

-- ---- points

pub length_point : (xs : List Float) (p : ℕ) → length (point_text xs p) ≤ 2231
unfolding point_text
length_point xs p =
    let a = at_most_20 (p + 1) in
    let b = length_rows 18 xs (6 + 29 * p) 29 (omega arith) in
    simp length-append (omega arith)

pub length_there : (count : ℕ) (xs : List Float) (p : ℕ) → length (there_text count xs p) ≤ 2231
unfolding there_text
length_there count xs p = either (ltb p count) (point_text xs p) [] 2231 (length_point xs p) (omega arith)

module _ (count : ℕ) (xs : List Float) where
  pub no_points : first_points count xs 0 ≡ []
  unfolding first_points
  no_points = refl

  pub next_point : (p : ℕ) → first_points count xs (p + 1) ≡ first_points count xs p ++ there_text count xs p
  unfolding first_points
  next_point p = ap (first_points count xs) (add-one p)

  pub length_points : (n : ℕ) → length (first_points count xs n) ≤ 2231 * n
  unfolding first_points
  length_points zero = omega arith
  length_points (suc p) =
      let a = length_points p in
      let b = length_there count xs p in
      omega (arith, length-append (first_points count xs p) (there_text count xs p))

-- ---- fields

pub length_long : (long : Bool) → length (long_text long) ≤ 19
unfolding long_text
length_long long = either long (ascii "the long way round\n") [] 19 (omega arith) (omega arith)

pub length_fields : (i : Inputs) → length (fields_text i) ≤ 964
unfolding fields_text
length_fields i =
    let a = at_most_20 i.month in
    let b = length_rows 0 (early_fields i) 0 6 (omega arith) in
    let d = length_long (is_long i.route.long_path) in
    let e = length_rows 6 (late_fields i) 0 6 (omega arith) in
    simp length-append (omega arith)
