-- The fields by name: the source's tables are the rows of specs/Fields.antt, by computation over the
-- whole table, and how long each line is at most. Assumes nothing.
use Rattle.std.proofs.Common.{◌≡◌, refl, sym, ap, ◌∙◌, Bool, true, false, cond, List, [], ◌∷◌, ◌++◌, map, ℕ, zero, suc, ◌+◌, ◌-◌, ◌*◌, ◌≤◌, ◌<◌, arith, eqb, leb, leb→le, length, get_or, replicate, set, length-append, length-take-le, get_or-set_other}
use lib.ListN.{get_or-map}
use lib.Ieee.{nan}
use Rattle.base.proofs.lists.Entries.{at as entry}
use Rattle.maps.specs.declared.inputs.Inputs.{Inputs}
use Rattle.wording.specs.Token.{ascii}
use Rattle.listing.specs.Text.{decimal_of}
use Rattle.listing.specs.Decimal.{decimal_text}
use Rattle.listing.specs.Page.{Row, row, unit_text}
use Rattle.listing.specs.Survey.{model_name}
use Rattle.listing.specs.Fields.{at_right, field_rows, field_row, flag_name, field_values, field_value, field_name, field_text, field_line, fields_words, in_turn, singles}
use Rattle.listing.proofs.digits.Places.{at_most_20}
use Rattle.listing.proofs.digits.Values.{length_decimal}
use Rattle.listing.proofs.pieces.Reasons.{length_model}
use Rattle.listing.proofs.pieces.Rows.{any_default}
use Rattle.listing.proofs.pieces.Series.{length_turns, length_right}

-- ---- names and units

abbrev nobody : Row
nobody = row "" ""

pub name_of : (k : ℕ) → k < 15 → get_or (map field_name field_rows) k [] ≡ field_name (get_or field_rows k nobody)
name_of k h = any_default (map field_name field_rows) k [] (field_name nobody) h ∙ get_or-map field_name field_rows k nobody

is_most : ℕ → ℕ → Bool
is_most k n = leb n 11

unit_size : Row → ℕ
unit_size w = length (unit_text w.unit)

pub length_field_unit : (k : ℕ) → k < 15 → length (unit_text (get_or field_rows k nobody).unit) ≤ 11
unfolding is_most unit_size
length_field_unit k h =
    let a : get_or (map unit_size field_rows) k 0 ≡ unit_size (get_or field_rows k nobody) = get_or-map unit_size field_rows k nobody in
    omega (arith, leb→le (get_or (map unit_size field_rows) k 0) 11 (entry is_most (map unit_size field_rows) tt k h))

-- ---- values

-- the values with those of the month, the flag and the model put over what `singles` has there
single_at :
    (i : Inputs) (k : ℕ) → k < 15 → (k ≡ 0 → ⊥) → (k ≡ 7 → ⊥) → (k ≡ 14 → ⊥) →
    decimal_text (get_or (singles i) k nan) ≡ get_or (field_values i) k []
single_at i k h p q r =
    let l = map decimal_text (singles i) in
    let m = at_right (decimal_of i.month) in
    let f = at_right (ascii (flag_name i.route.long_path)) in
    let n = at_right (ascii (model_name i.model)) in
    let e : set (set (set l 0 m) 7 f) 14 n ≡ field_values i = refl in
    sym (get_or-map decimal_text (singles i) k nan)
    ∙ any_default l k (decimal_text nan) [] h
    ∙ sym (get_or-set_other l 0 k m [] p)
    ∙ sym (get_or-set_other (set l 0 m) 7 k f [] q)
    ∙ sym (get_or-set_other (set (set l 0 m) 7 f) 14 k n [] r)
    ∙ ap (λ (x : List (List ℕ)). get_or x k []) e

-- field k is an `f32`, unless it is one of those three
pub single_value :
    (i : Inputs) (k : ℕ) → 1 ≤ k → k ≤ 15 → (k ≡ 1 → ⊥) → (k ≡ 8 → ⊥) → (k ≡ 15 → ⊥) →
    decimal_text (get_or (singles i) (k - 1) nan) ≡ field_value i k
single_value i k h l p q r =
    single_at i (k - 1) (omega arith) (λ e. p (omega arith)) (λ e. q (omega arith)) (λ e. r (omega arith))

-- ---- how long

name_most : (short long : Bool) → length (ascii (cond short "no" (cond long "yes" "neither 0 nor 1"))) ≤ 15
name_most true long = omega arith
name_most false true = omega arith
name_most false false = omega arith

pub length_flag : (flag : ℕ) → length (ascii (flag_name flag)) ≤ 15
length_flag flag = name_most (eqb flag 0) (eqb flag 1)

-- each of some texts has at most 44 characters
abbrev Short : List (List ℕ) → Type 0
Short [] = Unit
Short (l ∷ ls) = (length l ≤ 44) × Short ls

short_at : (ls : List (List ℕ)) → Short ls → (k : ℕ) → length (get_or ls k []) ≤ 44
short_at [] s k = omega arith
short_at (l ∷ ls) s zero = s.0
short_at (l ∷ ls) s (suc k) = short_at ls s.1 k

values_short : (i : Inputs) → Short (field_values i)
values_short i =
    let d = length_decimal in
    let w = i.route in
    let f = i.psc in
    let month = at_most_20 i.month in
    let flag = length_flag w.long_path in
    let model = length_model i.model in
    let a = length_right (decimal_of i.month) 20 (omega arith) (omega arith) in
    let b = length_right (ascii (flag_name w.long_path)) 20 (omega arith) (omega arith) in
    let e = length_right (ascii (model_name i.model)) 20 (omega arith) (omega arith) in (
      omega arith,
      (
        d i.ssn,
        (
          d i.gmt,
          (
            d w.tlat.0,
            (
              d w.tlong.0,
              (
                d w.rlat.0,
                (
                  d w.rlong.0,
                  (
                    omega arith,
                    (d f.e, (d f.f1, (d f.f2, (d f.es, (d i.pole.lat.0, (d i.pole.lon.0, (omega arith, tt))))))),
                  ),
                ),
              ),
            ),
          ),
        ),
      ),
    )

pub length_field_value : (i : Inputs) (k : ℕ) → length (field_value i k) ≤ 44
length_field_value i k = short_at (field_values i) (values_short i) (k - 1)

length_field_name : (w : Row) → length (field_name w) ≡ 24
unfolding field_name
length_field_name w =
    let l = ascii w.name ++ replicate 24 32 in
    let a = length-append (ascii w.name) (replicate 24 32) in
    length-take-le 24 l (omega arith)

pub length_field : (i : Inputs) (k : ℕ) → 1 ≤ k → k ≤ 15 → length (field_text i k) ≤ 79
unfolding field_text
length_field i k p q =
    let a = length_field_name (field_row k) in
    let b = length_field_value i k in
    let d = length_field_unit (k - 1) (omega arith) in
    simp length-append (omega arith)

length_line : (i : Inputs) (k : ℕ) → k < 15 → length (field_line i (k + 1)) ≤ 80
length_line i k h =
    let a = length_field i (k + 1) (omega arith) (omega arith) in
    omega (arith, length-append (field_text i (k + 1)) (ascii "\n"))

-- the first n lines
pub length_first : (i : Inputs) (n : ℕ) → n ≤ 15 → length (in_turn (λ (k : ℕ). field_line i (k + 1)) n) ≤ 80 * n
length_first i n h = length_turns (λ (k : ℕ). field_line i (k + 1)) 80 n (λ k l. length_line i k (omega arith))

pub length_fields : (i : Inputs) → length (fields_words i) ≤ 1200
unfolding fields_words
length_fields i = length_first i 15 (omega arith)
