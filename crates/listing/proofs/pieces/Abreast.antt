-- The parts of a page with its points side by side: how long each is at most. Assumes nothing.
use Rattle.std.proofs.Common.{List, ℕ, ◌+◌, ◌-◌, ◌*◌, ◌≤◌, ◌<◌, arith, lt-ltb, le-ltb, length, get_or, replicate, length-append, Float}
use native.Mathlib.Decide.{dec_lt}
use lib.ListN.{length-replicate}
use lib.Ieee.{nan}
use Rattle.base.proofs.verdicts.Picks.{cond_true, cond_false}
use Rattle.maps.specs.declared.inputs.Inputs.{Inputs}
use Rattle.listing.specs.Text.{decimal_of}
use Rattle.listing.specs.Decimal.{decimal_text}
use Rattle.listing.specs.Page.{page_row}
use Rattle.listing.specs.Fields.{at_right}
use Rattle.listing.specs.Columns.{abreast, cell, cells_text, side_row, side_rows, point_numbers, points_head, columns_text}
use Rattle.listing.proofs.digits.Places.{at_most_20}
use Rattle.listing.proofs.digits.Values.{length_decimal}
use Rattle.listing.proofs.pieces.Rows.{length_name, length_its_unit}
use Rattle.listing.proofs.pieces.Series.{length_turns}
use Rattle.listing.proofs.pieces.Named.{length_fields}

length_cell : (l : List ℕ) (most : ℕ) → 16 ≤ most → length l ≤ most → length (cell l) ≤ 1 + most
unfolding cell at_right
length_cell l most k h = omega (arith, length-append (replicate (16 - length l) 32) l, length-replicate {A = ℕ} (16 - length l) 32)

pub length_cells : (xs : List Float) (at n : ℕ) → length (cells_text xs at n) ≤ 45 * n
length_cells xs at n =
    length_turns (λ (p : ℕ). cell (decimal_text (get_or xs (at + 29 * p) nan))) 45 n
    (λ p h. length_cell (decimal_text (get_or xs (at + 29 * p) nan)) 44 (omega arith) (length_decimal (get_or xs (at + 29 * p) nan)))

length_side : (k : ℕ) (xs : List Float) (at n : ℕ) → k < 47 → n ≤ 5 → length (side_row (page_row k) (cells_text xs at n)) ≤ 247
unfolding side_row
length_side k xs at n h l =
    let a = length_name (page_row k) in
    let b = length_cells xs at n in
    let d = length_its_unit k h in
    simp length-append (omega arith)

pub length_sides : (first : ℕ) (xs : List Float) (at n m : ℕ) → first + m ≤ 47 → n ≤ 5 → length (side_rows first xs at n m) ≤ 247 * m
length_sides first xs at n m h l =
    length_turns (λ (k : ℕ). side_row (page_row (first + k)) (cells_text xs (at + k) n)) 247 m
    (λ k q. length_side (first + k) xs (at + k) n (omega arith) l)

pub length_numbers : (n : ℕ) → length (point_numbers n) ≤ 21 * n
length_numbers n =
    length_turns (λ (p : ℕ). cell (decimal_of (p + 1))) 21 n
    (λ p h. length_cell (decimal_of (p + 1)) 20 (omega arith) (at_most_20 (p + 1)))

pub length_head : (n : ℕ) → n ≤ 5 → length (points_head n) ≤ 118
unfolding points_head
length_head n h =
    let a = length_numbers n in
    simp length-append (omega arith)

few : (count : ℕ) → abreast count ≤ 5
unfolding abreast
few count =
    elim (dec_lt count 5) [
      | yes h ↦ (let e = cond_true count 5 (lt-ltb count 5 h) in omega arith)
      | no h ↦ (let e = cond_false count 5 (le-ltb count 5 (omega arith)) in omega arith)
    ]

pub length_columns : (i : Inputs) (count : ℕ) (xs : List Float) → length (columns_text i count xs) ≤ 10000
unfolding columns_text
length_columns i count xs =
    let n = abreast count in
    let a = length_fields i in
    let b = length_sides 12 xs 0 1 6 (omega arith) (omega arith) in
    let d = length_head n (few count) in
    let e = length_sides 18 xs 6 n 29 (omega arith) (few count) in
    simp length-append (omega arith)
