-- Some lines in words, by computation. Assumes nothing.
use Rattle.std.proofs.Common.{Err, None, Ok, Some, ◌≡◌, refl, false, pos, List, [], ◌∷◌, ◌++◌, replicate, Float}
use lib.Ieee.{nan, fin, of_bits, round, size}
use Rattle.base.specs.declared.angle.Degrees.{Degrees}
use Rattle.base.specs.declared.refusal.Refusal.TheVariants.{Stale, Marker}
use Rattle.base.specs.Single.{decimal, minus_decimal}
use Rattle.maps.specs.declared.inputs.Inputs.{Inputs}
use Rattle.worksheet.specs.Journal.{told, shown}
use Rattle.wording.specs.Token.{ascii}
use Rattle.listing.specs.Text.{digit_of, has_digit, digit_at, digits_below}
use Rattle.listing.specs.Decimal.{nearest_of, sign_text, leading_of, text_of, minus_of, scaled_text, large_text, sized_text, decimal_text}
use Rattle.listing.specs.Page.{name_text, page_row}
use Rattle.listing.specs.Reason.{refused_words}
use Rattle.listing.specs.Survey.{refused_line}
use Rattle.listing.specs.Fields.{at_right, in_turn, field_name, field_text}
use Rattle.listing.specs.Columns.{abreast, cell, cells_text, side_row, points_head}
use Rattle.listing.specs.Spoken.{line_mark, verdict_words, shown_words, spoken_text, spoken_verdict}
use Rattle.listing.specs.declared.account.Came.TheVariants.{Opened, Set}
use Rattle.listing.specs.declared.account.Became.TheVariants.{TakenBack, Cancelled, Never}
use Rattle.listing.specs.Account.{at_line, came_words, came_text, came_line, became_words, balked_words, draft_line}

-- ---- fields

abbrev degrees : Float → Degrees
degrees x = record { 0 = x }

-- the month, the flag and the model of a sheet are wrong
abbrev some : Inputs
some = record {
  month = 4294967295;
  ssn = decimal 925 1;
  gmt = decimal 18 0;
  route = record { tlat = degrees (decimal 351 1); tlong = degrees (minus_decimal 101 0); rlat = degrees nan; rlong = degrees (decimal 0 1); long_path = 2 };
  psc = record { e = decimal 1 0; f1 = decimal 1 0; f2 = decimal 16777216 0; es = decimal 7 1 };
  pole = record { lat = degrees (decimal 785 1); lon = degrees (minus_decimal 69 0) };
  model = 1;
}

fields :
    (field_text some 1 ≡ ascii "month                         4294967295")
    × (field_text some 2 ≡ ascii "sunspot number                 92.500000")
    × (field_text some 3 ≡ ascii "hour                           18.000000  hours GMT")
    × (field_text some 5 ≡ ascii "transmitter longitude        -101.000000  degrees")
    × (field_text some 6 ≡ ascii "receiver latitude                    nan  degrees")
    × (field_text some 8 ≡ ascii "long way round           neither 0 nor 1")
    × (field_text some 11 ≡ ascii "factor F2               8388608*2^1")
    × (field_text some 15 ≡ ascii "F2 model                            URSI")
unfolding field_text field_name at_right decimal minus_decimal decimal_text sized_text large_text scaled_text minus_of text_of leading_of sign_text nearest_of has_digit digit_of digits_below digit_at of_bits round size
fields = (refl, refl, refl, refl, refl, refl, refl, refl)

-- ---- points side by side

-- of two points, and of eight, of which five are there
heads :
    (points_head (abreast 2) ≡ ascii "point                       1                2\n")
    × (abreast 8 ≡ 5)
unfolding abreast points_head cell in_turn at_right digits_below digit_at has_digit digit_of
heads = (refl, refl)

-- the row of the distance in km over a list of two numbers
distance : side_row (page_row 13) (cells_text (nan ∷ decimal 25 1 ∷ []) 1 1) ≡ ascii "gcd_km               2.500000  km\n"
unfolding side_row cell at_right in_turn name_text decimal decimal_text sized_text text_of leading_of sign_text nearest_of has_digit digit_of digits_below digit_at round
distance = refl

-- of two points, the second number being one of 2 ^ 24 or more
wide : side_row (page_row 25) (cells_text ((decimal 40684 6 ∷ replicate 28 nan) ++ (fin false 8998802 (pos 68) ∷ [])) 0 2) ≡ ascii "fi[0]                0.040684     8998802*2^68  MHz\n"
unfolding side_row cell at_right in_turn name_text decimal decimal_text sized_text large_text scaled_text minus_of text_of leading_of sign_text nearest_of has_digit digit_of digits_below digit_at round size
wide = refl

-- ---- answers

module _ (i : Inputs) (figures : List Float) where
  accepted : spoken_text 12 i (told (Ok tt)) ≡ ascii "line 12: accepted\n"
  unfolding spoken_text line_mark verdict_words digits_below digit_at has_digit digit_of
  accepted = refl

  refused : spoken_text 12 i (told (Err Stale)) ≡ ascii "line 12: refused 17 0: the worksheet has moved since the draft began\n"
  unfolding spoken_text line_mark verdict_words refused_line refused_words digits_below digit_at has_digit digit_of
  refused = refl

  not_shown : spoken_text 3 i (shown (Err (Marker 38548)) figures) ≡ ascii "line 3: refused 10 38548: the month file has a wrong marker at this byte\n"
  unfolding spoken_text line_mark shown_words refused_line refused_words digits_below digit_at has_digit digit_of
  not_shown = refl

opened : spoken_verdict 1 (Ok tt) ≡ ascii "line 1: accepted\n"
unfolding spoken_verdict line_mark verdict_words digits_below digit_at has_digit digit_of
opened = refl

-- ---- an audit

-- where a field comes from: of an open, of a change, of a field with a unit
origins :
    (came_line some 1 (Opened 1) ≡ ascii "month                         4294967295  opened at line 1\n")
    × (came_line some 2 (Set 1 3 8) ≡ ascii "sunspot number                 92.500000  set by desk 1 at line 3, settled at line 8\n")
    × (came_line some 3 (Opened 1) ≡ ascii "hour                           18.000000  hours GMT  opened at line 1\n")
    × (came_line some 15 (Set 4 18446744073709551615 8) ≡ ascii "F2 model                            URSI  set by desk 4 at line 18446744073709551615, settled at line 8\n")
unfolding came_line came_text came_words at_line field_text field_name at_right decimal decimal_text sized_text text_of leading_of sign_text nearest_of has_digit digit_of digits_below digit_at of_bits round size
origins = (refl, refl, refl, refl)

no_origin : (came_line some 0 (Opened 1) ≡ []) × (came_line some 16 (Set 1 3 8) ≡ [])
unfolding came_line
no_origin = (refl, refl)

-- drafts that are not in the sheet: each ending, with a refused commit and without
endings :
    (draft_line 2 5 None (Cancelled 7) ≡ ascii "desk 2, begun at line 5: cancelled at line 7\n")
    × (draft_line 1 5 None (TakenBack 7 9) ≡ ascii "desk 1, begun at line 5: committed at line 7, taken back at line 9\n")
    × (draft_line 3 5 None Never ≡ ascii "desk 3, begun at line 5: not committed by then\n")
    × (draft_line 2 5 (Some 6) (Cancelled 7) ≡ ascii "desk 2, begun at line 5: refused at line 6, cancelled at line 7\n")
    × (draft_line 1 5 (Some 6) (TakenBack 7 9) ≡ ascii "desk 1, begun at line 5: refused at line 6, committed at line 7, taken back at line 9\n")
    × (draft_line 3 5 (Some 6) Never ≡ ascii "desk 3, begun at line 5: refused at line 6, not committed by then\n")
unfolding draft_line balked_words became_words at_line digits_below digit_at has_digit digit_of
endings = (refl, refl, refl, refl, refl, refl)
