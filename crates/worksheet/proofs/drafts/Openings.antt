-- Empty words, a refused opening, and the ends of the ranges: by computation. Assumes nothing.
use Rattle.std.proofs.Common.{Err, Ok, List, [], ◌∷◌, ◌≡◌, refl, ap, Float, length}
use lib.Ieee.{nan, round, le}
use Rattle.base.specs.declared.angle.Degrees.{Degrees}
use Rattle.base.specs.declared.refusal.Refusal.TheVariants.{Month, Sunspot, Hour, Latitude, Longitude, Factor, Flag, Model}
use Rattle.base.specs.Single.{decimal, minus_decimal}
use Rattle.base.specs.Words.{word_at}
use Rattle.base.specs.Ranges.{month_check, hour_check, latitude_check, longitude_check, model_check}
use Rattle.maps.specs.Inputs.{inputs_from}
use Rattle.worksheet.specs.Inputs.{sunspot_check, factor_check, flag_check, inputs_check}
use Rattle.base.specs.declared.refusal.Refusal.{Refusal}
use Rattle.base.specs.Refusal.{Verdict}
use Rattle.base.specs.Refusal.{◌then◌}
use Rattle.maps.specs.declared.inputs.Inputs.{Inputs}
use Rattle.maps.specs.Figures.{sheet_path, points_or}
use Rattle.worksheet.specs.Desks.{fresh_sheet, open_of, sheet_opened_of}
use Rattle.worksheet.specs.Showing.{Source, inputs_shown, asked_check, judged_check, drawn_check, show_check, show_of}

-- 'Empty input prints exactly `refused 1 1`': every byte counts as 0
pub no_words : (sheet_opened_of []).answer ≡ Err Month
unfolding sheet_opened_of open_of inputs_check month_check inputs_from word_at
no_words = refl

-- what stands beside a refused opening: its own showing is refused by the same field, whatever is
-- lent
pub open_refused : (source : Source) (i : Inputs) (lent : List Float) (why : Refusal) → (open_of i).answer ≡ Err why
    → show_of source 0 lent (open_of i).sheet ≡ Err why
unfolding open_of show_of show_check judged_check asked_check inputs_shown fresh_sheet
open_refused source i lent why h = ap (λ (v : Verdict). points_or (v then drawn_check (source i) (length lent)) (sheet_path i).count) h

-- ---- 'Ends are included; NaN is outside'

abbrev pub degrees : Float → Degrees
degrees x = record { 0 = x }

pub months : month_check 0 ∷ month_check 1 ∷ month_check 12 ∷ month_check 13 ∷ [] ≡ Err Month ∷ (Ok tt) ∷ (Ok tt) ∷ Err Month ∷ []
unfolding month_check
months = refl

pub sunspots : sunspot_check (minus_decimal 1 3) ∷ sunspot_check (minus_decimal 0 0) ∷ sunspot_check (decimal 0 1) ∷ sunspot_check (decimal 300 0) ∷ sunspot_check (decimal 3001 1) ∷ sunspot_check nan ∷ []
    ≡ Err Sunspot ∷ (Ok tt) ∷ (Ok tt) ∷ (Ok tt) ∷ Err Sunspot ∷ Err Sunspot ∷ []
unfolding sunspot_check decimal minus_decimal round le
sunspots = refl

pub hours : hour_check (minus_decimal 1 3) ∷ hour_check (decimal 0 1) ∷ hour_check (decimal 24 0) ∷ hour_check (decimal 241 1) ∷ hour_check nan ∷ []
    ≡ Err Hour ∷ (Ok tt) ∷ (Ok tt) ∷ Err Hour ∷ Err Hour ∷ []
unfolding hour_check decimal minus_decimal round le
hours = refl

pub latitudes : latitude_check 4 (degrees (minus_decimal 901 1)) ∷ latitude_check 4 (degrees (minus_decimal 90 0)) ∷ latitude_check 6 (degrees (decimal 90 0)) ∷ latitude_check 13 (degrees (decimal 901 1)) ∷ []
    ≡ Err (Latitude 4) ∷ (Ok tt) ∷ (Ok tt) ∷ Err (Latitude 13) ∷ []
unfolding latitude_check decimal minus_decimal round le
latitudes = refl

pub longitudes : longitude_check 5 (degrees (minus_decimal 1801 1)) ∷ longitude_check 5 (degrees (minus_decimal 180 0)) ∷ longitude_check 7 (degrees (decimal 180 0)) ∷ longitude_check 14 (degrees (decimal 1801 1)) ∷ []
    ≡ Err (Longitude 5) ∷ (Ok tt) ∷ (Ok tt) ∷ Err (Longitude 14) ∷ []
unfolding longitude_check decimal minus_decimal round le
longitudes = refl

pub factors : factor_check 9 (decimal 124 3) ∷ factor_check 9 (decimal 125 3) ∷ factor_check 12 (decimal 8 0) ∷ factor_check 12 (decimal 81 1) ∷ []
    ≡ Err (Factor 9) ∷ (Ok tt) ∷ (Ok tt) ∷ Err (Factor 12) ∷ []
unfolding factor_check decimal round le
factors = refl

pub flags : flag_check 0 ∷ flag_check 1 ∷ flag_check 2 ∷ [] ≡ Ok tt ∷ (Ok tt) ∷ Err Flag ∷ []
unfolding flag_check
flags = refl

pub models : model_check 0 ∷ model_check 1 ∷ model_check 2 ∷ model_check 4294967295 ∷ [] ≡ Ok tt ∷ (Ok tt) ∷ Err Model ∷ Err Model ∷ []
unfolding model_check
models = refl
