-- Document 01, At the desks: the ranges of the fields that more than one call is held to. Assumes
-- nothing.
use Rattle.std.specs.Prelude.{ℕ, Bool, ◌&&◌, ◌||◌, ◌==◌, nat_le, Float}
use Rattle.std.specs.Float.Ieee.{le}
use Rattle.base.specs.declared.angle.Degrees.{Degrees}
use Rattle.base.specs.declared.refusal.Refusal.TheVariants.{Month, Hour, Latitude, Longitude, Model}
use Rattle.base.specs.Refusal.{Verdict}
use Rattle.base.specs.Refusal.{refuse_unless}
use Rattle.base.specs.Single.{decimal, minus_decimal}

-- 'month 1 to 12'
abbrev pub is_month : ℕ → Bool
is_month m = nat_le 1 m && nat_le m 12

unfoldable pub month_check : ℕ → Verdict
month_check m = refuse_unless (is_month m) Month

abbrev pub is_bit : ℕ → Bool
is_bit w = w == 0 || w == 1

-- document 02, request 01: 'field 15 (0 CCIR, 1 URSI; a wrong model word is refusal 7)'
unfoldable pub model_check : ℕ → Verdict
model_check m = refuse_unless (is_bit m) Model

-- 'Ends are included; NaN is outside'
abbrev pub is_to : Float → Float → Float → Bool
is_to low high x = le low x && le x high

-- 'hour 0 to 24 (GMT)'
unfoldable pub hour_check : Float → Verdict
hour_check x = refuse_unless (is_to (decimal 0 1) (decimal 24 0) x) Hour

-- 'degrees, -90 to 90 and -180 to 180'; 'The place is the field's number, 1 to 14'
unfoldable pub latitude_check : ℕ → Degrees → Verdict
latitude_check field x = refuse_unless (is_to (minus_decimal 90 0) (decimal 90 0) x.0) (Latitude field)

unfoldable pub longitude_check : ℕ → Degrees → Verdict
longitude_check field x = refuse_unless (is_to (minus_decimal 180 0) (decimal 180 0) x.0) (Longitude field)
