-- `cngtim` and `geotim` of ionosphere.rs in its order of work, and document 01's **Clocks**.
-- Assumes nothing.
use Rattle.base.specs.declared.refusal.Refusal.{Refusal}
use Rattle.std.specs.Prelude.{ℕ, zero, suc, Bool, true, false, cond, pos, ◌+ℤ◌, nat_le, Float, Err, Ok, Result}
use Rattle.std.specs.Float.{binary32}
use Rattle.std.specs.Float.Ieee.{lt, eq, of_int, to_signed}
use Rattle.base.specs.declared.angle.Degrees.{Degrees}
use Rattle.base.specs.declared.angle.Radians.{Radians}
use Rattle.base.specs.declared.refusal.Refusal.TheVariants.{Hour}
use Rattle.base.specs.Refusal.{Verdict}
use Rattle.base.specs.Angle.{radians_of, degrees_of}
use Rattle.base.specs.Ranges.{hour_check, longitude_check}
use Rattle.base.specs.Refusal.{refuse_unless, ◌then◌, unless_refused}
use Rattle.base.specs.Single.{◌⊕◌, ◌⊖◌, ◌⊗◌, ◌⊘◌, decimal, minus_decimal}
use Rattle.maps.specs.declared.ionosphere.clocks.Direction.{Direction}
use Rattle.maps.specs.declared.ionosphere.clocks.Direction.TheVariants.{ToLocal, ToUniversal}
use Rattle.maps.specs.declared.ionosphere.clocks.Shifted.{Shifted}
use Rattle.maps.specs.declared.ionosphere.clocks.HourTimes.{HourTimes}

-- ---- CNGTIM

-- `fisw`: 'a direction (1 or -1, no third)'
unfoldable pub fisw_of : Direction → Float
fisw_of ToLocal = decimal 10 1
fisw_of ToUniversal = minus_decimal 10 1

unfoldable pub theta_of : Degrees → Float
theta_of xtheta = cond (lt xtheta.0 (decimal 0 1)) (decimal 3600 1 ⊕ xtheta.0) xtheta.0

-- x `as i32 as R`
unfoldable pub whole_of : Float → Float
whole_of x = of_int binary32 (to_signed 31 x)

abbrev pub fint1_of : Float → Float
fint1_of theta = whole_of (theta ⊘ decimal 1800 1)

abbrev pub fint2_of : Float → Float
fint2_of theta = whole_of (theta ⊘ decimal 3600 1)

-- the time after the shift
unfoldable pub after_shift : Float → Float → Direction → Float
after_shift time theta isw =
    let fint1 = fint1_of theta in
    let fint2 = fint2_of theta in
    time ⊕ fisw_of isw ⊗ (theta ⊘ decimal 150 1 ⊖ fint1 ⊗ decimal 240 1 ⊕ fint2 ⊗ decimal 240 1)

-- `cngday` of the time after the shift. The `f32` nearest to the Rust's 23.99999999 is 24.
unfoldable pub cngday_of : Float → Float
cngday_of time =
    let int1 = to_signed 31 ((time ⊖ decimal 2399999999 8) ⊘ decimal 240 1) in
    let int2 = to_signed 31 (time ⊘ decimal 240 1) in
    of_int binary32 (int1 +ℤ int2)

-- what the loop starts from: a time below 0 has a day more, and one at a theta of 360 a day less
unfoldable pub for_loop : Float → Float → Float
for_loop time theta = cond (lt time (decimal 0 1)) (time ⊕ decimal 240 1) time ⊖ fint2_of theta ⊗ decimal 240 1

-- n turns of the loop, or as many as there are before neither of its tests holds
unfoldable pub wraps : ℕ → Float → Float
wraps zero time = time
wraps (suc n) time =
    cond (lt time (decimal 0 1)) (wraps n (time ⊕ decimal 240 1))
    (cond (lt (decimal 240 1) time) (wraps n (time ⊖ decimal 240 1)) time)

-- One turn of the loop is as many as it takes (results/proofs/clock/Wraps.antt, `cngtim_settled`).
unfoldable pub cngtim_of : Float → Degrees → Direction → Shifted
cngtim_of time xtheta isw =
    let theta = theta_of xtheta in
    let shifted = after_shift time theta isw in
    cond (eq xtheta.0 (decimal 0 1)) (record { time = time; day = decimal 0 1 })
    (record { time = wraps 1 (for_loop shifted theta); day = cngday_of shifted })

-- ---- GEOTIM

-- `cngtim` at a longitude in radians times R2D: the time alone
unfoldable pub time_at : Float → Radians → Direction → Float
time_at time lon isw = (cngtim_of time (degrees_of lon) isw).time

-- `geotim`: the hour is local where `itim` is below 0
unfoldable pub geotim_of : ℕ → Bool → Radians → Radians → HourTimes
geotim_of jt true tlong rlong =
    let ckc = of_int binary32 (pos jt) in
    let gmt = time_at ckc tlong ToUniversal in
    record { gmt = gmt; lmt_tx = ckc; gmtr = time_at gmt rlong ToLocal }
geotim_of jt false tlong rlong =
    let gmt = of_int binary32 (pos jt) in
    record { gmt = gmt; lmt_tx = time_at gmt tlong ToLocal; gmtr = time_at gmt rlong ToLocal }

-- ---- the answers: 'only the typed value is held to the range'

-- 'refuses 3, then 5 (places 3 and 5)'
unfoldable pub time_check : Float → Degrees → Verdict
time_check time lon = hour_check time then longitude_check 5 lon

-- 'a whole hour 0 to 24 .. It refuses 3 (place 3), then 5 (place 5, then 7)'
unfoldable pub hours_check : ℕ → Degrees → Degrees → Verdict
hours_check hour tlong rlong = refuse_unless (nat_le hour 24) Hour then longitude_check 5 tlong then longitude_check 7 rlong

unfoldable pub moved_of : Float → Degrees → Direction → Result Shifted Refusal
moved_of time lon isw = unless_refused (time_check time lon) (Ok (cngtim_of time lon isw)) Err

-- 'The Rust's `geotim` gets each longitude times D2R'
unfoldable pub times_of : ℕ → Bool → Degrees → Degrees → Result HourTimes Refusal
times_of hour local tlong rlong =
    unless_refused (hours_check hour tlong rlong)
    (Ok (geotim_of hour local (radians_of tlong) (radians_of rlong)))
    Err

unfoldable pub local_time_of : Float → Degrees → Result Float Refusal
local_time_of gmt lon = unless_refused (time_check gmt lon) (Ok (time_at gmt (radians_of lon) ToLocal)) Err
