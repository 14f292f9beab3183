-- Document 01, Known points: the rows of `cngtim`, (j) to (l), by computation. Assumes nothing.
use Rattle.std.proofs.Common.{Ok, ◌≡◌, refl}
use lib.Ieee.{round, neg, add, sub, mul, div, lt, eq, le, of_int, to_signed}
use Rattle.base.specs.Single.{decimal, minus_decimal}
use Rattle.base.specs.Ranges.{hour_check, longitude_check}
use Rattle.maps.specs.declared.ionosphere.clocks.Direction.TheVariants.{ToLocal, ToUniversal}
use Rattle.maps.specs.Clocks.{fisw_of, theta_of, whole_of, after_shift, cngday_of, for_loop, wraps, cngtim_of, time_check, moved_of}

-- (j)
pub exact_midnight :
    moved_of (decimal 1 0) (record { 0 = decimal 15 0 }) ToUniversal
    ≡
    Ok (record { time = decimal 0 1; day = minus_decimal 1 0 })
unfolding moved_of time_check hour_check longitude_check cngtim_of theta_of after_shift fisw_of whole_of cngday_of for_loop wraps decimal minus_decimal round neg add sub mul div lt eq le of_int to_signed
exact_midnight = refl

-- (k)
pub next_day :
    moved_of (decimal 23 0) (record { 0 = decimal 15 0 }) ToLocal
    ≡
    Ok (record { time = decimal 24 0; day = decimal 1 0 })
unfolding moved_of time_check hour_check longitude_check cngtim_of theta_of after_shift fisw_of whole_of cngday_of for_loop wraps decimal minus_decimal round neg add sub mul div lt eq le of_int to_signed
next_day = refl

-- (l)
pub day_before :
    moved_of (decimal 5 1) (record { 0 = minus_decimal 15 0 }) ToLocal
    ≡
    Ok (record { time = decimal 235 1; day = minus_decimal 1 0 })
unfolding moved_of time_check hour_check longitude_check cngtim_of theta_of after_shift fisw_of whole_of cngday_of for_loop wraps decimal minus_decimal round neg add sub mul div lt eq le of_int to_signed
day_before = refl
