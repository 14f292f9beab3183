-- CNGTIM and GEOTIM (document 01, Clocks): with the time from 0 to 24 and the longitude at most 181
-- degrees either way one turn of the loop is enough, and the answer is a time from 0 to 24 with a
-- day of -1, 0 or 1. The time after the shift is from -13 to 37 (`Offsets`), so that the loop
-- starts between -24 and 48. Assumes nothing.
use Rattle.std.proofs.Common.{Err, Ok, ◌≡◌, refl, sym, ap, subst, ◌∙◌, ◌⊎◌, inl, inr, Bool, true, false, cond, ℕ, zero, suc, ◌*◌, ◌≤◌, zero-mul, arith, T, eqb, leb, leb→le, eqb→eq, lit<, ℤ, pos, negsuc, ◌+ℤ◌, Float}
use lib.Ieee.{nan, inf, fin, binary32, up, down, round, neg, add, sub, mul, div, lt, le, eq, of_int, to_signed}
use lib.Ieee.Fits.{and_l, and_r}
use lib.Ieee.Order.{round_mono}
use lib.Ieee.Scale.{finite}
use Rattle.base.specs.declared.angle.Degrees.{Degrees}
use Rattle.base.specs.declared.refusal.Refusal.{Refusal}
use Rattle.base.specs.declared.refusal.Refusal.TheVariants.{Hour as BadHour, Longitude}
use Rattle.base.specs.Refusal.{Verdict}
use Rattle.base.specs.Ranges.{is_to, hour_check, longitude_check}
use Rattle.base.specs.Refusal.{refuse_unless, ◌then◌, unless_refused}
use Rattle.base.specs.Single.{◌⊕◌, ◌⊖◌, ◌⊗◌, ◌⊘◌, decimal, minus_decimal}
use Rattle.base.specs.Constants.{R2D, PI, PI2}
use Rattle.base.specs.Angle.{radians_of, degrees_of}
use Rattle.base.proofs.verdicts.Picks.{cond_true, cond_false}
use Rattle.base.proofs.order.Order.{nought, cross→le, no_nan_finite, trans_le, lt→le, not-lt→le, Between, wider, between_finite}
use Rattle.base.proofs.order.Monotone.{div_right}
use Rattle.base.proofs.order.Intervals.{exactly, add_in, sub_in, mul_in, mul_about}
use Rattle.maps.specs.declared.ionosphere.clocks.Direction.{Direction}
use Rattle.maps.specs.declared.ionosphere.clocks.Direction.TheVariants.{ToLocal, ToUniversal}
use Rattle.maps.specs.declared.ionosphere.clocks.Shifted.{Shifted}
use Rattle.maps.specs.Clocks.{theta_of, whole_of, after_shift, cngday_of, for_loop, wraps, cngtim_of, time_at, geotim_of, time_check, hours_check, moved_of, times_of, local_time_of}
use Rattle.results.specs.AsInTheRust.{InDay, DayChange, yesterday, today, tomorrow, Settled, MovedInDay, TimesInDay, LocalInDay}
use Rattle.results.proofs.clock.Clock.{lt_not_le, Hour, farthest, typed_longitude}
use Rattle.results.proofs.clock.WholeParts.{whole_below, low_whole, high_whole, minus_one}
use Rattle.results.proofs.clock.Offsets.{day, half, full, one, thirteen, Turn, theta_is, theta_turn, small_offset, after_is, Later, later}

-- ---- the loop
abbrev Start : Float → Type 0
Start t = Between (neg day) (fin false 3 (pos 4)) t

abbrev start : Float → Float → Float
start t fint2 = cond (lt t nought) (t ⊕ day) t ⊖ fint2 ⊗ day

start_is : (t theta : Float) → for_loop t theta ≡ start t (whole_of (theta ⊘ full))
unfolding for_loop decimal round
start_is t theta = refl

start_in_law : (t fint2 : Float) → Later t → Between nought one fint2 → Start (start t fint2)
unfolding le neg add sub mul
start_in_law t fint2 l k = sub_in binary32 (neg day) (fin false 3 (pos 4)) tt (raised (lt t nought) refl) (mul_in binary32 nought day tt k (exactly day tt))
  where
    raised : (a : Bool) → lt t nought ≡ a → Between nought (fin false 3 (pos 4)) (cond a (t ⊕ day) t)
    raised true e =
        let c : Between (neg thirteen) nought t = record { low = l.low; high = lt→le t nought (subst T (sym e) tt) } in
        add_in binary32 nought (fin false 3 (pos 4)) tt c (exactly day tt)
    raised false e =
        let p : T (finite t) = between_finite {lo = neg thirteen} {hi = fin false 37 (pos 0)} tt tt l in
        record { low = not-lt→le t nought (no_nan_finite t p) (no_nan_finite nought tt) e; high = trans_le t (fin false 37 (pos 0)) (fin false 3 (pos 4)) l.high tt }

not_lt : (x y : Float) → T (finite x) → T (finite y) → T (le y x) → lt x y ≡ false
not_lt x y p q h = go (lt x y) refl
  where
    go : (b : Bool) → lt x y ≡ b → b ≡ false
    go true e = absurd (lt_not_le x y p q (subst T (sym e) tt) h)
    go false e = refl

in_day : (time : Float) → Between nought day time → InDay time
unfolding decimal round
in_day time b =
    let p : T (finite time) = between_finite {lo = nought} {hi = day} tt tt b in
    record { from = b.low; to = b.high; not_below = not_lt time nought p tt b.low; not_above = not_lt day time tt p b.high }

pub hour_in_day : (time : Float) → Hour time → InDay time
unfolding decimal round
hour_in_day time h = in_day time h

pub in_day_hour : {time : Float} → InDay time → Hour time
in_day_hour d = record { low = d.from; high = d.to }

-- the loop leaves such a time
pub rests : (n : ℕ) (time : Float) → InDay time → wraps n time ≡ time
unfolding wraps
rests zero time d = refl
rests (suc n) time d = cond_false _ _ d.not_below ∙ cond_false _ _ d.not_above

-- one turn is enough
record Ends (t : Float) : Type 0 where
  day : InDay (wraps 1 t)
  more : (n : ℕ) → wraps (suc n) t ≡ wraps 1 t

ends : (t : Float) → Start t → Ends t
unfolding wraps decimal round le neg add sub
ends t b = go (lt t nought) (lt day t) refl refl
  where
    p : T (finite t)
    p = between_finite {lo = neg day} {hi = fin false 3 (pos 4)} tt tt b

    go : (u v : Bool) → lt t nought ≡ u → lt day t ≡ v → Ends t
    go true v e f =
        let c : Between (neg day) nought t = record { low = b.low; high = lt→le t nought (subst T (sym e) tt) } in
        let r = in_day (t ⊕ day) (add_in binary32 nought day tt c (exactly day tt)) in
        record { day = subst InDay (sym (cond_true _ _ e)) r; more = λ n. cond_true _ _ e ∙ rests n (t ⊕ day) r ∙ sym (cond_true _ _ e) }
    go false true e f =
        let c : Between day (fin false 3 (pos 4)) t = record { low = lt→le day t (subst T (sym f) tt); high = b.high } in
        let r = in_day (t ⊖ day) (sub_in binary32 nought day tt c (exactly day tt)) in
        record { day = subst InDay (sym (cond_false _ _ e ∙ cond_true _ _ f)) r; more = λ n. (cond_false _ _ e ∙ cond_true _ _ f) ∙ rests n (t ⊖ day) r ∙ sym (cond_false _ _ e ∙ cond_true _ _ f) }
    go false false e f =
        let r = in_day t (record { low = not-lt→le t nought (no_nan_finite t p) (no_nan_finite nought tt) e; high = not-lt→le day t (no_nan_finite day tt) (no_nan_finite t p) f }) in
        record { day = subst InDay (sym (rests 1 t r)) r; more = λ n. rests (suc n) t r ∙ sym (rests 1 t r) }

-- ---- the change of day
abbrev day_of : Float → Float
day_of t = of_int binary32 (to_signed 31 ((t ⊖ day) ⊘ day) +ℤ to_signed 31 (t ⊘ day))

day_is : (t : Float) → cngday_of t ≡ day_of t
unfolding cngday_of decimal round
day_is t = refl

-- by 24, of either sign
days_in : {a b x : Float} (lo hi : Float) → T (finite a) → T (finite b) → T (le lo (a ⊘ day)) → T (le (b ⊘ day) hi) → Between a b x → Between lo hi (x ⊘ day)
days_in {a} {b} {x} lo hi p q l h c =
    let r = between_finite p q c in
    record { low = trans_le lo (a ⊘ day) (x ⊘ day) l (div_right binary32 a x day p r tt c.low); high = trans_le (x ⊘ day) (b ⊘ day) hi (div_right binary32 x b day r q tt c.high) h }

both_wholes : (a b : ℤ) → (a ≡ negsuc 0) ⊎ (a ≡ pos 0) → (b ≡ pos 0) ⊎ (b ≡ pos 1) → DayChange (of_int binary32 (a +ℤ b))
unfolding of_int decimal minus_decimal round
both_wholes a b (inl p) (inl q) = yesterday (λ t. of_int binary32 (p t +ℤ q t))
both_wholes a b (inl p) (inr q) = today (λ t. of_int binary32 (p t +ℤ q t))
both_wholes a b (inr p) (inl q) = today (λ t. of_int binary32 (p t +ℤ q t))
both_wholes a b (inr p) (inr q) = tomorrow (λ t. of_int binary32 (p t +ℤ q t))

day_change : (t : Float) → Later t → DayChange (cngday_of t)
unfolding le neg add sub div
day_change t l =
    let e : Between (fin true 37 (pos 0)) thirteen (t ⊖ day) = sub_in binary32 (fin true 37 (pos 0)) thirteen tt l (exactly day tt) in
    subst DayChange (sym (day_is t))
    (both_wholes (to_signed 31 ((t ⊖ day) ⊘ day)) (to_signed 31 (t ⊘ day))
    (low_whole ((t ⊖ day) ⊘ day) (days_in (fin true 13 (negsuc 2)) (fin false 5 (negsuc 2)) tt tt tt tt e))
    (high_whole (t ⊘ day) (days_in (fin true 5 (negsuc 2)) (fin false 13 (negsuc 2)) tt tt tt tt l)))

-- 'after the shift, a time of exactly 0 gives -1', of either sign
zero_between : (t : Float) → T (eq t nought) → Between nought nought t
unfolding eq
zero_between nan h = absurd h
zero_between (inf s) h = absurd h
zero_between (fin true m e) h =
    let u = eqb→eq (m * up e * 1) (0 * down e) (and_l (eqb (m * up e * 1) (0 * down e)) (eqb (m * up e * 1) 0) h) in
    record { low = cross→le nought (fin true m e) tt tt (omega (arith, zero-mul (down e))); high = cross→le (fin true m e) nought tt tt (omega (arith, zero-mul (down e))) }
zero_between (fin false m e) h =
    let u = eqb→eq (m * up e * 1) (0 * down e) (and_l (eqb (m * up e * 1) (0 * down e)) true h) in
    record { low = cross→le nought (fin false m e) tt tt (omega (arith, zero-mul (down e))); high = cross→le (fin false m e) nought tt tt (omega (arith, zero-mul (down e))) }

zero_change : (t : Float) → T (eq t nought) → cngday_of t ≡ minus_decimal 10 1
unfolding le neg add sub div of_int minus_decimal round
zero_change t h =
    let z = zero_between t h in
    let e : Between (neg day) (neg day) (t ⊖ day) = sub_in binary32 (neg day) (neg day) tt z (exactly day tt) in
    let a = minus_one ((t ⊖ day) ⊘ day) (days_in (neg one) (neg one) tt tt tt tt e) in
    let b = no_whole (t ⊘ day) (days_in nought nought tt tt tt tt z) in
    day_is t ∙ (λ i. of_int binary32 (a i +ℤ b i))
  where
    no_whole : (x : Float) → Between nought nought x → to_signed 31 x ≡ pos 0
    no_whole x b = whole_below 0 x (lit< tt) (wider nought (fin false 1000 (pos 0)) tt tt b) (λ u. trans_le one x nought u b.high) b.low

-- ---- CNGTIM
-- a longitude as typed, and one that D2R and R2D may have carried past 180
abbrev pub Typed : Degrees → Type 0
Typed d = Between (minus_decimal 1800 1) (decimal 1800 1) d.0

abbrev pub Near : Degrees → Type 0
Near d = Between (minus_decimal 1810 1) (decimal 1810 1) d.0

abbrev pub carried : Degrees → Degrees
carried d = degrees_of (radians_of d)

pub typed_near : (d : Degrees) → Typed d → Near d
unfolding decimal minus_decimal round le
typed_near d b = wider (minus_decimal 1810 1) (decimal 1810 1) tt tt b

pub carried_near : (d : Degrees) → Typed d → Near (carried d)
unfolding degrees_of farthest PI PI2 R2D decimal minus_decimal round neg add sub mul le
carried_near d b = mul_about binary32 (minus_decimal 1810 1) (decimal 1810 1) tt (typed_longitude d b) (exactly R2D tt)

module _ (time : Float) (x : Degrees) (isw : Direction) where
  -- 'longitude 0 leaves the time and gives 0', for either zero and any time
  pub zero_leaves : eq x.0 (decimal 0 1) ≡ true → cngtim_of time x isw ≡ record { time = time; day = decimal 0 1 }
  unfolding cngtim_of
  zero_leaves e = cond_true _ _ e

  elsewhere : eq x.0 (decimal 0 1) ≡ false → cngtim_of time x isw ≡ record { time = wraps 1 (for_loop (after_shift time (theta_of x) isw) (theta_of x)); day = cngday_of (after_shift time (theta_of x) isw) }
  unfolding cngtim_of
  elsewhere e = cond_false _ _ e

  -- 'otherwise, after the shift, a time of exactly 0 gives -1'
  pub exact_zero : eq x.0 (decimal 0 1) ≡ false → T (eq (after_shift time (theta_of x) isw) (decimal 0 1)) → (cngtim_of time x isw).day ≡ minus_decimal 10 1
  unfolding decimal round
  exact_zero e h = ap (λ (s : Shifted). s.day) (elsewhere e) ∙ zero_change (after_shift time (theta_of x) isw) h

  module _ (h : Hour time) (b : Near x) where
    turn : Turn (theta_of x)
    unfolding decimal minus_decimal round neg
    turn = subst Turn (sym (theta_is x)) (theta_turn x.0 b)

    shifted_in : Later (after_shift time (theta_of x) isw)
    unfolding decimal round
    shifted_in = subst Later (sym (after_is time (theta_of x) isw)) (later time (theta_of x) isw h (small_offset (theta_of x) turn))

    ended : Ends (for_loop (after_shift time (theta_of x) isw) (theta_of x))
    ended =
        ends (for_loop (after_shift time (theta_of x) isw) (theta_of x))
        (subst Start (sym (start_is (after_shift time (theta_of x) isw) (theta_of x)))
        (start_in_law (after_shift time (theta_of x) isw) (whole_of (theta_of x ⊘ full)) shifted_in (small_offset (theta_of x) turn).turns))

    pub cngtim_settled : Settled time x isw
    cngtim_settled = go (eq x.0 (decimal 0 1)) refl
      where
        go : (a : Bool) → eq x.0 (decimal 0 1) ≡ a → Settled time x isw
        go true e = record { more = ended.more; day = subst (λ (s : Shifted). InDay s.time) (sym (zero_leaves e)) (hour_in_day time h); change = subst (λ (s : Shifted). DayChange s.day) (sym (zero_leaves e)) (today refl) }
        go false e = record { more = ended.more; day = subst (λ (s : Shifted). InDay s.time) (sym (elsewhere e)) ended.day; change = subst (λ (s : Shifted). DayChange s.day) (sym (elsewhere e)) (day_change (after_shift time (theta_of x) isw) shifted_in) }

-- ---- GEOTIM
-- CNGTIM at the longitude d, typed and carried through radians
pub clck_settled : (gmt : Float) (d : Degrees) (isw : Direction) → Hour gmt → Typed d → Settled gmt (carried d) isw
clck_settled gmt d isw h b = cngtim_settled gmt (carried d) isw h (carried_near d b)

time_in_day : (gmt : Float) (d : Degrees) (isw : Direction) → Hour gmt → Typed d → InDay (time_at gmt (radians_of d) isw)
unfolding time_at
time_in_day gmt d isw h b = (clck_settled gmt d isw h b).day

whole_hour : (jt : ℕ) → jt ≤ 24 → Hour (of_int binary32 (pos jt))
unfolding of_int decimal
whole_hour jt h = record { low = round_mono binary32 0 10 jt 1 (lit< tt) (lit< tt) (omega arith); high = round_mono binary32 jt 1 240 10 (lit< tt) (lit< tt) (omega arith) }

-- all three times of the hour are in the day, and both loops have ended
pub record SettledHours (jt : ℕ) (local : Bool) (tlong rlong : Degrees) : Type 0 where
  pub gmt : InDay (geotim_of jt local (radians_of tlong) (radians_of rlong)).gmt
  pub lmt_tx : InDay (geotim_of jt local (radians_of tlong) (radians_of rlong)).lmt_tx
  pub gmtr : InDay (geotim_of jt local (radians_of tlong) (radians_of rlong)).gmtr
  pub first : Settled (of_int binary32 (pos jt)) (carried tlong) (cond local ToUniversal ToLocal)
  pub second : Settled (geotim_of jt local (radians_of tlong) (radians_of rlong)).gmt (carried rlong) ToLocal

pub geotim_settled : (jt : ℕ) (local : Bool) (tlong rlong : Degrees) → jt ≤ 24 → Typed tlong → Typed rlong → SettledHours jt local tlong rlong
unfolding geotim_of
geotim_settled jt true tlong rlong h b c =
    let ckc = of_int binary32 (pos jt) in
    let w = whole_hour jt h in
    let g = time_in_day ckc tlong ToUniversal w b in
    let i = in_day_hour g in
    record {
      gmt = g;
      lmt_tx = hour_in_day ckc w;
      gmtr = time_in_day (time_at ckc (radians_of tlong) ToUniversal) rlong ToLocal i c;
      first = clck_settled ckc tlong ToUniversal w b;
      second = clck_settled (time_at ckc (radians_of tlong) ToUniversal) rlong ToLocal i c;
    }
geotim_settled jt false tlong rlong h b c =
    let ckc = of_int binary32 (pos jt) in
    let w = whole_hour jt h in
    record {
      gmt = hour_in_day ckc w;
      lmt_tx = time_in_day ckc tlong ToLocal w b;
      gmtr = time_in_day ckc rlong ToLocal w c;
      first = clck_settled ckc tlong ToLocal w b;
      second = clck_settled ckc rlong ToLocal w c;
    }

-- ---- the answers: whatever is asked, an answer that is no refusal is of the day
-- what the checks accept
is_hour : (x : Float) → is_to (decimal 0 1) (decimal 24 0) x ≡ true → Hour x
unfolding decimal round
is_hour x e = let t = subst T (sym e) tt in record { low = and_l (le nought x) (le x day) t; high = and_r (le nought x) (le x day) t }

is_typed : (d : Degrees) → is_to (minus_decimal 180 0) (decimal 180 0) d.0 ≡ true → Typed d
unfolding decimal minus_decimal round
is_typed d e = let t = subst T (sym e) tt in record { low = and_l (le (minus_decimal 180 0) d.0) (le d.0 half) t; high = and_r (le (minus_decimal 180 0) d.0) (le d.0 half) t }

checked : (A : Verdict → Type 0) (time : Float) (d : Degrees) → (Hour time → Typed d → A (Ok tt)) → ((why : Refusal) → A (Err why)) → A (time_check time d)
unfolding time_check hour_check longitude_check
checked A time d f g = go (is_to (decimal 0 1) (decimal 24 0) time) (is_to (minus_decimal 180 0) (decimal 180 0) d.0) refl refl
  where
    go : (a b : Bool) → is_to (decimal 0 1) (decimal 24 0) time ≡ a → is_to (minus_decimal 180 0) (decimal 180 0) d.0 ≡ b → A (refuse_unless a BadHour then refuse_unless b (Longitude 5))
    go true true p q = f (is_hour time p) (is_typed d q)
    go true false p q = g (Longitude 5)
    go false b p q = g BadHour

pub moved_in_day : (time : Float) (lon : Degrees) (isw : Direction) → MovedInDay (moved_of time lon isw)
unfolding moved_of
moved_in_day time lon isw =
    checked (λ (v : Verdict). MovedInDay (unless_refused v (Ok (cngtim_of time lon isw)) Err)) time lon
    (λ h b. let s = cngtim_settled time lon isw h (typed_near lon b) in (s.day, s.change))
    (λ why. tt)

pub local_in_day : (gmt : Float) (lon : Degrees) → LocalInDay (local_time_of gmt lon)
unfolding local_time_of
local_in_day gmt lon =
    checked (λ (v : Verdict). LocalInDay (unless_refused v (Ok (time_at gmt (radians_of lon) ToLocal)) Err)) gmt lon
    (λ h b. time_in_day gmt lon ToLocal h b)
    (λ why. tt)

pub times_in_day : (hour : ℕ) (local : Bool) (tlong rlong : Degrees) → TimesInDay (times_of hour local tlong rlong)
unfolding times_of hours_check longitude_check
times_in_day hour local tlong rlong = go (leb hour 24) (is_to (minus_decimal 180 0) (decimal 180 0) tlong.0) (is_to (minus_decimal 180 0) (decimal 180 0) rlong.0) refl refl refl
  where
    go :
        (a b c : Bool) → leb hour 24 ≡ a → is_to (minus_decimal 180 0) (decimal 180 0) tlong.0 ≡ b → is_to (minus_decimal 180 0) (decimal 180 0) rlong.0 ≡ c
        → TimesInDay (unless_refused (refuse_unless a BadHour then refuse_unless b (Longitude 5) then refuse_unless c (Longitude 7)) (Ok (geotim_of hour local (radians_of tlong) (radians_of rlong))) Err)
    go true true true p q r =
        let s = geotim_settled hour local tlong rlong (leb→le hour 24 (subst T (sym p) tt)) (is_typed tlong q) (is_typed rlong r) in
        (s.gmt, s.lmt_tx, s.gmtr)
    go true true false p q r = tt
    go true false c p q r = tt
    go false b c p q r = tt
