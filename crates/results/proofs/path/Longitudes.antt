-- The longitudes of a path's control points: with both ends in range each is at most `farthest` in
-- size. What is at most one turn and a half in size is at most half a turn once folded: the ends
-- are computed with the engine's own `PI`, and rounding keeps order between them. Nothing on the
-- way is a NaN: every number has a bound, and no divisor is zero, since a cosine is divided by away
-- from the poles only, and the sine of the path's length is not zero (`Sines`). Assumes nothing.
use Rattle.std.proofs.Common.{◌≡◌, refl, sym, subst, inl, inr, Bool, true, false, not, ◌&&◌, cond, List, [], ◌∷◌, ℕ, zero, suc, ◌*◌, ◌^◌, ◌<◌, le_of_suc-le-suc, not-suc-le-zero, arith, T, eqb, pos, negsuc, Float, length, get_or}
use lib.Ieee.{nan, inf, fin, binary32, up, down, fits, round, neg, add, sub, mul, div, lt, le, is_nan}
use lib.Ieee.Scale.{finite}
use lib.Ieee.Fits.{round-fits, sub-fits}
use lib.Ieee.Positive.{positive}
use Rattle.base.specs.declared.angle.Degrees.{Degrees}
use Rattle.maps.specs.declared.inputs.MagneticPole.{MagneticPole}
use Rattle.base.specs.Single.{◌⊕◌, ◌⊖◌, ◌⊗◌, ◌⊘◌, decimal, minus_decimal}
use Rattle.base.specs.Double.{fraction}
use Rattle.base.specs.Number.{negative, abs_of, narrow_of}
use Rattle.base.specs.Constants.{D2R, PI, PI2, PIO2, RZ}
use Rattle.base.specs.Angle.{radians_of}
use Rattle.base.specs.Elementary.{acos_of, sin32_of, cos32_of, acos32_of}
use Rattle.base.proofs.order.Order.{nought, Between, wider, trans_le, neg_le, le→abs, abs_neg, abs_no_nan, abs_not_below, le_left, le_right, not-lt→le, total_le, no_nan_finite, finite_between, between_finite, size_between}
use Rattle.base.proofs.order.Monotone.{sub_mono, div_size, abs_finite}
use Rattle.base.proofs.order.Intervals.{exactly, sub_in, div_in}
use Rattle.results.proofs.numbers.Bounds.{sin32_size, cos32_size}
use Rattle.results.proofs.numbers.Sizes.{Sized, plus_sized, less_sized, times_sized, between_sized, larger, sized_number}
use Rattle.maps.specs.declared.geometry.Place.{Place}
use Rattle.maps.specs.declared.geometry.Track.{Track}
use Rattle.maps.specs.Geometry.{EPSLON, DDX, R1, latitude_of, distances_of, clamped_cosine, cos_between, dlong_of, at_least_minimum, gcd_of, from_north, circle_of, close, nudge_of, nudged_of, sign_of, acos_clamped, turned_of, folded_of, other_way, polar, place_of, end_longitude, end_of, down_meridian, circle_longitude, on_circle, sample_of, point_of, absent, control_point_if, control_row, rows_of, track_of, path_of, nowhere}
use Rattle.maps.specs.Layers.{clock_of}
use Rattle.results.proofs.path.SignRules.{acos_clamped_in}
use Rattle.results.proofs.field.Sines.{Away, faint, above_away, mul_away, sine_not_zero}
use Rattle.results.proofs.clock.Clock.{lt_not_le, not-le→lt, farthest, Hour, Longitude, OnClock, typed_longitude, clock_range}

-- ---- the ends
pub zero_longitude : Longitude (decimal 0 1)
unfolding farthest PI PI2 decimal round neg add sub le
zero_longitude = record { low = tt; high = tt }

pub end_longitude_law : (lat lon : Degrees) → Between (minus_decimal 1800 1) (decimal 1800 1) lon.0 → Longitude (end_longitude lat lon)
unfolding end_longitude
end_longitude_law lat lon b = go (lt (decimal 899 1) (abs_of lat.0))
  where
    go : (c : Bool) → Longitude (cond c (decimal 0 1) (radians_of lon).0)
    go true = zero_longitude
    go false = typed_longitude lon b

-- ---- folding
-- one turn and a half
abbrev most : Float
most = fin false 2470649 (negsuc 17)

-- a number that is at most PI in size is not folded
small : (x : Float) → T (le (neg PI) x) → T (le x PI) → T (lt PI (abs_of x)) → ⊥
unfolding PI decimal round
small x l h t =
    let a : T (le (abs_of x) PI) = le→abs x PI l h in
    let p : T (finite x) = finite_between (neg PI) x PI (unfold neg in tt) tt l h in
    let q : T (finite (abs_of x)) = finite_between nought (abs_of x) PI tt tt (abs_not_below x (no_nan_finite x p)) a in
    lt_not_le PI (abs_of x) tt q t a

module _ (x : Float) (b : Between (neg most) most x) where
  number : T (not (is_nan x))
  unfolding neg
  number = no_nan_finite x (between_finite {lo = neg most} {hi = most} tt tt b)

  turned_down : T (lt PI (abs_of x)) → T (le nought x) → Longitude (x ⊖ abs_of PI2)
  unfolding farthest PI PI2 abs_of negative decimal round neg add sub le
  turned_down t s = elim (total_le PI x (no_nan_finite PI tt) number) [
    | inl h ↦ let c : Between PI most x = record { low = h; high = b.high } in sub_in binary32 (neg farthest) farthest tt c (exactly PI2 tt)
    | inr h ↦ absurd (small x (trans_le (neg PI) nought x tt s) h t)
  ]

  turned_up : T (lt PI (abs_of x)) → T (le x nought) → Longitude (x ⊖ neg (abs_of PI2))
  unfolding farthest PI PI2 abs_of negative decimal round neg add sub le
  turned_up t s = elim (total_le x (neg PI) number (no_nan_finite (neg PI) tt)) [
    | inl h ↦ let c : Between (neg most) (neg PI) x = record { low = b.low; high = h } in sub_in binary32 (neg farthest) farthest tt c (exactly (neg PI2) tt)
    | inr h ↦ absurd (small x h (trans_le x nought PI s tt) t)
  ]

  turned_in : T (lt PI (abs_of x)) → Longitude (turned_of x)
  unfolding turned_of sign_of decimal round
  turned_in t = go (le nought x) refl
    where
      go : (c : Bool) → le nought x ≡ c → Longitude (x ⊖ cond c (abs_of PI2) (neg (abs_of PI2)))
      go true e = turned_down t (subst T (sym e) tt)
      go false e = turned_up t (elim (total_le nought x (no_nan_finite nought tt) number) [ inl h ↦ absurd (subst T e h) | inr h ↦ h ])

  kept : lt PI (abs_of x) ≡ false → Longitude x
  unfolding farthest PI PI2 decimal round neg add sub le
  kept e =
      let a : T (le (abs_of x) PI) = not-lt→le PI (abs_of x) (no_nan_finite PI tt) (le_right nought (abs_of x) (abs_not_below x number)) e in
      wider (neg farthest) farthest tt tt (size_between {a = PI} a)

  pub folded_in : Longitude (folded_of x)
  unfolding folded_of
  folded_in = go (lt PI (abs_of x)) refl
    where
      go : (c : Bool) → lt PI (abs_of x) ≡ c → Longitude (cond c (turned_of x) x)
      go true e = turned_in (subst T (sym e) tt)
      go false e = kept e

-- ---- off the transmitter's longitude
-- a, or the rest of the turn, off a longitude, by the sign of d
abbrev onward : Float → Bool → Float → Float → Float
onward lon other d a = folded_of (lon ⊖ sign_of (other_way other a) d)

abbrev pub four : Float
four = fin false 1 (pos 2)

way_in : (other : Bool) (a : Float) → Between nought four a → Between nought PI2 (other_way other a)
unfolding other_way PI2 decimal round neg add sub le
way_in true a b = sub_in binary32 nought PI2 tt (exactly PI2 tt) b
way_in false a b = wider nought PI2 tt tt b

sign_in : (a d : Float) → Between nought PI2 a → Between (neg PI2) PI2 (sign_of a d)
unfolding sign_of PI2 decimal round neg le
sign_in a d b =
    go (le (decimal 0 1) d)
    (record { low = trans_le (neg PI2) nought (abs_of a) tt (abs_not_below a (le_right nought a b.low)); high = le→abs a PI2 (trans_le (neg PI2) nought a tt b.low) b.high })
  where
    go : (c : Bool) → Between (neg PI2) PI2 (abs_of a) → Between (neg PI2) PI2 (cond c (abs_of a) (neg (abs_of a)))
    go true s = s
    go false s = record { low = neg_le (abs_of a) PI2 s.high; high = neg_le (neg PI2) (abs_of a) s.low }

onward_in : (lon : Float) (other : Bool) (d a : Float) → Longitude lon → Between nought four a → Longitude (onward lon other d a)
unfolding farthest PI PI2 decimal round neg add sub le
onward_in lon other d a b k = folded_in (lon ⊖ sign_of (other_way other a) d) (sub_in binary32 (neg most) most tt b (sign_in (other_way other a) d (way_in other a k)))

acos_in : (q : Float) → T (not (is_nan q)) → Between nought four (acos_clamped q)
unfolding fraction round
acos_in q h = acos_clamped_in q h

abbrev pub one : Float
one = fin false 1 (pos 0)

abbrev pub two : Float
two = fin false 1 (pos 1)

abbrev pub eight : Float
eight = fin false 1 (pos 3)

abbrev pub sixteen : Float
sixteen = fin false 1 (pos 4)

-- what every angle here is at most
abbrev pub angle : Float
angle = fin false 1 (pos 5)

pub sines : (v : Float) → Sized angle v → Sized two (sin32_of v) × Sized two (cos32_of v)
unfolding fraction round le
sines v h =
    let k : T (le (abs_of v) (fraction 1000 1)) = trans_le (abs_of v) angle (fraction 1000 1) h.size tt in
    (record { size = sin32_size v k }, record { size = cos32_size v k })

-- ---- the ends
pub record Known (p : Place) : Type 0 where
  pub lat : Sized angle p.lat
  pub sin : Sized two p.sin
  pub cos : Sized two p.cos
  pub lon : Longitude p.lon

pub placed_known : (lat lon : Float) → Sized angle lat → Longitude lon → Known (place_of lat lon)
unfolding place_of
placed_known lat lon h b = let s = sines lat h in record { lat = h; sin = s.0; cos = s.1; lon = b }

-- what a latitude in degrees is at most, nudged
abbrev pub hundred : Float
hundred = fin false 25 (pos 2)

pub D2R_sized : Sized (fin false 1 (negsuc 4)) D2R
unfolding D2R decimal round abs_of negative le
D2R_sized = record { size = tt }

end_known : (lat lon : Degrees) → Sized hundred lat.0 → Between (minus_decimal 1800 1) (decimal 1800 1) lon.0 → Known (end_of lat lon)
unfolding end_of radians_of mul le
end_known lat lon h b = placed_known (lat.0 ⊗ D2R) (end_longitude lat lon) (times_sized angle tt h D2R_sized) (end_longitude_law lat lon b)

DDX_sized : (c : Bool) → Sized one (cond c (neg DDX) DDX)
unfolding DDX decimal round abs_of negative neg le
DDX_sized true = record { size = tt }
DDX_sized false = record { size = tt }

pub typed_latitude : {lat : Float} → Between (minus_decimal 900 1) (decimal 900 1) lat → Sized (decimal 900 1) lat
unfolding decimal minus_decimal round neg le
typed_latitude b = between_sized (decimal 900 1) tt b

pub nudged_latitude : (tlat tlong rlat rlong : Degrees) → Sized (decimal 900 1) tlat.0 → Sized (decimal 900 1) rlat.0 → Sized hundred (nudged_of tlat tlong rlat rlong).0
unfolding nudged_of nudge_of decimal round add le
nudged_latitude tlat tlong rlat rlong h k = go (close tlat rlat && close tlong rlong)
  where
    go : (c : Bool) → Sized hundred (cond c (record { 0 = tlat.0 ⊖ nudge_of rlat }) rlat).0
    go true = less_sized hundred tt h (DDX_sized (lt rlat.0 (decimal 0 1)))
    go false = larger hundred tt k

-- ---- the circle by both ends
turn_sized : (x : Float) → Sized eight (sign_of PI2 x)
unfolding sign_of
turn_sized x = go (le (decimal 0 1) x)
  where
    go : (c : Bool) → Sized eight (cond c (abs_of PI2) (neg (abs_of PI2)))
    go true = record { size = unfold PI2 decimal round abs_of negative neg le in tt }
    go false = record { size = unfold PI2 decimal round abs_of negative neg le in tt }

-- what the cosine of a place that is not near a pole is at least
abbrev hair : Float
hair = fin false 1 (negsuc 24)

cos_off : (c : Float) → Sized two c → (T (le (c ⊖ EPSLON) (hair ⊖ EPSLON)) → ⊥) → T (le hair c)
unfolding EPSLON decimal round
cos_off c h n = elim (total_le hair c (no_nan_finite hair tt) (sized_number h)) [
  | inl u ↦ u
  | inr u ↦ absurd (n (sub_mono binary32 c hair EPSLON EPSLON (abs_finite c two tt h.size) tt tt tt u (exactly EPSLON tt).low))
]

not_polar : (c : Float) → Sized two c → polar c ≡ false → T (le hair c)
unfolding polar EPSLON decimal round neg add sub le
not_polar c h e = cos_off c h (λ u. subst T e (trans_le (c ⊖ EPSLON) (hair ⊖ EPSLON) nought u tt))

off_pole : (c : Float) → Sized two c → lt (c ⊖ EPSLON) (decimal 0 1) ≡ false → T (le hair c)
unfolding EPSLON decimal round neg add sub le
off_pole c h e = cos_off c h (λ u. subst T e (not-le→lt (c ⊖ EPSLON) nought (le_left (c ⊖ EPSLON) (hair ⊖ EPSLON) u) (no_nan_finite nought tt) (λ w. trans_le nought (c ⊖ EPSLON) (hair ⊖ EPSLON) w u)))

-- a quotient by a divisor that is not near zero is a number
pub quotient_number : (x y k : Float) → Sized sixteen x → T (positive k) → T (le k (abs_of y)) → T (not (is_nan (x ⊘ y)))
quotient_number x y k h p q = abs_no_nan (x ⊘ y) (sixteen ⊘ k) (div_size binary32 x y sixteen k tt p h.size q)

pub cos_between_law : (a b : Place) (d : Float) → Known a → Known b → Sized angle d → Sized sixteen (cos_between a b d)
unfolding cos_between add mul le
cos_between_law a b d h k s = plus_sized sixteen tt (times_sized four tt h.sin k.sin) (times_sized eight tt (times_sized four tt h.cos k.cos) (sines d s).1)

least_in : (a : Float) → Between nought four a → Between (decimal 1 6) four (at_least_minimum a)
unfolding at_least_minimum
least_in a b = go (lt a (decimal 1 6)) refl
  where
    go : (c : Bool) → lt a (decimal 1 6) ≡ c → Between (decimal 1 6) four (cond c (decimal 1 6) a)
    go true e = record { low = unfold decimal round le in tt; high = unfold decimal round le in tt }
    go false e = record { low = not-lt→le a (decimal 1 6) (le_right nought a b.low) (unfold decimal round is_nan in tt) e; high = b.high }

-- what the length of a path is at most, the long way round
abbrev pub farther : Float
farther = PI2 ⊖ decimal 1 6

length_in : (long : Bool) (a : Float) → Between (decimal 1 6) four a → Between (decimal 1 6) farther (other_way long a)
unfolding other_way PI2 decimal round neg add sub le
length_in true a b = sub_in binary32 (decimal 1 6) farther tt (exactly PI2 tt) b
length_in false a b = wider (decimal 1 6) farther tt tt b

narrow_fits : (x : Float) → T (fits binary32 (narrow_of x))
unfolding narrow_of
narrow_fits nan = unfold fits in tt
narrow_fits (inf s) = unfold fits in tt
narrow_fits (fin s m e) = round-fits binary32 s (m * up e) (down e)

least_fits : (a : Float) → T (fits binary32 a) → T (fits binary32 (at_least_minimum a))
unfolding at_least_minimum
least_fits a h = go (lt a (decimal 1 6))
  where
    go : (c : Bool) → T (fits binary32 (cond c (decimal 1 6) a))
    go true = unfold decimal in round-fits binary32 false 1 (10 ^ 6)
    go false = h

length_fits : (long : Bool) (q : Float) → T (fits binary32 (other_way long (at_least_minimum (acos_clamped q))))
unfolding other_way acos_clamped acos32_of
length_fits true q = sub-fits binary32 PI2 (at_least_minimum (acos_clamped q))
length_fits false q = least_fits (acos_clamped q) (narrow_fits (acos_of (clamped_cosine q)))

pub lon_sized : {x : Float} → Longitude x → Sized four x
unfolding farthest PI PI2 decimal round neg add sub le
lon_sized b = between_sized four tt b

-- the bearing at the transmitter
pole_bearing : (c : Bool) → Between nought four (cond c (decimal 0 1) PI)
unfolding PI decimal round le
pole_bearing true = record { low = tt; high = tt }
pole_bearing false = record { low = tt; high = tt }

north_in : (tx rx : Place) (s c : Float) → Known tx → Known rx → Sized two s → Sized two c → Away faint s → Between nought four (from_north tx rx s c)
unfolding from_north
north_in tx rx s c h k a b w = go (polar tx.cos) refl
  where
    off : polar tx.cos ≡ false → T (not (is_nan ((rx.sin ⊖ tx.sin ⊗ c) ⊘ (tx.cos ⊗ s))))
    off e =
        let n : Sized sixteen (rx.sin ⊖ tx.sin ⊗ c) = unfold add mul le in less_sized sixteen tt k.sin (times_sized four tt h.sin b) in
        let d : Away (fin false 1 (negsuc 74)) (tx.cos ⊗ s) = unfold mul le in mul_away binary32 tx.cos s hair faint (abs_finite tx.cos two tt h.cos.size) (abs_finite s two tt a.size) tt tt (above_away hair tx.cos (not_polar tx.cos h.cos e)) w in
        quotient_number (rx.sin ⊖ tx.sin ⊗ c) (tx.cos ⊗ s) (fin false 1 (negsuc 74)) n tt d

    go : (p : Bool) → polar tx.cos ≡ p → Between nought four (cond p (cond (le tx.lat (decimal 0 1)) (decimal 0 1) PI) (acos_clamped ((rx.sin ⊖ tx.sin ⊗ c) ⊘ (tx.cos ⊗ s))))
    go true e = pole_bearing (le tx.lat (decimal 0 1))
    go false e = acos_in ((rx.sin ⊖ tx.sin ⊗ c) ⊘ (tx.cos ⊗ s)) (off e)

way_sized : (other : Bool) (a : Float) → Between nought four a → Sized angle (other_way other a)
way_sized other a b = unfold PI2 decimal round neg le in between_sized {lo = nought} {hi = PI2} angle tt (way_in other a b)

module _ (tx rx : Place) (h : Known tx) (k : Known rx) (long : Bool) where
  between_in : Longitude (folded_of (tx.lon ⊖ rx.lon))
  unfolding farthest PI PI2 decimal round neg add sub le
  between_in = folded_in (tx.lon ⊖ rx.lon) (sub_in binary32 (neg most) most tt h.lon k.lon)

  dlong_sized : Sized angle (dlong_of tx.lon rx.lon long)
  unfolding dlong_of turned_of add le
  dlong_sized = go long
    where
      go : (c : Bool) → Sized angle (cond c (turned_of (folded_of (tx.lon ⊖ rx.lon))) (folded_of (tx.lon ⊖ rx.lon)))
      go true = less_sized angle tt (lon_sized between_in) (turn_sized (folded_of (tx.lon ⊖ rx.lon)))
      go false = larger angle tt (lon_sized between_in)

  pub gcd_in : Between (decimal 1 6) farther (circle_of tx rx long).gcd
  unfolding circle_of gcd_of
  gcd_in = length_in long _ (least_in _ (acos_in _ (sized_number (cos_between_law tx rx (dlong_of tx.lon rx.lon long) h k dlong_sized))))

  gcd_sine : Away faint (sin32_of (circle_of tx rx long).gcd)
  gcd_sine = sine_not_zero (circle_of tx rx long).gcd (unfold circle_of gcd_of in length_fits long _) gcd_in

  gcd_sines : Sized two (sin32_of (circle_of tx rx long).gcd) × Sized two (cos32_of (circle_of tx rx long).gcd)
  gcd_sines = sines (circle_of tx rx long).gcd (unfold PI2 decimal round neg add sub le in between_sized {lo = decimal 1 6} {hi = farther} angle tt gcd_in)

  pub bearings : Sized angle (circle_of tx rx long).btr × Sized angle (circle_of tx rx long).brt
  unfolding circle_of
  bearings = (way_sized _ _ (north_in tx rx _ _ h k gcd_sines.0 gcd_sines.1 gcd_sine), way_sized _ _ (north_in rx tx _ _ k h gcd_sines.0 gcd_sines.1 gcd_sine))

  btr_cos : Sized two (cos32_of (circle_of tx rx long).btr)
  btr_cos = (sines (circle_of tx rx long).btr bearings.0).1

-- ---- a sample area
pub record Tracked (t : Track) : Type 0 where
  pub tx : Known t.tx
  pub rlong : Longitude t.rlong
  pub btr : Sized two t.btr_cos

pub latitude_sized : (q : Float) → T (not (is_nan q)) → Sized angle (latitude_of q)
unfolding latitude_of PIO2 decimal round neg add sub le
latitude_sized q h = between_sized angle tt (sub_in binary32 (neg four) four tt (exactly PIO2 tt) (acos_in q h))

-- straight down the meridian of a transmitter near a pole
abs_abs : (x : Float) → abs_of (abs_of x) ≡ abs_of x
unfolding abs_of negative neg
abs_abs nan = refl
abs_abs (inf true) = refl
abs_abs (inf false) = refl
abs_abs (fin true m e) = refl
abs_abs (fin false m e) = refl

pub abs_sized : {a : Float} (x : Float) → Sized a x → Sized a (abs_of x)
abs_sized {a} x h = record { size = subst (λ (z : Float). T (le z a)) (sym (abs_abs x)) h.size }

pub neg_sized : {a : Float} (x : Float) → Sized a x → Sized a (neg x)
neg_sized {a} x h = record { size = subst (λ (z : Float). T (le z a)) (sym (abs_neg x)) h.size }

sign_sized : {a : Float} (x d : Float) → Sized a x → Sized a (sign_of x d)
unfolding sign_of
sign_sized {a} x d h = go (le (decimal 0 1) d)
  where
    go : (c : Bool) → Sized a (cond c (abs_of x) (neg (abs_of x)))
    go true = abs_sized x h
    go false = neg_sized (abs_of x) (abs_sized x h)

quarter_sized : Sized two PIO2 × Sized one (decimal 10 1) × T (le PIO2 angle) × T (not (is_nan PIO2))
unfolding PIO2 decimal round abs_of negative le is_nan
quarter_sized = (record { size = tt }, record { size = tt }, tt, tt)

kept_sized : (rflt : Float) → T (not (is_nan rflt)) → Sized angle (cond (lt PIO2 (abs_of rflt)) (PIO2 ⊗ sign_of (decimal 10 1) rflt) rflt)
kept_sized rflt n = go (lt PIO2 (abs_of rflt)) refl
  where
    go : (c : Bool) → lt PIO2 (abs_of rflt) ≡ c → Sized angle (cond c (PIO2 ⊗ sign_of (decimal 10 1) rflt) rflt)
    go true e = unfold mul le in times_sized angle tt quarter_sized.0 (sign_sized (decimal 10 1) rflt quarter_sized.1)
    go false e = record { size = trans_le (abs_of rflt) PIO2 angle (not-lt→le PIO2 (abs_of rflt) quarter_sized.3 (le_right nought (abs_of rflt) (abs_not_below rflt n)) e) quarter_sized.2 }

meridian_sized : (tlat drf : Float) → Sized angle tlat → Sized angle drf → Sized angle (down_meridian tlat drf)
unfolding down_meridian
meridian_sized tlat drf h k = kept_sized (tlat ⊖ sign_of drf tlat) (unfold add le in sized_number (less_sized (fin false 1 (pos 6)) tt h (sign_sized drf tlat k)))

module _ (t : Track) (k : Tracked t) (drf : Float) (s : Sized angle drf) where
  circle_in : (sin cos : Float) → Sized two sin → Sized two cos → T (le hair t.tx.cos) → Longitude (circle_longitude t drf (cos32_of drf) sin cos)
  unfolding circle_longitude
  circle_in sin cos a b w = go (polar cos) refl
    where
      off : polar cos ≡ false → T (not (is_nan ((cos32_of drf ⊖ sin ⊗ t.tx.sin) ⊘ (cos ⊗ t.tx.cos))))
      off e =
          let n : Sized sixteen (cos32_of drf ⊖ sin ⊗ t.tx.sin) = unfold add mul le in less_sized sixteen tt (sines drf s).1 (times_sized four tt a k.tx.sin) in
          let d : Away (fin false 1 (negsuc 49)) (cos ⊗ t.tx.cos) = unfold mul le in mul_away binary32 cos t.tx.cos hair hair (abs_finite cos two tt b.size) (abs_finite t.tx.cos two tt k.tx.cos.size) tt tt (above_away hair cos (not_polar cos b e)) (above_away hair t.tx.cos w) in
          quotient_number (cos32_of drf ⊖ sin ⊗ t.tx.sin) (cos ⊗ t.tx.cos) (fin false 1 (negsuc 49)) n tt d

      go : (p : Bool) → polar cos ≡ p → Longitude (cond p t.tx.lon (onward t.tx.lon (le PI drf) t.dlong (acos_clamped ((cos32_of drf ⊖ sin ⊗ t.tx.sin) ⊘ (cos ⊗ t.tx.cos)))))
      go true e = k.tx.lon
      go false e = onward_in t.tx.lon (le PI drf) t.dlong _ k.tx.lon (acos_in _ (off e))

  on_circle_known : T (le hair t.tx.cos) → Known (on_circle t drf)
  unfolding on_circle
  on_circle_known w =
      let q : Sized sixteen (cos32_of drf ⊗ t.tx.sin ⊕ sin32_of drf ⊗ t.tx.cos ⊗ t.btr_cos) = unfold add mul le in plus_sized sixteen tt (times_sized four tt (sines drf s).1 k.tx.sin) (times_sized eight tt (times_sized four tt (sines drf s).0 k.tx.cos) k.btr) in
      let h = latitude_sized _ (sized_number q) in
      let l = sines _ h in
      placed_known _ _ h (circle_in _ _ l.0 l.1 w)

  pub sample_known : Known (sample_of t drf)
  unfolding sample_of
  sample_known = go (lt (t.tx.cos ⊖ EPSLON) (decimal 0 1)) refl
    where
      go : (p : Bool) → lt (t.tx.cos ⊖ EPSLON) (decimal 0 1) ≡ p → Known (cond p (place_of (down_meridian t.tx.lat drf) t.rlong) (on_circle t drf))
      go true e = placed_known (down_meridian t.tx.lat drf) t.rlong (meridian_sized t.tx.lat drf k.tx.lat s) k.rlong
      go false e = on_circle_known (off_pole t.tx.cos k.tx.cos e)

-- ---- the distances
abbrev Each : List Float → Type 0
Each [] = Unit
Each (x ∷ xs) = Sized angle x × Each xs

each_at : (l : List Float) → Each l → (i : ℕ) → i < length l → Sized angle (get_or l i nan)
each_at [] h i k = absurd (not-suc-le-zero k)
each_at (x ∷ xs) h zero k = h.0
each_at (x ∷ xs) h (suc i) k = each_at xs h.1 i (le_of_suc-le-suc k)

pub zero_sized : Sized angle (decimal 0 1)
unfolding decimal round abs_of negative le
zero_sized = record { size = tt }

R1_sized : Sized one R1 × Sized one (R1 ⊕ R1)
unfolding R1 RZ decimal round abs_of negative add div le
R1_sized = (record { size = tt }, record { size = tt })

-- those of one point, of three and of five
abbrev of_one : Float → List Float
of_one gcd = gcd ⊘ decimal 20 1 ∷ decimal 0 1 ∷ decimal 0 1 ∷ decimal 0 1 ∷ decimal 0 1 ∷ []

abbrev of_three : Float → List Float
of_three gcd = R1 ∷ gcd ⊘ decimal 20 1 ∷ (gcd ⊖ R1) ∷ decimal 0 1 ∷ decimal 0 1 ∷ []

abbrev of_five : Float → List Float
of_five gcd = R1 ∷ (R1 ⊕ R1) ∷ gcd ⊘ decimal 20 1 ∷ (gcd ⊖ (R1 ⊕ R1)) ∷ (gcd ⊖ R1) ∷ []

module _ (gcd : Float) (b : Between (decimal 1 6) farther gcd) where
  pub whole_sized : Sized eight gcd
  unfolding PI2 decimal round neg add sub le
  whole_sized = between_sized {lo = decimal 1 6} {hi = farther} eight tt b

  half_sized : Sized angle (gcd ⊘ decimal 20 1)
  unfolding PI2 decimal round neg add sub div le
  half_sized = between_sized angle tt (div_in binary32 {a = decimal 1 6} {b = farther} nought eight tt b (exactly (decimal 20 1) tt))

  less_one : (x : Float) → Sized one x → Sized angle (gcd ⊖ x)
  unfolding add le
  less_one x k = less_sized angle tt whole_sized k

  more : (x : Float) → Sized one x → Sized angle x
  unfolding le
  more x k = larger angle tt k

  pub distance_sized : (n i : ℕ) → i < 5 → Sized angle (get_or (distances_of gcd n) i nan)
  unfolding distances_of
  distance_sized n i h = go (eqb n 1) (eqb n 3)
    where
      go : (a c : Bool) → Sized angle (get_or (cond a (of_one gcd) (cond c (of_three gcd) (of_five gcd))) i nan)
      go true c = each_at (of_one gcd) (half_sized, (zero_sized, (zero_sized, (zero_sized, (zero_sized, tt))))) i h
      go false true = each_at (of_three gcd) (more R1 R1_sized.0, (half_sized, (less_one R1 R1_sized.0, (zero_sized, (zero_sized, tt))))) i h
      go false false = each_at (of_five gcd) (more R1 R1_sized.0, (more (R1 ⊕ R1) R1_sized.1, (half_sized, (less_one (R1 ⊕ R1) R1_sized.1, (less_one R1 R1_sized.0, tt))))) i h

-- ---- the rows
row_in : (t : Track) (p : Place) (drf : Float) (present : Bool) → Tracked t → Sized angle drf → Longitude (control_point_if t p drf present).lon.0
unfolding control_point_if point_of absent
row_in t p drf true k s = (sample_known t k drf s).lon
row_in t p drf false k s = zero_longitude

rows_in : (t : Track) (p : Place) (gcd : Float) (n : ℕ) → Tracked t → Between (decimal 1 6) farther gcd → (i : ℕ) → i < 5 → Longitude (get_or (rows_of t p gcd n) i nowhere).lon.0
unfolding rows_of control_row
rows_in t p gcd n k b zero h = row_in t p _ _ k (distance_sized gcd b n 0 h)
rows_in t p gcd n k b (suc zero) h = row_in t p _ _ k (distance_sized gcd b n 1 h)
rows_in t p gcd n k b (suc (suc zero)) h = row_in t p _ _ k (distance_sized gcd b n 2 h)
rows_in t p gcd n k b (suc (suc (suc zero))) h = row_in t p _ _ k (distance_sized gcd b n 3 h)
rows_in t p gcd n k b (suc (suc (suc (suc zero)))) h = row_in t p _ _ k (distance_sized gcd b n 4 h)
rows_in t p gcd n k b (suc (suc (suc (suc (suc i))))) h = absurd (omega arith)

-- ---- a path whose ends are in range
-- latitude and longitude as typed
pub record Typed (lat lon : Degrees) : Type 0 where
  pub latitude : Between (minus_decimal 900 1) (decimal 900 1) lat.0
  pub longitude : Between (minus_decimal 1800 1) (decimal 1800 1) lon.0

module _ (tlat tlong rlat rlong : Degrees) (a : Typed tlat tlong) (b : Typed rlat rlong) (long : Bool) (pole : MagneticPole) where
  pub transmitter : Known (end_of tlat tlong)
  unfolding decimal round le
  transmitter = end_known tlat tlong (larger hundred tt (typed_latitude a.latitude)) a.longitude

  pub receiver : Known (end_of (nudged_of tlat tlong rlat rlong) rlong)
  receiver = end_known (nudged_of tlat tlong rlat rlong) rlong (nudged_latitude tlat tlong rlat rlong (typed_latitude a.latitude) (typed_latitude b.latitude)) b.longitude

  pub tracked : Tracked (track_of (end_of tlat tlong) (end_of (nudged_of tlat tlong rlat rlong) rlong) long)
  unfolding track_of
  tracked = record { tx = transmitter; rlong = receiver.lon; btr = btr_cos _ _ transmitter receiver long }

  pub point_longitude : (i : ℕ) → i < 5 → Longitude (get_or (path_of tlat tlong rlat rlong long pole).points i nowhere).lon.0
  unfolding path_of
  point_longitude i h = rows_in _ _ _ _ tracked (gcd_in _ _ transmitter receiver long) i h

  -- so document 01's bound of the clock holds at every control point
  pub point_clock : (gmt : Float) → Hour gmt → (i : ℕ) → i < 5 → OnClock (clock_of gmt (get_or (path_of tlat tlong rlat rlong long pole).points i nowhere).lon)
  point_clock gmt g i h = clock_range gmt _ g (point_longitude i h)
