-- TIMVAR's clock (document 01, Figures): with the hour from 0 to 24 and the longitude at most half
-- a turn it is above 0 and at most 24. The sum is between -13 and 37, since rounding keeps order,
-- and what an f32 has over 24 is not rounded away, since no f32 is finer than 2 ^ -149. Assumes
-- nothing.
use Rattle.std.proofs.Common.{◌≡◌, refl, sym, subst, ◌∙◌, Bool, true, false, not, ◌&&◌, cond, List, ℕ, zero, suc, ◌+◌, ◌*◌, ◌%◌, ◌^◌, ◌≤◌, ◌<◌, le_trans, le_of_eq, one-mul, add-mul, mul-le-mul_right, arith, T, ltb, eqb, leb, ltb→lt, leb→le, eqb→eq, lit<, lit≤, pos, negsuc, Float}
use native.Mathlib.Decide.{dec_lt}
use lib.Ieee.{nan, inf, fin, binary32, up, down, fits, round, neg, add, sub, mul, div, lt, le, is_nan}
use lib.Ieee.Fits.{and_l, and_r, add-fits}
use lib.Ieee.Scale.{finite}
use lib.Ieee.Positive.{den, den_pos}
use Rattle.base.specs.declared.angle.Degrees.{Degrees}
use Rattle.base.specs.declared.angle.Radians.{Radians}
use Rattle.base.specs.Single.{◌⊕◌, ◌⊖◌, ◌⊘◌, decimal, minus_decimal}
use Rattle.base.specs.Constants.{D2R, PI, PI2}
use Rattle.base.specs.Angle.{radians_of}
use Rattle.base.proofs.order.Order.{plus, less, nought, le→cross, cross→le, le_right, no_nan_finite, refl_le, trans_le, not-lt→le, Between, between_finite}
use Rattle.base.proofs.order.Monotone.{rounds_mono, sub_rounds, sub_mono, div_right}
use Rattle.base.proofs.order.Intervals.{exactly, add_in, sub_in, mul_about}
use Rattle.maps.specs.declared.geometry.ControlPoint.{ControlPoint}
use Rattle.maps.specs.declared.magnetic.MagneticVars.{MagneticVars}
use Rattle.maps.specs.declared.inputs.Factors.{Factors}
use Rattle.maps.specs.declared.ionosphere.versy.Gammas.{Gammas}
use Rattle.maps.specs.declared.ionosphere.layers.Monthly.{Monthly}
use Rattle.maps.specs.Layers.{clock_of, timvar_of, layers_of}
pub use Rattle.results.specs.AsInTheRust.{OnClock}

-- ---- strict order
lt→cross : (x y : Float) → T (finite x) → T (finite y) → T (lt x y) → plus x * den y + less y * den x < plus y * den x + less x * den y
unfolding lt
lt→cross nan y p q h = absurd p
lt→cross (inf s) y p q h = absurd p
lt→cross (fin s m e) nan p q h = absurd q
lt→cross (fin s m e) (inf t) p q h = absurd q
lt→cross (fin false m e) (fin false n d) p q h = let l = ltb→lt (m * up e * down d) (n * up d * down e) h in omega arith
lt→cross (fin false m e) (fin true n d) p q h = absurd h
lt→cross (fin true m e) (fin false n d) p q h = let l = ltb→lt 0 (m * up e * down d + n * up d * down e) h in omega arith
lt→cross (fin true m e) (fin true n d) p q h = let l = ltb→lt (n * up d * down e) (m * up e * down d) h in omega arith

pub lt_not_le : (x y : Float) → T (finite x) → T (finite y) → T (lt x y) → T (le y x) → ⊥
lt_not_le x y p q h k = let u = lt→cross x y p q h in let v = le→cross y x q p k in omega arith

pub not-le→lt : (x y : Float) → T (not (is_nan x)) → T (not (is_nan y)) → (T (le y x) → ⊥) → T (lt x y)
not-le→lt x y p q n = go (lt x y) refl
  where
    go : (b : Bool) → lt x y ≡ b → T b
    go true e = tt
    go false e = absurd (n (not-lt→le x y p q e))

-- what is at least a number above zero is above zero
pub above_zero : (k x : Float) → (T (le k nought) → ⊥) → T (le k x) → T (lt nought x)
above_zero k x n h = not-le→lt nought x (no_nan_finite nought tt) (le_right k x h) (λ u. n (trans_le k x nought h u))

-- ---- an f32 above 24
abbrev day : Float
day = fin false 3 (pos 3)

abbrev least : Float
least = fin false 1 (negsuc 148)

least_is : (round binary32 false 1 (2 ^ 149) ≡ least) × (round binary32 true 1 (2 ^ 149) ≡ neg least)
unfolding round neg
least_is = (refl, refl)

least_signs : (T (le least nought) → ⊥) × (T (le nought (neg least)) → ⊥)
unfolding le neg
least_signs = (λ h. h, λ h. h)

-- an f32 is no finer than 2 ^ -149
fine : (x : Float) → T (fits binary32 x) → den x ≤ 2 ^ 149
unfolding fits
fine nan t = lit≤ tt
fine (inf s) t = lit≤ tt
fine (fin s zero (pos k)) t = lit≤ tt
fine (fin s zero (negsuc k)) t = le_trans (le_of_eq (sym (one-mul (2 ^ suc k)) ∙ eqb→eq (1 * 2 ^ suc k) 1 t)) (lit≤ tt)
fine (fin s (suc m) e) t =
    leb→le (down e) (2 ^ 149)
    (and_r (eqb (suc m % 2) 1 && ltb (suc m) (2 ^ 24)) (leb (down e) (2 ^ 149)) (and_l (eqb (suc m % 2) 1 && ltb (suc m) (2 ^ 24) && leb (down e) (2 ^ 149)) (ltb (suc m * up e) (2 ^ 128 * down e)) t))

-- a / d and b / d are 1 / N apart at least, where d is N at most
apart : (a b d N : ℕ) → a < b → d ≤ N → a * N + d ≤ b * N
apart a b d N h k = let u = mul-le-mul_right N h in omega (arith, u, add-mul a 1 N, one-mul N)

-- x is (P - l) / d, and above 24
over_by : (d l P N : ℕ) → 24 * d + l < P → d ≤ N → 1 * (d * 1) + (l * 1 + 24 * d) * N ≤ (P * 1 + 0 * d) * N + 0 * (d * 1)
over_by d l P N h k = let u = apart (l * 1 + 24 * d) (P * 1 + 0 * d) d N (omega arith) k in omega arith

under_by : (d l P N : ℕ) → 24 * d + l < P → d ≤ N → (24 * d + l * 1) * N + 1 * (1 * d) ≤ 0 * (1 * d) + (0 * d + P * 1) * N
under_by d l P N h k = let u = apart (24 * d + l * 1) (0 * d + P * 1) d N (omega arith) k in omega arith

module _ (x : Float) (p : T (finite x)) (f : T (fits binary32 x)) (h : T (le x day) → ⊥) where
  gap : 24 * den x + less x < plus x
  gap = elim (dec_lt (24 * den x + less x) (plus x)) [ yes q ↦ q | no q ↦ absurd (h (cross→le x day p tt (omega arith))) ]

  over : T (le least (x ⊖ day))
  over =
      rounds_mono binary32 least (x ⊖ day) 1 0 (2 ^ 149) (plus x * 1 + 0 * den x) (less x * 1 + 24 * den x) (den x * 1) (lit< tt) (omega (arith, den_pos x))
      (record { sign = false; size = 1; is = sym least_is.0; value = refl }) (sub_rounds binary32 x day p tt)
      (over_by (den x) (less x) (plus x) (2 ^ 149) gap (fine x f))

  under : T (le (day ⊖ x) (neg least))
  under =
      rounds_mono binary32 (day ⊖ x) (neg least) (24 * den x + less x * 1) (0 * den x + plus x * 1) (1 * den x) 0 1 (2 ^ 149) (omega (arith, den_pos x)) (lit< tt)
      (sub_rounds binary32 day x tt p) (record { sign = true; size = 1; is = sym least_is.1; value = refl })
      (under_by (den x) (less x) (plus x) (2 ^ 149) gap (fine x f))

-- ---- the correction
abbrev low : Float
low = fin true 13 (pos 0)

abbrev high : Float
high = fin false 37 (pos 0)

abbrev corrected : Float → Float
corrected x = cond (lt (day ⊖ x) nought) (x ⊖ day) (cond (le x nought) (x ⊕ day) x)

on_clock : (c : Float) → T (lt nought c) → T (le c day) → OnClock c
unfolding decimal round
on_clock c h k = record { above = h; most = k }

module _ (x : Float) (f : T (fits binary32 x)) (b : Between low high x) where
  own : T (finite x)
  own = between_finite tt tt b

  -- day ⊖ x
  rest_in : Between (fin true 13 (pos 0)) (fin false 37 (pos 0)) (day ⊖ x)
  unfolding le add sub neg
  rest_in = sub_in binary32 (fin true 13 (pos 0)) (fin false 37 (pos 0)) tt (exactly day tt) b

  -- up to 24 nothing is taken off
  up_to : T (le x day) → T (le nought (day ⊖ x))
  unfolding le add sub neg
  up_to h = sub_mono binary32 day day day x tt tt tt own (refl_le day (no_nan_finite day tt)) h

  past : T (lt (day ⊖ x) nought) → T (le x day) → ⊥
  past t h = lt_not_le (day ⊖ x) nought (between_finite tt tt rest_in) tt t (up_to h)

  taken : T (lt (day ⊖ x) nought) → OnClock (x ⊖ day)
  unfolding le add sub neg
  taken t =
      on_clock (x ⊖ day) (above_zero least (x ⊖ day) least_signs.0 (over x own f (past t)))
      (sub_in binary32 (fin true 37 (pos 0)) day tt b (exactly day tt)).high

  added : T (le x nought) → OnClock (x ⊕ day)
  unfolding le add
  added t =
      let c : Between low nought x = record { low = b.low; high = t } in
      let s : Between (fin false 11 (pos 0)) day (x ⊕ day) = add_in binary32 (fin false 11 (pos 0)) day tt c (exactly day tt) in
      on_clock (x ⊕ day) (above_zero (fin false 11 (pos 0)) (x ⊕ day) (λ h. h) s.low) s.high

  stays : lt (day ⊖ x) nought ≡ false → le x nought ≡ false → OnClock x
  stays t u =
      let r = not-lt→le (day ⊖ x) nought (no_nan_finite (day ⊖ x) (between_finite tt tt rest_in)) (no_nan_finite nought tt) t in
      on_clock x (not-le→lt nought x (no_nan_finite nought tt) (no_nan_finite x own) (λ h. subst T u h)) (go (le x day) refl r)
    where
      go : (a : Bool) → le x day ≡ a → T (le nought (day ⊖ x)) → T a
      go true e r = tt
      go false e r = absurd (least_signs.1 (trans_le nought (day ⊖ x) (neg least) r (under x own f (λ h. subst T e h))))

  corrected_in : OnClock (corrected x)
  corrected_in = go (lt (day ⊖ x) nought) (le x nought) refl refl
    where
      go : (t u : Bool) → lt (day ⊖ x) nought ≡ t → le x nought ≡ u → OnClock (cond t (x ⊖ day) (cond u (x ⊕ day) x))
      go true u p q = taken (subst T (sym p) tt)
      go false true p q = added (subst T (sym q) tt)
      go false false p q = stays p q

-- ---- the sum
-- What the engine's own `PI` leaves of a whole turn, 3.141593: the longitude of 180 degrees is the
-- f32 just below, and no folded longitude is farther.
unfoldable pub farthest : Float
farthest = PI2 ⊖ PI

-- an hour, and a longitude in radians
abbrev pub Hour : Float → Type 0
Hour gmt = Between (decimal 0 1) (decimal 240 1) gmt

abbrev pub Longitude : Float → Type 0
Longitude lon = Between (neg farthest) farthest lon

abbrev hours : Float → Float
hours lon = lon ⊘ decimal 261799387 9

hours_in : (lon : Float) → Longitude lon → Between (fin true 13 (pos 0)) (fin false 13 (pos 0)) (hours lon)
unfolding farthest PI PI2 decimal round neg add sub div le
hours_in lon b =
    let k = decimal 261799387 9 in
    let p : T (finite lon) = between_finite {lo = neg farthest} {hi = farthest} tt tt b in
    record {
      low = trans_le (fin true 13 (pos 0)) (neg farthest ⊘ k) (lon ⊘ k) tt (div_right binary32 (neg farthest) lon k tt p tt b.low);
      high = trans_le (lon ⊘ k) (farthest ⊘ k) (fin false 13 (pos 0)) (div_right binary32 lon farthest k p tt tt b.high) tt;
    }

sum_in_law : (gmt lon : Float) → Hour gmt → Longitude lon → Between low high (gmt ⊕ hours lon)
unfolding decimal round add le
sum_in_law gmt lon h b = add_in binary32 {a = nought} {b = day} {c = fin true 13 (pos 0)} {d = fin false 13 (pos 0)} low high tt h (hours_in lon b)

clock_is : (gmt : Float) (lon : Radians) → clock_of gmt lon ≡ corrected (gmt ⊕ hours lon.0)
unfolding clock_of decimal round
clock_is gmt lon = refl

pub clock_range : (gmt : Float) (lon : Radians) → Hour gmt → Longitude lon.0 → OnClock (clock_of gmt lon)
clock_range gmt lon h b =
    subst OnClock (sym (clock_is gmt lon)) (corrected_in (gmt ⊕ hours lon.0) (add-fits binary32 gmt (hours lon.0)) (sum_in_law gmt lon.0 h b))

-- ---- a longitude as typed
pub typed_longitude : (d : Degrees) → Between (minus_decimal 1800 1) (decimal 1800 1) d.0 → Longitude (radians_of d).0
unfolding farthest PI PI2 radians_of D2R decimal minus_decimal round neg add sub mul le
typed_longitude d b = mul_about binary32 (neg farthest) farthest tt b (exactly D2R tt)

-- ---- it is the layers' local mean time
pub layer_clock : (m : Monthly) (ssn gmt : Float) (psc : Factors) (hmym : List Float) (pt : ControlPoint) (mag : MagneticVars) (g : Gammas) → (layers_of m ssn gmt psc hmym pt mag g).clck ≡ clock_of gmt pt.lon
unfolding layers_of timvar_of
layer_clock m ssn gmt psc hmym pt mag g = refl
