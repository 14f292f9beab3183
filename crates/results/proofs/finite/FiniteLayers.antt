-- Which of the layers' figures are finite, with fields in range and the files' words held between
-- bounds: every step has a bound, by the rules of `Sized`. What can go wrong is named: the cosine
-- of the zenith angle can come out beyond 1 in size, f2m3 can be next to zero, so can an F1
-- frequency above zero, and E's can be too high for the exponential. Assumes nothing.
use Rattle.std.proofs.Common.{◌≡◌, refl, sym, ap, subst, ◌∙◌, ◌⊎◌, inl, inr, Bool, true, false, not, cond, List, [], ◌∷◌, ℕ, zero, suc, ◌+◌, ◌*◌, ◌≤◌, arith, T, lt→ltb, ℤ, pos, negsuc, get_or, Float}
use lib.Ieee.{nan, inf, fin, binary32, round, neg, add, sub, mul, div, lt, le, is_nan, to_unsigned}
use lib.Ieee.Fits.{div-fits}
use lib.Ieee.Scale.{finite}
use lib.Ieee.Positive.{positive}
use Rattle.base.specs.declared.angle.Degrees.{Degrees}
use Rattle.base.specs.declared.angle.Radians.{Radians}
use Rattle.base.specs.Single.{◌⊕◌, ◌⊖◌, ◌⊗◌, ◌⊘◌, decimal, minus_decimal}
use Rattle.base.specs.Double.{fraction}
use Rattle.base.specs.Number.{negative, abs_of, min_of, max_of, narrow_of, sqrt_of}
use Rattle.base.specs.Constants.{D2R, R2D, PI, PI2}
use Rattle.base.specs.Angle.{radians_of, degrees_of}
use Rattle.base.specs.Elementary.{near_of, turns_of, reduced_of, quarter_of, half_pi, horner, factorial, up_from, alternating, sin_terms, cos_terms, sin_series, cos_series, sin_at, cos_at, sin_of, cos_of, sin32_of, cos32_of, acos_of, acos32_of, exp32_of}
use Rattle.base.specs.Words.{float_at}
use Rattle.base.specs.Tables.{start_of, anew, bnew, achi, bchi, abmap}
use Rattle.base.proofs.verdicts.Picks.{cond_false}
use Rattle.base.proofs.lists.Entries.{up_to, at_each}
use Rattle.base.proofs.order.Order.{nought, Between, wider, trans_le, refl_le, total_le, lt→le, not-lt→le, le_right, no_nan_finite, finite_between, between_finite, abs_not_below, abs→le, le→abs, le_abs, abs_fin}
use Rattle.base.proofs.order.Monotone.{sub_mono, abs_div, div_not_below}
use Rattle.base.proofs.order.Intervals.{every, all, exactly, add_in, sub_in, mul_in, div_in, sqrt_in, between_positive}
use Rattle.results.proofs.numbers.Bounds.{acos32_range}
use Rattle.results.proofs.numbers.Sizes.{Sized, plus_sized, less_sized, times_sized, between_sized, larger, sized_number, sized_finite}
use Rattle.results.proofs.numbers.DoubleSizes.{over_sized, turned_sized, either_sized}
use Rattle.results.proofs.numbers.SineSizes.{nine, sin32_sized, cos32_sized}
use Rattle.results.proofs.numbers.LogSizes.{logs, ln32_sized}
use Rattle.results.proofs.finite.ExpNumbers.{add_number, exp32_number, exp32_sized}
use Rattle.maps.specs.declared.geometry.ControlPoint.{ControlPoint}
use Rattle.maps.specs.declared.magnetic.MagneticVars.{MagneticVars}
use Rattle.maps.specs.declared.inputs.Factors.{Factors}
use Rattle.maps.specs.declared.ionosphere.versy.Gammas.{Gammas}
use Rattle.maps.specs.declared.ionosphere.layers.Monthly.{Monthly}
use Rattle.maps.specs.declared.ionosphere.layers.Layer.{Layer}
use Rattle.maps.specs.declared.ionosphere.layers.Merged.{Merged}
use Rattle.maps.specs.declared.ionosphere.layers.EsParams.{EsParams}
use Rattle.maps.specs.declared.ionosphere.layers.Ground.{Ground}
use Rattle.maps.specs.Layers.{term_of, abmap_at, monthly_of, ssp_of, ssl_of, zenith_of, timvar_of, gamma6_of, e_layer, f1_layer, ef1_of, rat_of, retard_of, at_least_xf1, half_over, twilight_of, merged_of, e_retardation, below_f2, retarded_of, layers_of, abiy_of, clock_of, SUN, sun_of, esind_of, ground_at, ground_of}
use Rattle.maps.specs.Noisy.{in_plane, turn_of, column_of, zz_of, latitude_sum, noisy_sum, noisy_of}
use Rattle.results.proofs.clock.Clock.{lt_not_le, not-le→lt, farthest, Hour, Longitude, OnClock, clock_range, layer_clock}
use Rattle.results.specs.FiniteOrNot.{Bounded, zenith_cosine, land_pair, sea_pair}
use Rattle.results.proofs.finite.FiniteMaps.{word, in_month_law, Sunspots, Plane, degrees, noises, gammas, Mapped, noisy_sized}

-- 2 ^ n
abbrev two_to : ℕ → Float
two_to n = fin false 1 (pos n)

-- ---- what is given

-- 'four factors 0.125 to 8'
abbrev pub Factor : Float → Type 0
Factor x = Between (decimal 125 3) (decimal 80 1) x

pub record Fields (ssn gmt : Float) (psc : Factors) : Type 0 where
  pub hour : Hour gmt
  pub sunspots : Sunspots ssn
  pub e : Factor psc.e
  pub f1 : Factor psc.f1
  pub f2 : Factor psc.f2
  pub es : Factor psc.es

-- angles of at most 32 radians, and a gyrofrequency of at most 2 ^ 40 MHz
pub record Placed (pt : ControlPoint) (mag : MagneticVars) : Type 0 where
  pub lat : Sized (fin false 1 (pos 5)) pt.lat.0
  pub lon : Longitude pt.lon.0
  pub gmlat : Sized (fin false 1 (pos 5)) pt.gmlat.0
  pub gyz : Sized (fin false 1 (pos 40)) mag.gyz
  pub gmdip : Sized (fin false 1 (pos 5)) mag.gmdip.0

-- of a + b * ssn
abbrev term : Float
term = two_to 25

pub record Months (m : Monthly) : Type 0 where
  pub chi0 : Sized (fin false 1 (pos 25)) m.chi0
  pub chi1 : Sized (fin false 1 (pos 25)) m.chi1
  pub new0 : Sized (fin false 1 (pos 25)) m.new0
  pub new1 : Sized (fin false 1 (pos 25)) m.new1
  pub new2 : Sized (fin false 1 (pos 25)) m.new2
  pub alf : Sized word m.ratio_alf
  pub bet : Sized word m.ratio_bet

module _ (f2 file : List ℕ) (held : Bounded f2 file) (ssn : Float) (b : Sunspots ssn) where
  spots : Sized (decimal 3000 1) ssn
  unfolding decimal round neg le
  spots = between_sized (decimal 3000 1) tt b

  term_sized : (p q i : ℕ) → Sized word (float_at file (start_of p + 4 * i)) → Sized word (float_at file (start_of q + 4 * i)) → Sized term (term_of file p q i ssn)
  unfolding term_of decimal round add mul le
  term_sized p q i h k = plus_sized term tt h (times_sized (fin false 75 (pos 18)) tt k spots)

  pub monthly_sized : (month : ℕ) → Months (monthly_of file month ssn)
  unfolding monthly_of abmap_at
  monthly_sized month = record {
    chi0 = term_sized achi bchi 0 (in_month_law held achi 0 tt (omega arith)) (in_month_law held bchi 0 tt (omega arith));
    chi1 = term_sized achi bchi 1 (in_month_law held achi 1 tt (omega arith)) (in_month_law held bchi 1 tt (omega arith));
    new0 = term_sized anew bnew 0 (in_month_law held anew 0 tt (omega arith)) (in_month_law held bnew 0 tt (omega arith));
    new1 = term_sized anew bnew 1 (in_month_law held anew 1 tt (omega arith)) (in_month_law held bnew 1 tt (omega arith));
    new2 = term_sized anew bnew 2 (in_month_law held anew 2 tt (omega arith)) (in_month_law held bnew 2 tt (omega arith));
    alf = in_month_law held abmap (1 * 2 + 0) tt (omega arith);
    bet = in_month_law held abmap (1 * 2 + 1) tt (omega arith);
  }

-- ---- the zenith angle

-- the cosine whose arc cosine it is
abbrev pub cosine_of : Monthly → Float → ControlPoint → Float
cosine_of m gmt pt = zenith_cosine pt.lat pt.lon (ssp_of m.sun pt.lat) (ssl_of gmt)

-- it is a number at most 1 in size
abbrev pub Within : Float → Type 0
Within q = T (le (abs_of q) (fraction 1 1))

-- the arc cosine in degrees, as `zenang` is it
abbrev angle_of : Float → Float
angle_of q = (degrees_of (record { 0 = abs_of (acos32_of q) })).0

beyond_nan : (q : Float) → le (abs_of q) (fraction 1 1) ≡ false → acos32_of q ≡ nan
unfolding acos32_of acos_of narrow_of
beyond_nan q e = ap narrow_of (cond_false _ _ e)

nan_angle : (degrees_of (record { 0 = abs_of nan })).0 ≡ nan
unfolding degrees_of abs_of negative mul
nan_angle = refl

angle_in : (q : Float) → Within q → Between (decimal 0 1) (decimal 2300 1) (angle_of q)
unfolding degrees_of R2D fraction decimal round mul le neg
angle_in q h =
    let b = acos32_range q h in
    let a : Between nought (two_to 2) (abs_of (acos32_of q)) = record {
      low = abs_not_below (acos32_of q) (le_right nought (acos32_of q) b.low);
      high = le→abs (acos32_of q) (two_to 2) (trans_le (neg (two_to 2)) nought (acos32_of q) tt b.low) b.high;
    } in
    mul_in binary32 nought (decimal 2300 1) tt a (exactly R2D tt)

-- It comes out beyond 1: in April, at hour 0, at longitude 0 and 14.83 degrees south, where the sun
-- is straight below.
pub cosine_beyond :
    let lat = radians_of (record { 0 = minus_decimal 1483 2 }) in
    le (abs_of (zenith_cosine lat (record { 0 = decimal 0 1 }) (ssp_of (sun_of 4) lat) (ssl_of (decimal 0 1)))) (fraction 1 1) ≡ false
unfolding zenith_cosine radians_of D2R ssp_of sun_of SUN ssl_of sin32_of cos32_of sin_of cos_of near_of turns_of reduced_of quarter_of half_pi to_unsigned sin_at cos_at sin_series cos_series horner sin_terms cos_terms factorial up_from alternating narrow_of abs_of negative decimal minus_decimal fraction round neg add sub mul lt le
cosine_beyond = refl

module _ (m : Monthly) (ssn gmt : Float) (psc : Factors) (hmym : List Float) (pt : ControlPoint) (mag : MagneticVars) (g : Gammas) where
  zenang_is : (layers_of m ssn gmt psc hmym pt mag g).zenang.0 ≡ angle_of (cosine_of m gmt pt)
  unfolding layers_of ef1_of timvar_of zenith_of zenith_cosine
  zenang_is = refl

  -- where the cosine comes out beyond 1 in size, the zenith angle is NaN
  pub zenang_nan : le (abs_of (cosine_of m gmt pt)) (fraction 1 1) ≡ false → (layers_of m ssn gmt psc hmym pt mag g).zenang.0 ≡ nan
  zenang_nan e = zenang_is ∙ ap (λ (x : Float). (degrees_of (record { 0 = abs_of x })).0) (beyond_nan (cosine_of m gmt pt) e) ∙ nan_angle

  -- and else it is from 0 to 230 degrees, 4 radians being more than that of any step
  pub zenang_range : Within (cosine_of m gmt pt) → Between (decimal 0 1) (decimal 2300 1) (layers_of m ssn gmt psc hmym pt mag g).zenang.0
  zenang_range h = subst (Between (decimal 0 1) (decimal 2300 1)) (sym zenang_is) (angle_in (cosine_of m gmt pt) h)

  -- ---- constants, and the clock
  pub e_height : (get_or (layers_of m ssn gmt psc hmym pt mag g).yi 0 nan ≡ decimal 200 1) × (get_or (layers_of m ssn gmt psc hmym pt mag g).hi 0 nan ≡ decimal 1100 1)
  unfolding layers_of ef1_of e_layer decimal round div
  e_height = (refl, refl)

  pub clck_finite : Hour gmt → Longitude pt.lon.0 → T (finite (layers_of m ssn gmt psc hmym pt mag g).clck)
  clck_finite h l =
      let c = clock_range gmt pt.lon h l in
      subst (λ (x : Float). T (finite x)) (sym (layer_clock m ssn gmt psc hmym pt mag g)) (on_finite _ c)
    where
      on_finite : (c : Float) → OnClock c → T (finite c)
      on_finite c o = finite_between (decimal 0 1) c (decimal 240 1) (unfold decimal round in tt) (unfold decimal round in tt) (lt→le (decimal 0 1) c o.above) o.most

  -- ---- zenmax
  pub zenmax_sized : Months m → Sized (fin false 1 (pos 5)) mag.gmdip.0 → Sized (two_to 27) (layers_of m ssn gmt psc hmym pt mag g).zenmax.0
  unfolding layers_of ef1_of add mul le
  zenmax_sized h d = plus_sized (two_to 27) tt h.chi0 (times_sized (two_to 26) tt h.chi1 (cos32_sized tt d))

pub es_height : (g : Gammas) (psc3 : Float) → (esind_of g psc3).hs ≡ decimal 1100 1
unfolding esind_of
es_height g psc3 = refl

-- ---- the ground: always one of two pairs

either : (b : Bool) → (cond b land_pair sea_pair ≡ land_pair) ⊎ (cond b land_pair sea_pair ≡ sea_pair)
either true = inl refl
either false = inr refl

pair_at : (wld : Float) → (ground_at wld ≡ land_pair) ⊎ (ground_at wld ≡ sea_pair)
unfolding ground_at
pair_at wld = either (le (decimal 0 1) wld)

-- whatever the files and the place are
pub ground_pair : (m : Monthly) (fakmap : List Float) (lat east : Radians) → (ground_of m fakmap lat east ≡ land_pair) ⊎ (ground_of m fakmap lat east ≡ sea_pair)
unfolding ground_of
ground_pair m fakmap lat east = pair_at _

pub ground_finite : (m : Monthly) (fakmap : List Float) (lat east : Radians) → T (finite (ground_of m fakmap lat east).0) × T (finite (ground_of m fakmap lat east).1)
unfolding decimal round
ground_finite m fakmap lat east = elim (ground_pair m fakmap lat east) [
  | inl e ↦ (subst (λ (p : Ground). T (finite p.0)) (sym e) tt, subst (λ (p : Ground). T (finite p.1)) (sym e) tt)
  | inr e ↦ (subst (λ (p : Ground). T (finite p.0)) (sym e) tt, subst (λ (p : Ground). T (finite p.1)) (sym e) tt)
]

-- ---- factors
factor_sized : {x : Float} → Factor x → Sized (two_to 3) x
unfolding decimal round neg le
factor_sized b = between_sized (two_to 3) tt b

-- ---- Es
pub record EsFinite (es : EsParams) : Type 0 where
  pub fs0 : T (finite (get_or es.fs 0 nan))
  pub fs1 : T (finite (get_or es.fs 1 nan))
  pub fs2 : T (finite (get_or es.fs 2 nan))
  pub hs : T (finite es.hs)

pub es_finite : (g : Gammas) (psc3 : Float) → Mapped g → Factor psc3 → EsFinite (esind_of g psc3)
unfolding esind_of decimal round mul le
es_finite g psc3 k b =
    let f = factor_sized b in
    let fine : (x : Float) → Sized gammas x → T (finite (x ⊗ psc3)) = λ x h. sized_finite {a = two_to 53} tt (times_sized (two_to 53) tt h f) in
    record { fs0 = fine g.g3 k.g3; fs1 = fine g.g2 k.g2; fs2 = fine g.g1 k.g1; hs = tt }

-- ---- the E layer

-- 0.36 times a root from 1 to 2, or a value that is not below that by more than a rounding
root_in : (ssn : Float) → Sunspots ssn → Between (fin false 1 (negsuc 1)) (two_to 0) (decimal 36 2 ⊗ sqrt_of binary32 (decimal 10 1 ⊕ decimal 98 4 ⊗ ssn))
unfolding decimal round sqrt_of add mul le
root_in ssn b =
    let p : Between nought (fin false 3 (pos 0)) (decimal 98 4 ⊗ ssn) = mul_in binary32 nought (fin false 3 (pos 0)) tt (exactly (decimal 98 4) tt) b in
    let q : Between (two_to 0) (two_to 2) (decimal 10 1 ⊕ decimal 98 4 ⊗ ssn) = add_in binary32 (two_to 0) (two_to 2) tt (exactly (decimal 10 1) tt) p in
    mul_in binary32 (fin false 1 (negsuc 1)) (two_to 0) tt (exactly (decimal 36 2) tt) (sqrt_in (two_to 0) (two_to 1) binary32 tt q)

thirty_six : Sized (two_to 0) (decimal 36 2)
unfolding decimal round abs_of negative le
thirty_six = record { size = tt }

-- what is at most 1/4 is below 0.36
below_limit : (x : Float) → Sized gammas x → T (le x (fin false 1 (negsuc 1))) → T (le (decimal 0 1) (x ⊖ decimal 36 2)) → ⊥
unfolding decimal round neg add sub le
below_limit x h k u =
    trans_le nought (x ⊖ decimal 36 2) (fin false 1 (negsuc 1) ⊖ decimal 36 2) u
    (sub_mono binary32 x (fin false 1 (negsuc 1)) (decimal 36 2) (decimal 36 2) (sized_finite {a = gammas} tt h) tt tt tt k (refl_le (decimal 36 2) (no_nan_finite (decimal 36 2) tt)))

less_limit : (x : Float) → Sized gammas x → T (not (is_nan (x ⊖ decimal 36 2)))
unfolding add le
less_limit x h = sized_number {a = two_to 51} (less_sized (two_to 51) tt h thirty_six)

zero_number : T (not (is_nan (decimal 0 1)))
unfolding decimal round is_nan
zero_number = tt

gamma6_in : (g6 ssn : Float) → Sized gammas g6 → Sunspots ssn → Between (fin false 1 (negsuc 1)) gammas (gamma6_of g6 ssn)
unfolding gamma6_of le
gamma6_in g6 ssn h b = go (lt (g6 ⊖ decimal 36 2) (decimal 0 1)) refl
  where
    go : (c : Bool) → lt (g6 ⊖ decimal 36 2) (decimal 0 1) ≡ c → Between (fin false 1 (negsuc 1)) gammas (cond c (decimal 36 2 ⊗ sqrt_of binary32 (decimal 10 1 ⊕ decimal 98 4 ⊗ ssn)) g6)
    go true e = wider (fin false 1 (negsuc 1)) gammas tt tt (root_in ssn b)
    go false e = record {
      low = elim (total_le (fin false 1 (negsuc 1)) g6 (no_nan_finite (fin false 1 (negsuc 1)) tt) (sized_number h)) [
        | inl k ↦ k
        | inr k ↦ absurd (below_limit g6 h k (not-lt→le (g6 ⊖ decimal 36 2) (decimal 0 1) (less_limit g6 h) zero_number e))
      ];
      high = abs→le g6 gammas h.size;
    }

-- fi[0]
pub e_range : (g6 ssn psc0 : Float) → Sized gammas g6 → Sunspots ssn → Factor psc0 → Between (fin false 1 (negsuc 4)) (two_to 53) (gamma6_of g6 ssn ⊗ psc0)
unfolding decimal round mul le
e_range g6 ssn psc0 h b f = mul_in binary32 (fin false 1 (negsuc 4)) (two_to 53) tt (gamma6_in g6 ssn h b) f

-- ---- the height ratio

abs_sized : {a x : Float} → T (le (neg a) nought) → Sized a x → Sized a (abs_of x)
abs_sized {a} {x} t h = record { size = le→abs (abs_of x) a (trans_le (neg a) nought (abs_of x) t (abs_not_below x (sized_number h))) h.size }

two_sized : Sized (two_to 1) (decimal 20 1)
unfolding decimal round abs_of negative le
two_sized = record { size = tt }

ratio_latitude : (x : Float) → Sized (two_to 5) x → Sized degrees ((degrees_of (record { 0 = abs_of x })).0 ⊖ decimal 450 1)
unfolding degrees_of R2D decimal round abs_of negative neg add mul le
ratio_latitude x h =
    let r : Sized (two_to 6) R2D = record { size = tt } in
    let o : Sized (two_to 6) (decimal 450 1) = record { size = tt } in
    less_sized degrees tt (times_sized (two_to 11) tt (abs_sized {a = two_to 5} tt h) r) o

ratio_longitude : (c : Bool) (x : Float) → Sized (two_to 8) x → Sized degrees (cond c (neg x) x ⊕ decimal 1800 1)
unfolding decimal round abs_of negative add le
ratio_longitude c x h =
    let o : Sized (two_to 8) (decimal 1800 1) = record { size = tt } in
    plus_sized degrees tt (either_sized c (turned_sized h) h) o

-- what is at most 1 is below 2
below_two : (x : Float) → Sized noises x → T (le x (two_to 0)) → T (le (decimal 0 1) (x ⊖ decimal 20 1)) → ⊥
unfolding decimal round neg add sub le
below_two x h k u =
    trans_le nought (x ⊖ decimal 20 1) (two_to 0 ⊖ decimal 20 1) u
    (sub_mono binary32 x (two_to 0) (decimal 20 1) (decimal 20 1) (sized_finite {a = noises} tt h) tt tt tt k (refl_le (decimal 20 1) (no_nan_finite (decimal 20 1) tt)))

less_two : (x : Float) → Sized noises x → T (not (is_nan (x ⊖ decimal 20 1)))
unfolding add le
less_two x h = sized_number {a = two_to 112} (less_sized (two_to 112) tt h two_sized)

two_in : Between (two_to 0) noises (decimal 20 1)
unfolding decimal round le
two_in = record { low = tt; high = tt }

at_least_two : (x : Float) → Sized noises x → Between (two_to 0) noises (cond (lt (x ⊖ decimal 20 1) (decimal 0 1)) (decimal 20 1) x)
at_least_two x h = go (lt (x ⊖ decimal 20 1) (decimal 0 1)) refl
  where
    go : (c : Bool) → lt (x ⊖ decimal 20 1) (decimal 0 1) ≡ c → Between (two_to 0) noises (cond c (decimal 20 1) x)
    go true e = two_in
    go false e = record {
      low = elim (total_le (two_to 0) x (no_nan_finite (two_to 0) tt) (sized_number h)) [
        | inl k ↦ k
        | inr k ↦ absurd (below_two x h k (not-lt→le (x ⊖ decimal 20 1) (decimal 0 1) (less_two x h) zero_number e))
      ];
      high = abs→le x noises h.size;
    }

-- at least 1, and finite, where the zenith angle is a number
pub rat_range : (m : Monthly) (hmym : List Float) (gmlat : Radians) (zdeg : Degrees) (clock : Float) → Months m → Plane hmym → Sized (fin false 1 (pos 5)) gmlat.0 → Sized (fin false 1 (pos 8)) zdeg.0 → Between (fin false 1 (pos 0)) noises (rat_of m hmym gmlat zdeg clock)
unfolding rat_of
rat_range m hmym gmlat zdeg clock k p h z =
    at_least_two _
    (noisy_sized hmym m.ratio_alf m.ratio_bet _ _ p k.alf k.bet (ratio_latitude gmlat.0 h) (ratio_longitude (lt (clock ⊖ decimal 120 1) (decimal 0 1)) zdeg.0 z) true)

-- ---- frequencies

-- fi[2]
pub f2_sized : (g4 gyz psc2 : Float) → Sized gammas g4 → Sized (fin false 1 (pos 40)) gyz → Factor psc2 → Sized (fin false 1 (pos 54)) ((g4 ⊕ decimal 5 1 ⊗ gyz) ⊗ psc2)
unfolding decimal round abs_of negative add mul le
f2_sized g4 gyz psc2 h k f =
    let o : Sized (fin false 1 (negsuc 0)) (decimal 5 1) = record { size = tt } in
    times_sized (two_to 54) tt (plus_sized (two_to 51) tt h (times_sized (two_to 39) tt o k)) (factor_sized f)

-- 0.834 of it
part_sized : {x : Float} → Sized (two_to 54) x → Sized (two_to 54) (decimal 834 3 ⊗ x)
unfolding decimal round abs_of negative mul le
part_sized h =
    let o : Sized (two_to 0) (decimal 834 3) = record { size = tt } in
    times_sized (two_to 54) tt o h

-- it less 0.2
margin_sized : {x : Float} → Sized (two_to 54) x → Sized (two_to 55) (x ⊖ decimal 2 1)
unfolding decimal round abs_of negative add le
margin_sized h =
    let o : Sized (two_to 0) (decimal 2 1) = record { size = tt } in
    less_sized (two_to 55) tt h o

-- hpf2, where M(3000)F2 is not within 2 ^ -60 of zero
pub hpf2_sized : (g5 : Float) → T (le (fin false 1 (negsuc 59)) (abs_of g5)) → Sized (fin false 1 (pos 71)) (decimal 14900 1 ⊘ g5 ⊖ decimal 1760 1)
unfolding decimal round abs_of negative add div le
hpf2_sized g5 h =
    let a : Sized (decimal 14900 1) (decimal 14900 1) = record { size = tt } in
    let o : Sized (two_to 8) (decimal 1760 1) = record { size = tt } in
    less_sized (two_to 71) tt (over_sized (fin false 1491 (pos 60)) (fin false 1 (negsuc 59)) g5 tt a h) o

-- ---- the F1 layer

-- of the F1 layer before it is kept under F2: none, or one whose zenith angle is at most zenmax
record SomeF1 (z zmax : Float) (l : Layer) : Type 0 where
  pub fi : Sized (two_to 31) l.fi
  pub yi : Between (two_to 5) (two_to 7) l.yi
  pub hi : Between (two_to 7) (two_to 9) l.hi
  pub at : T (le z zmax)
  pub angle : Between (decimal 0 1) (decimal 2300 1) z

abbrev no_f1 : Layer
no_f1 = record { fi = decimal 0 1; yi = decimal 0 1; hi = decimal 0 1 }

f1_made : (m : Monthly) (psc1 z zmax cosz : Float) → Months m → Factor psc1 → Between (decimal 0 1) (decimal 2300 1) z → Sized nine cosz → T (le z zmax)
    → SomeF1 z zmax (record { fi = (m.new0 ⊕ m.new1 ⊗ cosz ⊕ m.new2 ⊗ cosz ⊗ cosz) ⊗ psc1; yi = (decimal 1650 1 ⊕ decimal 6428 4 ⊗ z) ⊘ decimal 40 1; hi = decimal 1650 1 ⊕ decimal 6428 4 ⊗ z })
unfolding decimal round add mul div le
f1_made m psc1 z zmax cosz k f b c t =
    let hi : Between (two_to 7) (two_to 9) (decimal 1650 1 ⊕ decimal 6428 4 ⊗ z) = add_in binary32 (two_to 7) (two_to 9) tt (exactly (decimal 1650 1) tt) (mul_in binary32 nought (two_to 8) tt (exactly (decimal 6428 4) tt) b) in
    record {
      fi = times_sized (two_to 31) tt (plus_sized (two_to 28) tt (plus_sized (two_to 27) tt k.new0 (times_sized (two_to 26) tt k.new1 c)) (times_sized (two_to 27) tt (times_sized (two_to 26) tt k.new2 c) c)) (factor_sized f);
      yi = div_in binary32 (two_to 5) (two_to 7) tt hi (exactly (decimal 40 1) tt);
      hi = hi;
      at = t;
      angle = b;
    }

f1_either : (m : Monthly) (psc1 z zmax cosz : Float) → Months m → Factor psc1 → Between (decimal 0 1) (decimal 2300 1) z → Sized nine cosz → (f1_layer m psc1 z zmax cosz ≡ no_f1) ⊎ SomeF1 z zmax (f1_layer m psc1 z zmax cosz)
unfolding f1_layer
f1_either m psc1 z zmax cosz k f b c = go (le z zmax) refl
  where
    go : (t : Bool) → le z zmax ≡ t
        → (cond t (record { fi = (m.new0 ⊕ m.new1 ⊗ cosz ⊕ m.new2 ⊗ cosz ⊗ cosz) ⊗ psc1; yi = (decimal 1650 1 ⊕ decimal 6428 4 ⊗ z) ⊘ decimal 40 1; hi = decimal 1650 1 ⊕ decimal 6428 4 ⊗ z }) no_f1 ≡ no_f1)
        ⊎ SomeF1 z zmax (cond t (record { fi = (m.new0 ⊕ m.new1 ⊗ cosz ⊕ m.new2 ⊗ cosz ⊗ cosz) ⊗ psc1; yi = (decimal 1650 1 ⊕ decimal 6428 4 ⊗ z) ⊘ decimal 40 1; hi = decimal 1650 1 ⊕ decimal 6428 4 ⊗ z }) no_f1)
    go true e = inr (f1_made m psc1 z zmax cosz k f b c (subst T (sym e) tt))
    go false e = inl refl

-- ---- the lesser of two numbers
min_left : (a b : Float) → T (not (is_nan a)) → T (not (is_nan b)) → T (le (min_of a b) a)
unfolding min_of
min_left a b p q = go (is_nan a) (lt b a) refl p
  where
    go : (n c : Bool) → lt b a ≡ c → T (not n) → T (le (cond n b (cond c b a)) a)
    go true c e u = absurd u
    go false true e u = lt→le b a (subst T (sym e) tt)
    go false false e u = refl_le a p

min_right : (a b : Float) → T (not (is_nan a)) → T (not (is_nan b)) → T (le (min_of a b) b)
unfolding min_of
min_right a b p q = go (is_nan a) (lt b a) refl
  where
    go : (n c : Bool) → lt b a ≡ c → T (le (cond n b (cond c b a)) b)
    go true c e = refl_le b q
    go false true e = refl_le b q
    go false false e = not-lt→le b a q p e

min_sized : {c a b : Float} → Sized c a → Sized c b → Sized c (min_of a b)
unfolding min_of
min_sized {c} {a} {b} h k = either_sized (is_nan a) k (either_sized (lt b a) k h)

-- ---- 1.1 at least
abbrev xf1 : Float
xf1 = decimal 11 1

xf1_number : T (not (is_nan xf1))
unfolding decimal round is_nan
xf1_number = tt

max_in : (b x : Float) → T (le xf1 b) → Sized b x → Between xf1 b (max_of x xf1)
unfolding max_of
max_in b x t h = go (is_nan x) (lt x xf1) refl
  where
    go : (n c : Bool) → lt x xf1 ≡ c → Between xf1 b (cond n xf1 (cond c xf1 x))
    go true c e = record { low = refl_le xf1 xf1_number; high = t }
    go false true e = record { low = refl_le xf1 xf1_number; high = t }
    go false false e = record { low = not-lt→le x xf1 (sized_number h) xf1_number e; high = abs→le x b h.size }

-- the retardation of an x from 1.1 to b
retard_in : (b p q c x : Float)
    → T (every (finite xf1 ∷ finite b ∷ finite (decimal 10 1) ∷ finite (decimal 10 1) ∷ le (two_to 1) (xf1 ⊕ decimal 10 1) ∷ le (b ⊕ decimal 10 1) p ∷ []))
    → T (every (finite xf1 ∷ finite b ∷ finite (decimal 10 1) ∷ finite (decimal 10 1) ∷ le (fin false 1 (negsuc 3)) (xf1 ⊖ decimal 10 1) ∷ le (b ⊖ decimal 10 1) p ∷ []))
    → T (every (finite p ∷ finite p ∷ positive (fin false 1 (negsuc 3)) ∷ le nought (two_to 1) ∷ le (fin false 1 (negsuc 99)) (two_to 1 ⊘ p) ∷ le (p ⊘ fin false 1 (negsuc 3)) q ∷ []))
    → T (finite q) → T (every (le (neg b) xf1 ∷ le b b ∷ [])) → T (every (finite b ∷ finite logs ∷ le (b ⊗ logs) c ∷ []))
    → Between xf1 b x → Sized c (retard_of x)
unfolding retard_of
retard_in b p q c x t u v f s w h =
    let i = add_in binary32 (two_to 1) p t h (exactly (decimal 10 1) ten_finite) in
    let j = sub_in binary32 (fin false 1 (negsuc 3)) p u h (exactly (decimal 10 1) ten_finite) in
    let y = (x ⊕ decimal 10 1) ⊘ (x ⊖ decimal 10 1) in
    let k : Between (fin false 1 (negsuc 99)) q y = div_in binary32 (fin false 1 (negsuc 99)) q v i j in
    times_sized c w (between_sized b s h) (ln32_sized y (div-fits binary32 (x ⊕ decimal 10 1) (x ⊖ decimal 10 1)) (between_positive (fin false 1 (negsuc 99)) q y tt f k))
  where
    ten_finite : T (finite (decimal 10 1))
    ten_finite = unfold decimal round in tt

-- of E: fc is at most 2 ^ 54, and fi[0] at least 1/32
e_retard : (fc fi0 : Float) → Sized (two_to 54) fc → T (le (fin false 1 (negsuc 4)) (abs_of fi0)) → Sized (two_to 68) (retard_of (at_least_xf1 fc fi0))
unfolding at_least_xf1 decimal round neg add sub mul div le
e_retard fc fi0 h k =
    retard_in (two_to 59) (two_to 60) (two_to 64) (two_to 68) _ tt tt tt tt tt tt (max_in (two_to 59) (fc ⊘ fi0) tt (over_sized (two_to 59) (fin false 1 (negsuc 4)) fi0 tt h k))

-- of F1: its frequency is at least 2 ^ -40
abbrev pub faint : Float
faint = fin false 1 (negsuc 39)

f1_retard : (fc fi1 : Float) → Sized (two_to 54) fc → T (le faint (abs_of fi1)) → Sized (two_to 103) (retard_of (at_least_xf1 fc fi1))
unfolding at_least_xf1 decimal round neg add sub mul div le
f1_retard fc fi1 h k =
    retard_in (two_to 94) (two_to 95) (two_to 99) (two_to 103) _ tt tt tt tt tt tt (max_in (two_to 94) (fc ⊘ fi1) tt (over_sized (two_to 94) faint fi1 tt h k))

-- ---- F1 into F2

record Sizes (m : Merged) : Type 0 where
  pub rft : Sized (two_to 124) m.rft
  pub hi : Sized (two_to 126) m.hi
  pub yi : Sized (two_to 126) m.yi

half_sized : Sized (fin false 1 (negsuc 0)) (decimal 5 1)
unfolding decimal round abs_of negative le
half_sized = record { size = tt }

one_sized : Sized (two_to 0) (decimal 10 1)
unfolding decimal round abs_of negative le
one_sized = record { size = tt }

-- 0.5 * y * (r - 2.0), of a y up to 1024
over_half : (y r : Float) → Sized (two_to 10) y → Sized (two_to 103) r → Sized (two_to 113) (half_over y r)
unfolding half_over add mul le
over_half y r h k = times_sized (two_to 113) tt (times_sized (two_to 9) tt half_sized h) (less_sized (two_to 104) tt k two_sized)

module _ (z zmax : Float) (f1 : Layer) (some : SomeF1 z zmax f1) (ffec hm rat fc fi2 : Float) (r : Sized (two_to 103) (retard_of ffec)) (H : Sized (two_to 75) hm) (R : T (le (two_to 0) (abs_of rat))) (F : T (le (fin false 1 (negsuc 2)) (abs_of fi2))) where
  yi_sized : Sized (two_to 7) f1.yi
  unfolding neg le
  yi_sized = between_sized (two_to 7) tt some.yi

  hi_sized : Sized (two_to 9) f1.hi
  unfolding neg le
  hi_sized = between_sized (two_to 9) tt some.hi

  hi_off : T (le (two_to 7) (abs_of f1.hi))
  hi_off = trans_le (two_to 7) f1.hi (abs_of f1.hi) some.hi.low (le_abs f1.hi (le_right (two_to 7) f1.hi some.hi.low))

  module _ (Z : Sized (two_to 8) z) (M : Sized (two_to 8) zmax) where
    abbrev zn : Float
    zn = zmax ⊖ decimal 20 1

    abbrev hn : Float
    hn = decimal 1650 1 ⊕ decimal 6428 4 ⊗ zn

    abbrev yn : Float
    yn = hn ⊗ (f1.yi ⊘ f1.hi)

    abbrev sz : Float
    sz = (z ⊖ zn) ⊘ decimal 20 1

    abbrev ym : Float
    ym = hm ⊘ rat

    abbrev dhn : Float
    dhn = hm ⊖ ym ⊖ (hn ⊖ yn)

    abbrev dh : Float
    dh = dhn ⊗ (decimal 10 1 ⊖ sz)

    abbrev y1max : Float
    y1max = yn ⊕ (ym ⊖ yn) ⊗ (f1.fi ⊘ fi2 ⊖ decimal 834 3) ⊘ decimal 166 3

    abbrev y1 : Float
    y1 = yn ⊕ (y1max ⊖ yn) ⊗ sz

    zn_sized : Sized (two_to 9) zn
    unfolding add le
    zn_sized = less_sized (two_to 9) tt M two_sized

    hn_sized : Sized (two_to 10) hn
    unfolding decimal round abs_of negative add mul le
    hn_sized =
        let a : Sized (two_to 8) (decimal 1650 1) = record { size = tt } in
        let b : Sized (two_to 0) (decimal 6428 4) = record { size = tt } in
        plus_sized (two_to 10) tt a (times_sized (two_to 9) tt b zn_sized)

    yn_sized : Sized (two_to 10) yn
    unfolding mul div le
    yn_sized = times_sized (two_to 10) tt hn_sized (over_sized (two_to 0) (two_to 7) f1.hi tt yi_sized hi_off)

    sz_sized : Sized (two_to 9) sz
    unfolding decimal round abs_of negative add div le
    sz_sized = over_sized (two_to 9) (two_to 1) (decimal 20 1) tt (less_sized (two_to 10) tt Z zn_sized) tt

    rest_sized : Sized (two_to 10) (decimal 10 1 ⊖ sz)
    unfolding add le
    rest_sized = less_sized (two_to 10) tt one_sized sz_sized

    ym_sized : Sized (two_to 75) ym
    unfolding div le
    ym_sized = over_sized (two_to 75) (two_to 0) rat tt H R

    up_sized : Sized (two_to 76) (hm ⊖ ym)
    unfolding add le
    up_sized = less_sized (two_to 76) tt H ym_sized

    dhn_sized : Sized (two_to 77) dhn
    unfolding add le
    dhn_sized = less_sized (two_to 77) tt up_sized (less_sized (two_to 11) tt hn_sized yn_sized)

    dh_sized : Sized (two_to 87) dh
    unfolding mul le
    dh_sized = times_sized (two_to 87) tt dhn_sized rest_sized

    y1max_sized : Sized (two_to 115) y1max
    unfolding decimal round abs_of negative add mul div le
    y1max_sized =
        let a : Sized (two_to 0) (decimal 834 3) = record { size = tt } in
        let q : Sized (two_to 34) (f1.fi ⊘ fi2) = over_sized (two_to 34) (fin false 1 (negsuc 2)) fi2 tt some.fi F in
        let p : Sized (two_to 111) ((ym ⊖ yn) ⊗ (f1.fi ⊘ fi2 ⊖ decimal 834 3)) = times_sized (two_to 111) tt (less_sized (two_to 76) tt ym_sized yn_sized) (less_sized (two_to 35) tt q a) in
        plus_sized (two_to 115) tt yn_sized (over_sized (two_to 114) (fin false 1 (negsuc 2)) (decimal 166 3) tt p tt)

    y1_sized : Sized (two_to 125) y1
    unfolding add mul le
    y1_sized = plus_sized (two_to 125) tt yn_sized (times_sized (fin false 513 (pos 115)) tt (less_sized (fin false 513 (pos 106)) tt y1max_sized yn_sized) sz_sized)

    rft_sized : Sized (two_to 124) (half_over yn (retard_of ffec) ⊗ (decimal 10 1 ⊖ sz))
    unfolding mul le
    rft_sized = times_sized (two_to 124) tt (over_half yn (retard_of ffec) yn_sized r) rest_sized

    twilight_sized : Sizes (twilight_of f1 ffec zmax z hm rat fc fi2)
    unfolding twilight_of
    twilight_sized = go (lt (decimal 0 1) dhn) (lt (decimal 0 1) (f1.fi ⊖ fc))
      where
        low : {y : Float} → Sized (two_to 125) y → Sized (two_to 126) (hm ⊖ ym ⊖ dh ⊕ y)
        low k = unfold add le in plus_sized (two_to 126) tt (less_sized (two_to 88) tt up_sized dh_sized) k

        go : (a b : Bool) → Sizes (cond a (cond b (record { rft = half_over yn (retard_of ffec) ⊗ (decimal 10 1 ⊖ sz); hi = hm ⊖ ym ⊖ dh ⊕ y1; yi = y1 }) (record { rft = half_over yn (retard_of ffec) ⊗ (decimal 10 1 ⊖ sz); hi = hm ⊖ ym ⊖ dh ⊕ f1.yi; yi = f1.yi })) (record { rft = half_over yn (retard_of ffec) ⊗ (decimal 10 1 ⊖ sz); hi = f1.hi; yi = f1.yi }))
        go true true = record { rft = rft_sized; hi = low y1_sized; yi = unfold le in larger (two_to 126) tt y1_sized }
        go true false = record { rft = rft_sized; hi = low (unfold le in larger (two_to 125) tt yi_sized); yi = unfold le in larger (two_to 126) tt yi_sized }
        go false b = record { rft = rft_sized; hi = unfold le in larger (two_to 126) tt hi_sized; yi = unfold le in larger (two_to 126) tt yi_sized }

z_sized : {z : Float} → Between (decimal 0 1) (decimal 2300 1) z → Sized (two_to 8) z
unfolding decimal round neg le
z_sized b = between_sized (two_to 8) tt b

-- within two degrees of zenmax, zenmax is at most 256
zenmax_near : (z zmax : Float) → Between (decimal 0 1) (decimal 2300 1) z → Sized (two_to 27) zmax → le (decimal 0 1) (zmax ⊖ decimal 20 1 ⊖ z) ≡ false → T (le zmax (two_to 8))
unfolding decimal round neg add sub le
zenmax_near z zmax b s e = elim (total_le zmax (two_to 8) (sized_number s) (no_nan_finite (two_to 8) tt)) [
  | inl h ↦ h
  | inr h ↦
      absurd (subst T e
      (trans_le nought (two_to 8 ⊖ decimal 20 1 ⊖ decimal 2300 1) (zmax ⊖ decimal 20 1 ⊖ z) tt
      (sub_mono binary32 (two_to 8 ⊖ decimal 20 1) (zmax ⊖ decimal 20 1) (decimal 2300 1) z tt (sized_finite {a = two_to 28} tt (less_sized (two_to 28) tt s two_sized)) tt (between_finite {lo = decimal 0 1} {hi = decimal 2300 1} tt tt b)
      (sub_mono binary32 (two_to 8) zmax (decimal 20 1) (decimal 20 1) tt (sized_finite {a = two_to 27} tt s) tt tt h (refl_le (decimal 20 1) (no_nan_finite (decimal 20 1) tt))) b.high)))
]

module _ (z zmax : Float) (f1 : Layer) (hm rat fc fi2 : Float) (M : Sized (two_to 27) zmax) (H : Sized (two_to 75) hm) (C : Sized (two_to 54) fc) where
  zmax_sized : Between (decimal 0 1) (decimal 2300 1) z → T (le z zmax) → T (le zmax (two_to 8)) → Sized (two_to 8) zmax
  unfolding decimal round neg le
  zmax_sized b t u = record { size = le→abs zmax (two_to 8) (trans_le (neg (two_to 8)) z zmax (trans_le (neg (two_to 8)) nought z tt b.low) t) u }

  day_half : SomeF1 z zmax f1 → Sized (two_to 103) (retard_of (at_least_xf1 fc f1.fi)) → Sizes (record { rft = half_over f1.yi (retard_of (at_least_xf1 fc f1.fi)); hi = f1.hi; yi = f1.yi })
  unfolding neg le
  day_half s r =
      let y : Sized (two_to 7) f1.yi = between_sized (two_to 7) tt s.yi in
      record {
        rft = larger (two_to 124) tt (over_half f1.yi (retard_of (at_least_xf1 fc f1.fi)) (larger (two_to 10) tt y) r);
        hi = larger (two_to 126) tt (between_sized (two_to 9) tt s.hi);
        yi = larger (two_to 126) tt y;
      }

  merged_sized : SomeF1 z zmax f1 → T (le faint (abs_of f1.fi)) → T (le (two_to 0) (abs_of rat)) → T (le (fin false 1 (negsuc 2)) (abs_of fi2)) → Sizes (merged_of f1 zmax z hm rat fc fi2)
  unfolding merged_of
  merged_sized s a R F = go (le (decimal 0 1) (zmax ⊖ decimal 20 1 ⊖ z)) refl
    where
      r : Sized (two_to 103) (retard_of (at_least_xf1 fc f1.fi))
      r = f1_retard fc f1.fi C a

      go : (t : Bool) → le (decimal 0 1) (zmax ⊖ decimal 20 1 ⊖ z) ≡ t → Sizes (cond t (record { rft = half_over f1.yi (retard_of (at_least_xf1 fc f1.fi)); hi = f1.hi; yi = f1.yi }) (twilight_of f1 (at_least_xf1 fc f1.fi) zmax z hm rat fc fi2))
      go true e = day_half s r
      go false e = twilight_sized z zmax f1 s (at_least_xf1 fc f1.fi) hm rat fc fi2 r H R F (z_sized s.angle) (zmax_sized s.angle s.at (zenmax_near z zmax s.angle M e))

-- ---- an F1 layer kept under F2

-- what is at most 1/8 is below 0.2
below_margin : (x : Float) → Sized (two_to 54) x → T (le x (fin false 1 (negsuc 2))) → T (le (decimal 0 1) (x ⊖ decimal 2 1)) → ⊥
unfolding decimal round neg add sub le
below_margin x h k u =
    trans_le nought (x ⊖ decimal 2 1) (fin false 1 (negsuc 2) ⊖ decimal 2 1) u
    (sub_mono binary32 x (fin false 1 (negsuc 2)) (decimal 2 1) (decimal 2 1) (sized_finite {a = two_to 54} tt h) tt tt tt k (refl_le (decimal 2 1) (no_nan_finite (decimal 2 1) tt)))

nil_sized : Sized (two_to 0) (decimal 0 1)
unfolding decimal round abs_of negative le
nil_sized = record { size = tt }

module _ (z zmax : Float) (l : Layer) (fi2 : Float) (E : (l ≡ no_f1) ⊎ SomeF1 z zmax l) (S : Sized (two_to 54) fi2) where
  layer_sized : Sized (two_to 31) l.fi × Sized (two_to 9) l.yi × Sized (two_to 9) l.hi
  unfolding neg le
  layer_sized = elim E [
    | inl e ↦ subst (λ (x : Layer). Sized (two_to 31) x.fi × Sized (two_to 9) x.yi × Sized (two_to 9) x.hi) (sym e) (larger (two_to 31) tt nil_sized, larger (two_to 9) tt nil_sized, larger (two_to 9) tt nil_sized)
    | inr s ↦ (s.fi, between_sized (two_to 9) tt s.yi, between_sized (two_to 9) tt s.hi)
  ]

  -- fi[1]
  kept_sized : Sized (two_to 55) (min_of l.fi (fi2 ⊖ decimal 2 1))
  unfolding le
  kept_sized = min_sized (larger (two_to 55) tt layer_sized.0) (margin_sized S)

  module _ (P : T (lt (decimal 0 1) (min_of l.fi (fi2 ⊖ decimal 2 1)))) where
    abbrev kept : Float
    kept = min_of l.fi (fi2 ⊖ decimal 2 1)

    kept_low : T (le (decimal 0 1) kept)
    kept_low = lt→le (decimal 0 1) kept P

    kept_high : T (le kept l.fi)
    kept_high = min_left l.fi (fi2 ⊖ decimal 2 1) (sized_number layer_sized.0) (sized_number (margin_sized S))

    there : SomeF1 z zmax l
    unfolding decimal round
    there = elim E [
      | inl e ↦ absurd (lt_not_le nought kept tt (sized_finite {a = two_to 55} tt kept_sized) P (subst (λ (x : Layer). T (le kept x.fi)) e kept_high))
      | inr s ↦ s
    ]

    kept_some : SomeF1 z zmax (below_f2 l fi2)
    unfolding below_f2 decimal round neg le
    kept_some =
        let s = there in
        record {
          fi = record { size = le→abs kept (two_to 31) (trans_le (neg (two_to 31)) nought kept tt kept_low) (trans_le kept l.fi (two_to 31) kept_high (abs→le l.fi (two_to 31) s.fi.size)) };
          yi = s.yi;
          hi = s.hi;
          at = s.at;
          angle = s.angle;
        }

    f2_off : T (le (fin false 1 (negsuc 2)) (abs_of fi2))
    f2_off =
        let n = sized_number S in
        elim (total_le (fin false 1 (negsuc 2)) fi2 (no_nan_finite (fin false 1 (negsuc 2)) tt) n) [
          | inl k ↦ trans_le (fin false 1 (negsuc 2)) fi2 (abs_of fi2) k (le_abs fi2 n)
          | inr k ↦ absurd (below_margin fi2 S k (trans_le (decimal 0 1) kept (fi2 ⊖ decimal 2 1) kept_low (min_right l.fi (fi2 ⊖ decimal 2 1) (sized_number layer_sized.0) (sized_number (margin_sized S)))))
        ]

-- ---- the retardation and F1 in the end

record Ended (m : Merged) : Type 0 where
  pub rft : Sized (two_to 125) m.rft
  pub hi : Sized (two_to 126) m.hi
  pub yi : Sized (two_to 126) m.yi

lowered : {h ret : Float} → Sized (two_to 71) h → Sized (two_to 74) ret → Sized (two_to 75) (h ⊖ ret)
unfolding add le
lowered h k = less_sized (two_to 75) tt h k

delayed : {ret x : Float} → Sized (two_to 74) ret → Sized (two_to 124) x → Sized (two_to 125) (ret ⊕ x)
unfolding add le
delayed h k = plus_sized (two_to 125) tt h k

without_f1 : (ret : Float) (l : Layer) → Sized (two_to 74) ret → Sized (two_to 9) l.hi → Sized (two_to 9) l.yi → Ended (record { rft = ret; hi = l.hi; yi = l.yi })
unfolding le
without_f1 ret l R h k = record { rft = larger (two_to 125) tt R; hi = larger (two_to 126) tt h; yi = larger (two_to 126) tt k }

-- F1's frequency is not above zero, or not within 2 ^ -40 of it
abbrev pub OffZero : Float → Type 0
OffZero fi1 = T (lt (decimal 0 1) fi1) → T (le faint (abs_of fi1))

retarded_sized :
    (z zmax : Float) (l : Layer) (ret hpf2 rat fc fi2 : Float) → (l ≡ no_f1) ⊎ SomeF1 z zmax l → Sized (two_to 27) zmax → Sized (two_to 74) ret → Sized (two_to 71) hpf2 → Sized (two_to 54) fc → Sized (two_to 54) fi2
    → (T (le z zmax) → T (le (two_to 0) (abs_of rat))) → OffZero (below_f2 l fi2).fi → Ended (retarded_of (below_f2 l fi2) ret zmax z hpf2 rat fc fi2)
unfolding retarded_of below_f2
retarded_sized z zmax l ret hpf2 rat fc fi2 E M R P C S A O = go (lt (decimal 0 1) (min_of l.fi (fi2 ⊖ decimal 2 1))) refl
  where
    go : (t : Bool) → lt (decimal 0 1) (min_of l.fi (fi2 ⊖ decimal 2 1)) ≡ t
        → Ended (cond t (record { rft = ret ⊕ (merged_of (below_f2 l fi2) zmax z (hpf2 ⊖ ret) rat fc fi2).rft; hi = (merged_of (below_f2 l fi2) zmax z (hpf2 ⊖ ret) rat fc fi2).hi; yi = (merged_of (below_f2 l fi2) zmax z (hpf2 ⊖ ret) rat fc fi2).yi }) (record { rft = ret; hi = l.hi; yi = l.yi }))
    go true e =
        let p : T (lt (decimal 0 1) (min_of l.fi (fi2 ⊖ decimal 2 1))) = subst T (sym e) tt in
        let s = kept_some z zmax l fi2 E S p in
        let m = merged_sized z zmax (below_f2 l fi2) (hpf2 ⊖ ret) rat fc fi2 M (lowered P R) C s (O p) (A s.at) (f2_off z zmax l fi2 E S p) in
        record { rft = delayed R m.rft; hi = m.hi; yi = m.yi }
    go false e =
        let s = layer_sized z zmax l fi2 E S in
        without_f1 ret l R s.2 s.1

-- ---- the absorption index

index_in : (fi0 : Float) → Between (fin false 1 (negsuc 4)) (two_to 53) fi0 → Sized (two_to 54) (minus_decimal 2937 3 ⊕ decimal 8445 4 ⊗ fi0)
unfolding decimal minus_decimal round abs_of negative neg add mul le
index_in fi0 b =
    let a : Sized (two_to 2) (minus_decimal 2937 3) = record { size = tt } in
    let c : Sized (two_to 0) (decimal 8445 4) = record { size = tt } in
    plus_sized (two_to 54) tt a (times_sized (two_to 53) tt c (between_sized (two_to 53) tt b))

index_number : (fi0 : Float) → Between (fin false 1 (negsuc 4)) (two_to 53) fi0 → T (not (is_nan (abiy_of fi0)))
unfolding abiy_of minus_decimal round
index_number fi0 b = add_number binary32 (minus_decimal 4 2) (exp32_of (minus_decimal 2937 3 ⊕ decimal 8445 4 ⊗ fi0)) tt (exp32_number (minus_decimal 2937 3 ⊕ decimal 8445 4 ⊗ fi0) (sized_number (index_in fi0 b)))

index_short : (fi0 : Float) → Between (fin false 1 (negsuc 4)) (two_to 53) fi0 → T (le fi0 (decimal 560 1)) → Sized (fin false 3 (pos 4)) (minus_decimal 2937 3 ⊕ decimal 8445 4 ⊗ fi0)
unfolding decimal minus_decimal round neg add mul le
index_short fi0 b t =
    let c : Between (fin false 1 (negsuc 4)) (decimal 560 1) fi0 = record { low = b.low; high = t } in
    let p : Between nought (fin false 3 (pos 4)) (decimal 8445 4 ⊗ fi0) = mul_in binary32 nought (fin false 3 (pos 4)) tt (exactly (decimal 8445 4) tt) c in
    let q : Between (neg (two_to 2)) (fin false 3 (pos 4)) (minus_decimal 2937 3 ⊕ decimal 8445 4 ⊗ fi0) = add_in binary32 (neg (two_to 2)) (fin false 3 (pos 4)) tt (exactly (minus_decimal 2937 3) tt) p in
    between_sized (fin false 3 (pos 4)) tt q

index_sized : (fi0 : Float) → Between (fin false 1 (negsuc 4)) (two_to 53) fi0 → T (le fi0 (decimal 560 1)) → Sized (two_to 125) (abiy_of fi0)
unfolding abiy_of decimal minus_decimal round abs_of negative neg add le
index_sized fi0 b t =
    let a : Sized (two_to 0) (minus_decimal 4 2) = record { size = tt } in
    plus_sized (two_to 125) tt a (exp32_sized (minus_decimal 2937 3 ⊕ decimal 8445 4 ⊗ fi0) (index_short fi0 b t).size)

-- ---- hpf2 next to zero

number_abs : (z : Float) → T (not (is_nan (abs_of z))) → T (not (is_nan z))
unfolding abs_of negative neg is_nan
number_abs nan h = h
number_abs (inf s) h = tt
number_abs (fin s m e) h = tt

quotient_number : (y : Float) → T (finite y) → T (not (is_nan (decimal 14900 1 ⊘ y)))
quotient_number nan p = absurd p
quotient_number (inf s) p = absurd p
quotient_number (fin s zero d) p = unfold decimal round div is_nan in tt
quotient_number (fin s (suc n) d) p =
    number_abs (decimal 14900 1 ⊘ fin s (suc n) d)
    (subst (λ (x : Float). T (not (is_nan x))) (sym (abs_div binary32 (decimal 14900 1) (fin s (suc n) d)))
    (subst (λ (x : Float). T (not (is_nan (abs_of (decimal 14900 1) ⊘ x)))) (sym (abs_fin s (suc n) d))
    (le_right nought (abs_of (decimal 14900 1) ⊘ fin false (suc n) d) (div_not_below binary32 (abs_of (decimal 14900 1)) (fin false (suc n) d) (unfold decimal round abs_of negative in tt) (lt→ltb 0 (suc n) (omega arith)) (unfold decimal round abs_of negative le in tt)))))

less_number : (x : Float) → T (not (is_nan x)) → T (not (is_nan (x ⊖ decimal 1760 1)))
unfolding decimal round is_nan
less_number nan h = absurd h
less_number (inf true) h = unfold neg add sub in tt
less_number (inf false) h = unfold neg add sub in tt
less_number (fin s m e) h = unfold neg sub in add_number binary32 (fin s m e) (neg (decimal 1760 1)) tt tt

height_number : (g5 : Float) → T (finite g5) → T (not (is_nan (decimal 14900 1 ⊘ g5 ⊖ decimal 1760 1)))
height_number g5 p = less_number (decimal 14900 1 ⊘ g5) (quotient_number g5 p)

-- it is finite where f2m3 is not within 2 ^ -60 of zero
pub hpf2_finite :
    (m : Monthly) (ssn gmt : Float) (psc : Factors) (hmym : List Float) (pt : ControlPoint) (mag : MagneticVars) (g : Gammas) →
    T (le (fin false 1 (negsuc 59)) (abs_of (layers_of m ssn gmt psc hmym pt mag g).f2m3)) → Sized (fin false 1 (pos 71)) (layers_of m ssn gmt psc hmym pt mag g).hpf2
unfolding layers_of
hpf2_finite m ssn gmt psc hmym pt mag g t = hpf2_sized g.g5 t

-- at zero it is infinite, with zero's sign
at_zero : (s : Bool) (e : ℤ) → decimal 14900 1 ⊘ fin s 0 e ⊖ decimal 1760 1 ≡ inf s
unfolding decimal round neg add sub div
at_zero false e = refl
at_zero true e = refl

pub hpf2_at_zero :
    (m : Monthly) (ssn gmt : Float) (psc : Factors) (hmym : List Float) (pt : ControlPoint) (mag : MagneticVars) (g : Gammas) (s : Bool) (e : ℤ) →
    (layers_of m ssn gmt psc hmym pt mag g).f2m3 ≡ fin s 0 e → (layers_of m ssn gmt psc hmym pt mag g).hpf2 ≡ inf s
unfolding layers_of
hpf2_at_zero m ssn gmt psc hmym pt mag g s e h = ap (λ (x : Float). decimal 14900 1 ⊘ x ⊖ decimal 1760 1) h ∙ at_zero s e

-- ---- without a zenith angle there is no height ratio

add_nan : (x : Float) → x ⊕ nan ≡ nan
unfolding add
add_nan nan = refl
add_nan (inf s) = refl
add_nan (fin s m e) = refl

mul_nan : (x : Float) → x ⊗ nan ≡ nan
unfolding mul
mul_nan nan = refl
mul_nan (inf s) = refl
mul_nan (fin s m e) = refl

nan_mul : (x : Float) → nan ⊗ x ≡ nan
unfolding mul
nan_mul x = refl

nan_add : (x : Float) → nan ⊕ x ≡ nan
unfolding add
nan_add x = refl

sin_nan : (sin32_of nan ≡ nan) × (cos32_of nan ≡ nan)
unfolding sin32_of cos32_of sin_of cos_of narrow_of abs_of negative le
sin_nan = (refl, refl)

turn_nan : (k : ℕ) → (turn_of nan nan k).sine ≡ nan
unfolding turn_of
turn_nan zero = refl
turn_nan (suc k) =
    let v = turn_of nan nan k in
    ap (λ (x : Float). v.sine ⊗ nan ⊕ x) (mul_nan v.cosine) ∙ add_nan (v.sine ⊗ nan)

column_nan : (plane : List Float) (j k : ℕ) → column_of (λ i. (turn_of nan nan i).sine) plane j (suc k) ≡ nan
unfolding column_of
column_nan plane j k =
    let c = column_of (λ i. (turn_of nan nan i).sine) plane j k in
    ap (λ (x : Float). c ⊕ x ⊗ in_plane plane k j) (turn_nan k) ∙ ap (λ (x : Float). c ⊕ x) (nan_mul (in_plane plane k j)) ∙ add_nan c

zz_nan : (plane : List Float) (j : ℕ) → zz_of (λ i. (turn_of nan nan i).sine) plane 10 j ≡ nan
unfolding zz_of
zz_nan plane j = ap (λ (x : Float). x ⊕ in_plane plane 15 j) (column_nan plane j 9) ∙ nan_add (in_plane plane 15 j)

latitude_nan : (sk zz : ℕ → Float) (k : ℕ) → zz k ≡ nan → latitude_sum sk zz (suc k) ≡ nan
unfolding latitude_sum
latitude_nan sk zz k e =
    let l = latitude_sum sk zz k in
    ap (λ (x : Float). l ⊕ sk k ⊗ x) e ∙ ap (λ (x : Float). l ⊕ x) (mul_nan (sk k)) ∙ add_nan l

noisy_nan : (plane : List Float) (alf bet xla : Float) → noisy_sum 15 10 plane alf bet xla nan ≡ nan
unfolding noisy_sum
noisy_nan plane alf bet xla =
    let p = decimal 1745329252 11 ⊗ (xla ⊕ decimal 900 1) in
    let sk : ℕ → Float = λ k. (turn_of (sin32_of p) (cos32_of p) k).sine in
    let e : sin32_of (decimal 87266466 10 ⊗ nan) ≡ nan = ap sin32_of (mul_nan (decimal 87266466 10)) ∙ sin_nan.0 in
    let d : cos32_of (decimal 87266466 10 ⊗ nan) ≡ nan = ap cos32_of (mul_nan (decimal 87266466 10)) ∙ sin_nan.1 in
    (λ t. latitude_sum sk (zz_of (λ k. (turn_of (e t) (d t) k).sine) plane 10) 15 ⊕ alf ⊕ bet ⊗ p)
    ∙ ap (λ (x : Float). x ⊕ alf ⊕ bet ⊗ p) (latitude_nan sk (zz_of (λ k. (turn_of nan nan k).sine) plane 10) 14 (zz_nan plane 14))
    ∙ ap (λ (x : Float). x ⊕ bet ⊗ p) (nan_add alf)
    ∙ nan_add (bet ⊗ p)

longitude_nan : (c : Bool) → cond c (neg nan) nan ⊕ decimal 1800 1 ≡ nan
unfolding neg add
longitude_nan true = refl
longitude_nan false = refl

least_nan : cond (lt (nan ⊖ decimal 20 1) (decimal 0 1)) (decimal 20 1) nan ≡ nan
unfolding add sub lt
least_nan = refl

ratio_nan : (m : Monthly) (hmym : List Float) (gmlat : Radians) (clock : Float) → rat_of m hmym gmlat (record { 0 = nan }) clock ≡ nan
unfolding rat_of noisy_of
ratio_nan m hmym gmlat clock =
    let gm = (degrees_of (record { 0 = abs_of gmlat.0 })).0 ⊖ decimal 450 1 in
    let n : Float → Float = λ x. noisy_sum 15 10 hmym m.ratio_alf m.ratio_bet gm x in
    ap (λ (x : Float). cond (lt (n x ⊖ decimal 20 1) (decimal 0 1)) (decimal 20 1) (n x)) (longitude_nan (lt (clock ⊖ decimal 120 1) (decimal 0 1)))
    ∙ ap (λ (x : Float). cond (lt (x ⊖ decimal 20 1) (decimal 0 1)) (decimal 20 1) x) (noisy_nan hmym m.ratio_alf m.ratio_bet gm)
    ∙ least_nan

-- ---- at a point

acos_sized : (q : Float) → Within q → Sized (two_to 2) (abs_of (acos32_of q))
unfolding fraction round neg le
acos_sized q h =
    let b = acos32_range q h in
    abs_sized {a = two_to 2} tt (between_sized (two_to 2) tt b)

acos_cosine : (q : Float) → Within q → Sized nine (cos32_of (abs_of (acos32_of q)))
unfolding le
acos_cosine q h = cos32_sized {a = two_to 2} tt (acos_sized q h)

no_angle : (m : Monthly) (psc1 zmax cosz : Float) → f1_layer m psc1 nan zmax cosz ≡ no_f1
unfolding f1_layer le
no_angle m psc1 zmax cosz = refl

not_a_number : (zmax : Float) → T (le nan zmax) → ⊥
unfolding le
not_a_number zmax t = t

angle_nan : (q : Float) → le (abs_of q) (fraction 1 1) ≡ false → angle_of q ≡ nan
angle_nan q e = ap (λ (x : Float). (degrees_of (record { 0 = abs_of x })).0) (beyond_nan q e) ∙ nan_angle

-- where the zenith angle is compared with anything, it is a number
at_within : (q zmax : Float) → T (le (angle_of q) zmax) → Within q
at_within q zmax t = go (le (abs_of q) (fraction 1 1)) refl
  where
    go : (c : Bool) → le (abs_of q) (fraction 1 1) ≡ c → T c
    go true e = tt
    go false e = absurd (not_a_number zmax (subst (λ (x : Float). T (le x zmax)) (angle_nan q e) t))

f1_any : (m : Monthly) (psc1 q zmax : Float) → Months m → Factor psc1 → (f1_layer m psc1 (angle_of q) zmax (cos32_of (abs_of (acos32_of q))) ≡ no_f1) ⊎ SomeF1 (angle_of q) zmax (f1_layer m psc1 (angle_of q) zmax (cos32_of (abs_of (acos32_of q))))
f1_any m psc1 q zmax K f = go (le (abs_of q) (fraction 1 1)) refl
  where
    go : (c : Bool) → le (abs_of q) (fraction 1 1) ≡ c → (f1_layer m psc1 (angle_of q) zmax (cos32_of (abs_of (acos32_of q))) ≡ no_f1) ⊎ SomeF1 (angle_of q) zmax (f1_layer m psc1 (angle_of q) zmax (cos32_of (abs_of (acos32_of q))))
    go true e = let w : Within q = subst T (sym e) tt in f1_either m psc1 (angle_of q) zmax (cos32_of (abs_of (acos32_of q))) K f (angle_in q w) (acos_cosine q w)
    go false e = inl (ap (λ (x : Float). f1_layer m psc1 x zmax (cos32_of (abs_of (acos32_of q)))) (angle_nan q e) ∙ no_angle m psc1 zmax (cos32_of (abs_of (acos32_of q))))

e_height_sized : Sized (two_to 5) (decimal 1100 1 ⊘ decimal 55 1)
unfolding decimal round abs_of negative div le
e_height_sized = record { size = tt }

-- `ret` of E
ret_sized : (fc fi0 : Float) → Sized (two_to 54) fc → Between (fin false 1 (negsuc 4)) (two_to 53) fi0 → Sized (two_to 74) ((retard_of (at_least_xf1 fc fi0) ⊖ decimal 20 1) ⊗ (decimal 1100 1 ⊘ decimal 55 1))
unfolding add mul le
ret_sized fc fi0 C b =
    let o = trans_le (fin false 1 (negsuc 4)) fi0 (abs_of fi0) b.low (le_abs fi0 (le_right (fin false 1 (negsuc 4)) fi0 b.low)) in
    times_sized (two_to 74) tt (less_sized (two_to 69) tt (e_retard fc fi0 C o) two_sized) e_height_sized

rat_off : (x : Float) → Between (two_to 0) noises x → T (le (two_to 0) (abs_of x))
rat_off x b = trans_le (two_to 0) x (abs_of x) b.low (le_abs x (le_right (two_to 0) x b.low))

tall_sized : {h r : Float} → Sized (two_to 71) h → Sized (two_to 125) r → Sized (two_to 126) (h ⊖ r)
unfolding add le
tall_sized h k = less_sized (two_to 126) tt h k

thick_sized : {h : Float} (rat : Float) → Sized (two_to 126) h → T (le (two_to 0) (abs_of rat)) → Sized (two_to 126) (h ⊘ rat)
unfolding div le
thick_sized rat h k = over_sized (two_to 126) (two_to 0) rat tt h k

module _ (m : Monthly) (ssn gmt : Float) (psc : Factors) (hmym : List Float) (pt : ControlPoint) (mag : MagneticVars) (g : Gammas) (F : Fields ssn gmt psc) (K : Months m) (L : Plane hmym) (Q : Placed pt mag) (G : Mapped g) where
  -- fi[0] is at least 1/32, and finite
  pub fi0_range : Between (fin false 1 (negsuc 4)) (fin false 1 (pos 53)) (get_or (layers_of m ssn gmt psc hmym pt mag g).fi 0 nan)
  unfolding layers_of ef1_of e_layer
  fi0_range = e_range g.g6 ssn psc.e G.g6 F.sunspots F.e

  -- fi[1] is finite, with or without a zenith angle
  pub fi1_sized : Sized (fin false 1 (pos 55)) (get_or (layers_of m ssn gmt psc hmym pt mag g).fi 1 nan)
  unfolding layers_of ef1_of timvar_of zenith_of zenith_cosine below_f2
  fi1_sized = kept_sized _ _ _ _ (f1_any m psc.f1 (cosine_of m gmt pt) (m.chi0 ⊕ m.chi1 ⊗ cos32_of mag.gmdip.0) K F.f1) (f2_sized g.g4 mag.gyz psc.f2 G.g4 Q.gyz F.f2)

  -- fi[2] is finite
  pub fi2_sized : Sized (fin false 1 (pos 54)) (get_or (layers_of m ssn gmt psc hmym pt mag g).fi 2 nan)
  unfolding layers_of
  fi2_sized = f2_sized g.g4 mag.gyz psc.f2 G.g4 Q.gyz F.f2

  -- f2m3 is a map's value
  pub f2m3_sized : Sized gammas (layers_of m ssn gmt psc hmym pt mag g).f2m3
  unfolding layers_of
  f2m3_sized = G.g5

  -- rat is finite where the zenith angle is a number
  pub rat_finite : Within (cosine_of m gmt pt) → Between (fin false 1 (pos 0)) noises (layers_of m ssn gmt psc hmym pt mag g).rat
  unfolding layers_of ef1_of timvar_of zenith_of zenith_cosine
  rat_finite w = rat_range m hmym pt.gmlat _ _ K L Q.gmlat (z_sized (angle_in (cosine_of m gmt pt) w))

  module _ (off : T (le (fin false 1 (negsuc 59)) (abs_of g.g5))) (f1_off : OffZero (get_or (layers_of m ssn gmt psc hmym pt mag g).fi 1 nan)) where
    abbrev fi2 : Float
    fi2 = (g.g4 ⊕ decimal 5 1 ⊗ mag.gyz) ⊗ psc.f2

    abbrev fc : Float
    fc = decimal 834 3 ⊗ fi2

    abbrev zmax : Float
    zmax = m.chi0 ⊕ m.chi1 ⊗ cos32_of mag.gmdip.0

    abbrev z : Float
    z = angle_of (cosine_of m gmt pt)

    abbrev f1 : Layer
    f1 = f1_layer m psc.f1 z zmax (cos32_of (abs_of (acos32_of (cosine_of m gmt pt))))

    abbrev ended : Merged
    ended = retarded_of (below_f2 f1 fi2) (e_retardation (e_layer g.g6 ssn psc.e) fc) zmax z (decimal 14900 1 ⊘ g.g5 ⊖ decimal 1760 1) (layers_of m ssn gmt psc hmym pt mag g).rat fc fi2

    all_ended : Ended ended
    unfolding layers_of ef1_of e_layer e_retardation timvar_of zenith_of zenith_cosine below_f2
    all_ended =
        let S = f2_sized g.g4 mag.gyz psc.f2 G.g4 Q.gyz F.f2 in
        let C = part_sized S in
        retarded_sized z zmax f1 _ _ _ fc fi2 (f1_any m psc.f1 (cosine_of m gmt pt) zmax K F.f1)
        (zenmax_sized m ssn gmt psc hmym pt mag g K Q.gmdip)
        (ret_sized fc _ C (e_range g.g6 ssn psc.e G.g6 F.sunspots F.e))
        (hpf2_sized g.g5 off) C S
        (λ t. rat_off _ (rat_finite (at_within (cosine_of m gmt pt) zmax t)))
        f1_off

    -- yi[1], hi[1] and hi[2] are finite, with or without a zenith angle
    pub yi1_sized : Sized (fin false 1 (pos 126)) (get_or (layers_of m ssn gmt psc hmym pt mag g).yi 1 nan)
    unfolding layers_of ef1_of timvar_of zenith_of zenith_cosine
    yi1_sized = all_ended.yi

    pub hi1_sized : Sized (fin false 1 (pos 126)) (get_or (layers_of m ssn gmt psc hmym pt mag g).hi 1 nan)
    unfolding layers_of ef1_of timvar_of zenith_of zenith_cosine
    hi1_sized = all_ended.hi

    pub hi2_sized : Sized (fin false 1 (pos 126)) (get_or (layers_of m ssn gmt psc hmym pt mag g).hi 2 nan)
    unfolding layers_of ef1_of timvar_of zenith_of zenith_cosine
    hi2_sized = tall_sized (hpf2_sized g.g5 off) all_ended.rft

    -- yi[2] is finite where the zenith angle is a number
    pub yi2_sized : Within (cosine_of m gmt pt) → Sized (fin false 1 (pos 126)) (get_or (layers_of m ssn gmt psc hmym pt mag g).yi 2 nan)
    unfolding layers_of ef1_of timvar_of zenith_of zenith_cosine
    yi2_sized w = thick_sized _ (tall_sized (hpf2_sized g.g5 off) all_ended.rft) (rat_off _ (rat_finite w))

  -- abiy is a number, and finite where fi[0] is at most 56 MHz
  pub abiy_number : T (not (is_nan (layers_of m ssn gmt psc hmym pt mag g).abiy))
  unfolding layers_of ef1_of e_layer
  abiy_number = index_number _ fi0_range

  pub abiy_sized : T (le (get_or (layers_of m ssn gmt psc hmym pt mag g).fi 0 nan) (decimal 560 1)) → Sized (fin false 1 (pos 125)) (layers_of m ssn gmt psc hmym pt mag g).abiy
  unfolding layers_of ef1_of e_layer
  abiy_sized t = index_sized _ fi0_range t

  -- hpf2 is a number all the same, however near to zero f2m3 is
  pub hpf2_number : T (not (is_nan (layers_of m ssn gmt psc hmym pt mag g).hpf2))
  unfolding layers_of
  hpf2_number = height_number g.g5 (sized_finite {a = gammas} tt G.g5)

-- where the cosine comes out beyond 1 in size, the height ratio is NaN too, and with it yi[2]
module _ (m : Monthly) (ssn gmt : Float) (psc : Factors) (hmym : List Float) (pt : ControlPoint) (mag : MagneticVars) (g : Gammas) (beyond : le (abs_of (cosine_of m gmt pt)) (fraction 1 1) ≡ false) where
  ratio_none : (layers_of m ssn gmt psc hmym pt mag g).rat ≡ nan
  unfolding layers_of ef1_of timvar_of zenith_of zenith_cosine
  ratio_none = ap (λ (x : Float). rat_of m hmym pt.gmlat (record { 0 = x }) (clock_of gmt pt.lon)) (angle_nan (cosine_of m gmt pt) beyond) ∙ ratio_nan m hmym pt.gmlat (clock_of gmt pt.lon)

  div_nan : (x : Float) → x ⊘ nan ≡ nan
  unfolding div
  div_nan nan = refl
  div_nan (inf s) = refl
  div_nan (fin t n d) = refl

  thick_is : get_or (layers_of m ssn gmt psc hmym pt mag g).yi 2 nan ≡ get_or (layers_of m ssn gmt psc hmym pt mag g).hi 2 nan ⊘ (layers_of m ssn gmt psc hmym pt mag g).rat
  unfolding layers_of
  thick_is = refl

  thickness_none : get_or (layers_of m ssn gmt psc hmym pt mag g).yi 2 nan ≡ nan
  thickness_none = thick_is ∙ ap (λ (x : Float). get_or (layers_of m ssn gmt psc hmym pt mag g).hi 2 nan ⊘ x) ratio_none ∙ div_nan (get_or (layers_of m ssn gmt psc hmym pt mag g).hi 2 nan)

nan_below : T (le (decimal 0 1) nan) → ⊥
unfolding decimal round is_nan
nan_below h = le_right (decimal 0 1) nan h

module _ (m : Monthly) (ssn gmt : Float) (psc : Factors) (hmym : List Float) (pt : ControlPoint) (mag : MagneticVars) (g : Gammas) (none : (layers_of m ssn gmt psc hmym pt mag g).zenang.0 ≡ nan) where
  -- a zenith angle that is NaN has such a cosine
  cosine_none : le (abs_of (cosine_of m gmt pt)) (fraction 1 1) ≡ false
  cosine_none = go (le (abs_of (cosine_of m gmt pt)) (fraction 1 1)) refl
    where
      go : (c : Bool) → le (abs_of (cosine_of m gmt pt)) (fraction 1 1) ≡ c → c ≡ false
      go false e = refl
      go true e = absurd (nan_below (subst (λ (x : Float). T (le (decimal 0 1) x)) none (zenang_range m ssn gmt psc hmym pt mag g (subst T (sym e) tt)).low))

  pub rat_nan : (layers_of m ssn gmt psc hmym pt mag g).rat ≡ nan
  rat_nan = ratio_none m ssn gmt psc hmym pt mag g cosine_none

  pub yi2_nan : get_or (layers_of m ssn gmt psc hmym pt mag g).yi 2 nan ≡ nan
  yi2_nan = thickness_none m ssn gmt psc hmym pt mag g cosine_none

-- ---- the cosine itself is a number, in every month, so that the zenith angle is NaN exactly where
-- that is beyond 1 in size

unfoldable sun_test : ℕ → Bool
sun_test k = every (le (abs_of (sun_of (suc k)).0.0) (two_to 5) ∷ le (abs_of (sun_of (suc k)).1.0) (two_to 5) ∷ [])

sun_tests : T (up_to sun_test 11)
unfolding sun_test sun_of SUN decimal minus_decimal round abs_of negative neg le
sun_tests = tt

D2R_sized : Sized (fin false 1 (negsuc 4)) D2R
unfolding D2R decimal round abs_of negative le
D2R_sized = record { size = tt }

sun_sized : (month : ℕ) → 1 ≤ month → month ≤ 12 → Sized (two_to 5) (sun_of month).0.0 × Sized (two_to 5) (sun_of month).1.0
unfolding sun_test
sun_sized zero h k = absurd (omega arith)
sun_sized (suc n) h k =
    let w = all (le (abs_of (sun_of (suc n)).0.0) (two_to 5) ∷ le (abs_of (sun_of (suc n)).1.0) (two_to 5) ∷ []) (at_each sun_test 11 sun_tests n (omega arith)) in
    (record { size = w.0 }, record { size = w.1.0 })

ssp_sized : (month : ℕ) (lat : Radians) → 1 ≤ month → month ≤ 12 → Sized (two_to 0) (ssp_of (sun_of month) lat)
unfolding ssp_of radians_of mul le
ssp_sized month lat h k =
    let s = sun_sized month h k in
    either_sized (lt (decimal 0 1) (abs_of (lat.0 ⊖ (sun_of month).0.0 ⊗ D2R) ⊖ abs_of (lat.0 ⊖ (sun_of month).1.0 ⊗ D2R))) (times_sized (two_to 0) tt s.0 D2R_sized) (times_sized (two_to 0) tt s.1 D2R_sized)

ssl_sized : (gmt : Float) → Hour gmt → Sized (two_to 5) (ssl_of gmt).0
unfolding ssl_of radians_of decimal round abs_of negative neg add mul le
ssl_sized gmt b =
    let h : Sized (decimal 240 1) gmt = between_sized (decimal 240 1) tt b in
    let f : Sized (decimal 150 1) (decimal 150 1) = record { size = tt } in
    let o : Sized (decimal 1800 1) (decimal 1800 1) = record { size = tt } in
    times_sized (two_to 5) tt (less_sized (two_to 10) tt o (times_sized (two_to 9) tt f h)) D2R_sized

longitude_sized : {x : Float} → Longitude x → Sized (two_to 2) x
unfolding farthest PI PI2 decimal round neg add sub le
longitude_sized b = between_sized (two_to 2) tt b

cosine_sized : (month : ℕ) (gmt : Float) (lat lon : Radians) → 1 ≤ month → month ≤ 12 → Hour gmt → Sized (two_to 5) lat.0 → Longitude lon.0 → Sized (two_to 3) (zenith_cosine lat lon (ssp_of (sun_of month) lat) (ssl_of gmt))
unfolding zenith_cosine add mul le
cosine_sized month gmt lat lon h k b l o =
    let s = ssp_sized month lat h k in
    let z : Sized (two_to 6) (lon.0 ⊖ (ssl_of gmt).0) = less_sized (two_to 6) tt (longitude_sized o) (ssl_sized gmt b) in
    plus_sized (two_to 3) tt (times_sized (two_to 1) tt (sin32_sized tt l) (sin32_sized tt s)) (times_sized (two_to 2) tt (times_sized (two_to 1) tt (cos32_sized tt l) (cos32_sized tt s)) (cos32_sized tt z))

one_number : T (not (is_nan (fraction 1 1))) × T (finite (fraction 1 1))
unfolding fraction round is_nan
one_number = (tt, tt)

-- beyond 1: not at most 1, of a number
beyond_is : (q : Float) → Sized (two_to 3) q → le (abs_of q) (fraction 1 1) ≡ false → T (lt (fraction 1 1) (abs_of q))
beyond_is q h e = not-le→lt (fraction 1 1) (abs_of q) one_number.0 (le_right nought (abs_of q) (abs_not_below q (sized_number h))) (λ u. subst T e u)

beyond_not : (q : Float) → Sized (two_to 3) q → T (lt (fraction 1 1) (abs_of q)) → le (abs_of q) (fraction 1 1) ≡ false
beyond_not q h t = go (le (abs_of q) (fraction 1 1)) refl
  where
    go : (c : Bool) → le (abs_of q) (fraction 1 1) ≡ c → c ≡ false
    go false e = refl
    go true e =
        let p : T (finite (abs_of q)) = finite_between nought (abs_of q) (two_to 3) tt tt (abs_not_below q (sized_number h)) h.size in
        absurd (lt_not_le (fraction 1 1) (abs_of q) one_number.1 p t (subst T (sym e) tt))

module _ (file : List ℕ) (month : ℕ) (ssn gmt : Float) (psc : Factors) (hmym : List Float) (pt : ControlPoint) (mag : MagneticVars) (g : Gammas) (first : 1 ≤ month) (last : month ≤ 12) (b : Hour gmt) (h : Sized (two_to 5) pt.lat.0) (o : Longitude pt.lon.0) where
  abbrev cosine : Float
  cosine = cosine_of (monthly_of file month ssn) gmt pt

  known : Sized (two_to 3) cosine
  unfolding monthly_of
  known = cosine_sized month gmt pt.lat pt.lon first last b h o

  -- beyond 1 in size, no zenith angle
  pub beyond_none : T (lt (fraction 1 1) (abs_of (cosine_of (monthly_of file month ssn) gmt pt))) → (layers_of (monthly_of file month ssn) ssn gmt psc hmym pt mag g).zenang.0 ≡ nan
  beyond_none t = zenang_nan (monthly_of file month ssn) ssn gmt psc hmym pt mag g (beyond_not cosine known t)

  -- and no zenith angle, beyond 1 in size
  pub none_beyond : (layers_of (monthly_of file month ssn) ssn gmt psc hmym pt mag g).zenang.0 ≡ nan → T (lt (fraction 1 1) (abs_of (cosine_of (monthly_of file month ssn) gmt pt)))
  none_beyond e = beyond_is cosine known (cosine_none (monthly_of file month ssn) ssn gmt psc hmym pt mag g e)

-- So there is none, whatever the files are, in April at hour 0 at longitude 0 and 14.83 degrees
-- south.
pub zenang_example :
    (file : List ℕ) (ssn : Float) (psc : Factors) (hmym : List Float) (pt : ControlPoint) (mag : MagneticVars) (g : Gammas) →
    pt.lat ≡ radians_of (record { 0 = minus_decimal 1483 2 }) → pt.lon ≡ record { 0 = decimal 0 1 } →
    (layers_of (monthly_of file 4 ssn) ssn (decimal 0 1) psc hmym pt mag g).zenang.0 ≡ nan
unfolding monthly_of
zenang_example file ssn psc hmym pt mag g e d =
    zenang_nan (monthly_of file 4 ssn) ssn (decimal 0 1) psc hmym pt mag g
    ((λ t. le (abs_of (zenith_cosine (e t) (d t) (ssp_of (sun_of 4) (e t)) (ssl_of (decimal 0 1)))) (fraction 1 1)) ∙ cosine_beyond)
