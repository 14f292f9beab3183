-- The magnetic values of a control point are finite: intervals (`FieldSpans`) hold the field 300 km
-- over it, and its horizontal part is divided by s, which is not near zero, since latitudes are
-- pinned to 89.9 degrees and the sine of those is less than 1. Assumes nothing.
use Rattle.std.proofs.Common.{◌≡◌, refl, sym, ap, subst, ◌∙◌, ◌⊎◌, inl, inr, Bool, true, false, not, ◌&&◌, cond, [], ◌∷◌, ℕ, zero, suc, ◌+◌, ◌-◌, ◌*◌, ◌^◌, ◌≤◌, ◌<◌, zero-mul, mul-pos, zero-lt-suc, eq-zero-or-pos, arith, T, eqb, ltb→lt, lt→ltb, ℤ, pos, negsuc, pow_pos, lt-ltb, ne_eqb, Float}
use native.Mathlib.Nat.{pow-succ'}
use native.Mathlib.Decide.{dec_lt}
use lib.Ieee.{nan, inf, fin, binary32, binary64, up, down, unlike, fits, round, neg, sum, add, sub, mul, div, lt, le, is_nan, of_int, to_unsigned}
use lib.Ieee.Fits.{and_l, and_r, add-fits, up_pos, down_pos, eq→eqb}
use lib.Ieee.Scale.{finite}
use lib.Ieee.Positive.{positive, den_pos}
use Rattle.base.specs.declared.angle.Radians.{Radians}
use Rattle.base.specs.Single.{◌⊕◌, ◌⊗◌, ◌⊘◌, decimal, minus_decimal}
use Rattle.base.specs.Double.{fraction}
use Rattle.base.specs.Number.{negative, abs_of, narrow_of, sqrt_of}
use Rattle.base.specs.Constants.{D2R, PI, PI2}
use Rattle.base.specs.Angle.{radians_of}
use Rattle.base.specs.Elementary.{near_of, quarter_of, turns_of, half_pi, factorial, up_from, alternating, sin_terms, cos_terms, sin32_of, cos32_of, atan32_of}
use Rattle.base.proofs.verdicts.Picks.{cond_true}
use Rattle.base.proofs.order.Order.{gain, loss, nought, abs_fin, abs_neg, neg_finite, Between, wider, le→cross, cross→le, trans_le, not-lt→le, lt→le, le→abs, abs→le, total_le, refl_le, between_finite, size_between}
use Rattle.base.proofs.order.Monotone.{div_rounds, square_not_below, mul_size, div_size, positive_plus}
use Rattle.base.proofs.steps.Reduction.{factor, big}
use Rattle.base.proofs.order.Intervals.{every, exactly, add_in, mul_about, sqrt_in}
use Rattle.results.proofs.numbers.Bounds.{atan32_size}
use Rattle.base.proofs.roots.NearestRoot.{sqrt_nearest}
use Rattle.results.proofs.numbers.Sizes.{Sized, times_sized, between_sized, sized_number, sized_finite}
use Rattle.results.proofs.numbers.Spans.{span, In, made, point, points, plus, minus, times, negated, rooted, narrowed, lesser, greater, hull, horner_in, inside, inside_between, rounds_number}
use Rattle.results.proofs.numbers.SineSpans.{reduced_in, sin_series_in, cos_series_in, sin_at_in, sin32_in, sin32_held}
use Rattle.maps.specs.declared.magnetic.Position.{Position}
use Rattle.maps.specs.declared.magnetic.Une.{Une}
use Rattle.maps.specs.declared.magnetic.MagneticVars.{MagneticVars}
use Rattle.maps.specs.Loop.{loop, times as turnsFrom}
use Rattle.maps.specs.Magnetic.{o, RD, HC, CT, G, H, clamped_place, aor_step, powers_of, placed_of, magfin_of, east_of, gob_of, magvar_of}
use Rattle.results.proofs.clock.Clock.{farthest, Longitude}
use Rattle.results.proofs.field.Sines.{Turn, turns, turns_is, whole, top, right_of, left_of, held, full, above_away}
use Rattle.results.proofs.path.Longitudes.{two, four, sixteen, angle, sines, lon_sized, quotient_number, neg_sized}
use Rattle.maps.proofs.field.FieldSums.{magfin_arrays}
use Rattle.results.proofs.field.FieldSpans.{PlaceIn, multiple_in, multiples_in, element_in, order_in, orders_in, degree_in, expansion_in, place_in, place_in_law, expansion_at}

-- ---- the sine of a latitude up to 89.9 degrees
-- 1 - 2 ^ -20
abbrev pub edge : Float
edge = fin false 1048575 (negsuc 19)

abbrev pub minus_edge : Float
minus_edge = fin true 1048575 (negsuc 19)

-- one quarter turn to the south
abbrev minus_turn : Float
minus_turn = round binary64 true 1 1

abbrev shifted : Float → Float
shifted v = add binary64 (mul binary64 v factor) big

abbrev before_big : Float
before_big = fin false 6755399441055743 (pos 0)

less_one : (m k : ℕ) → m * 2 ^ k * 1 + 1 ≡ 3 * 2 ^ 51 * 1 → sub binary64 (fin false m (pos k)) big ≡ minus_turn
unfolding neg add sub sum
less_one m k h =
    let e : 3 * 2 ^ 51 * 1 - m * 2 ^ k * 1 ≡ 1 = omega arith in
    cond_true _ _ (lt-ltb (m * 2 ^ k * 1) (3 * 2 ^ 51 * 1) (omega arith)) ∙ ap (λ (z : ℕ). round binary64 true z 1) e

below : (s : Float) → T (fits binary64 s) → T (finite s) → T (le before_big s) → (T (le big s) → ⊥) → sub binary64 s big ≡ minus_turn
below nan h p l m = absurd p
below (inf t) h p l m = absurd p
below (fin true n e) h p l m = absurd (omega (arith, le→cross before_big (fin true n e) tt tt l, down_pos e))
below (fin false zero e) h p l m = absurd (omega (arith, le→cross before_big (fin false zero e) tt tt l, down_pos e, zero-mul (up e)))
below (fin false (suc n) (pos k)) h p l m =
    let u = le→cross before_big (fin false (suc n) (pos k)) tt tt l in
    elim (dec_lt (suc n * 2 ^ k) (3 * 2 ^ 51)) [
      | yes q ↦ less_one (suc n) k (omega arith)
      | no q ↦ absurd (m (cross→le big (fin false (suc n) (pos k)) tt tt (omega arith)))
    ]
below (fin false (suc n) (negsuc k)) h p l m = absurd (omega (arith, le→cross before_big (fin false (suc n) (negsuc k)) tt tt l, held binary64 false n (negsuc k) h, pow_pos k, pow-succ' 2 k))

abbrev Pinned : Float → Type 0
Pinned v = Between (neg RD) RD v

-- from -RD to -3/4, from -13/16 to 13/16, from 3/4 to RD
sines_inside : T (inside minus_edge edge (sin32_in minus_turn (span (neg RD) (fin true 3 (negsuc 1))))) × T (inside minus_edge edge (sin32_in (turns 0) (span (fin true 13 (negsuc 3)) (fin false 13 (negsuc 3))))) × T (inside minus_edge edge (sin32_in (turns 1) (span (fin false 3 (negsuc 1)) RD)))
unfolding RD inside sin32_in sin_at_in reduced_in sin_series_in cos_series_in horner_in narrowed times hull lesser greater plus minus negated made point quarter_of to_unsigned abs_of negative near_of turns_of half_pi fraction sin_terms cos_terms up_from alternating factorial narrow_of decimal round mul neg add sub le
sines_inside = (tt, tt, tt)

module _ (v : Float) (b : Pinned v) where
  turn : Turn v
  unfolding RD decimal round neg le
  turn = wider {lo = neg RD} {hi = RD} (fin true 7 (pos 0)) (fin false 7 (pos 0)) tt tt b

  in_range_law : T (le (abs_of v) (fraction 1000 1))
  unfolding RD decimal fraction round neg le
  in_range_law = le→abs v (fraction 1000 1) (trans_le (neg (fraction 1000 1)) (neg RD) v tt b.low) (trans_le v RD (fraction 1000 1) b.high tt)

  shifted_in : Between before_big (fin false 6755399441055745 (pos 0)) (shifted v)
  unfolding RD decimal round neg mul add le
  shifted_in = add_in binary64 before_big (fin false 6755399441055745 (pos 0)) tt (mul_about binary64 {a = neg RD} {b = RD} (fin true 1 (pos 0)) (fin false 1 (pos 0)) tt b (exactly factor tt)) (exactly big tt)

  sine_by : (n lo hi : Float) → turns_of v ≡ n → T (finite lo) → T (finite hi) → Between lo hi v → T (inside minus_edge edge (sin32_in n (span lo hi))) → Between minus_edge edge (sin32_of v)
  sine_by n lo hi e p q h t = inside_between minus_edge edge (sin32_in n (span lo hi)) t (sin32_held n (span lo hi) v in_range_law e (record { is = record { from = p; to = q; between = h } }))

  -- to the south, near the equator, to the north
  south : turns_of v ≡ minus_turn → Between minus_edge edge (sin32_of v)
  unfolding RD turns_of near_of fraction decimal round mul neg add sub le
  south e = sine_by minus_turn (neg RD) (fin true 3 (negsuc 1)) e tt tt (record { low = b.low; high = left_of v turn e (fin true 3 (negsuc 1)) tt }) sines_inside.0

  middle : turns_of v ≡ turns 0 → Between minus_edge edge (sin32_of v)
  unfolding turns_of near_of fraction round mul neg add sub le
  middle e = sine_by (turns 0) (fin true 13 (negsuc 3)) (fin false 13 (negsuc 3)) e tt tt (record { low = right_of v turn e (fin true 13 (negsuc 3)) tt; high = left_of v turn e (fin false 13 (negsuc 3)) tt }) sines_inside.1

  north : turns_of v ≡ turns 1 → Between minus_edge edge (sin32_of v)
  unfolding RD turns_of near_of fraction decimal round mul neg add sub le
  north e = sine_by (turns 1) (fin false 3 (negsuc 1)) RD e tt tt (record { low = right_of v turn e (fin false 3 (negsuc 1)) tt; high = b.high }) sines_inside.2

  -- no more: 2 is beyond
  beyond : (n : Float) → turns_of v ≡ n → T (every (le (fin true 7 (pos 0)) two ∷ le two (fin false 7 (pos 0)) ∷ not (le n (turns_of two)) ∷ [])) → ⊥
  unfolding RD decimal round le
  beyond n e t = trans_le two v RD (right_of v turn e two t) b.high

  counted : (n : ℕ) → n ≤ 4 → turns_of v ≡ turns n → Between minus_edge edge (sin32_of v)
  unfolding turns_of near_of fraction round mul neg add sub le
  counted zero h e = middle e
  counted (suc zero) h e = north e
  counted (suc (suc zero)) h e = absurd (beyond (turns 2) e tt)
  counted (suc (suc (suc zero))) h e = absurd (beyond (turns 3) e tt)
  counted (suc (suc (suc (suc zero)))) h e = absurd (beyond (turns 4) e tt)
  counted (suc (suc (suc (suc (suc n))))) h e = absurd (omega arith)

  pub sine_below_one : Between minus_edge edge (sin32_of v)
  sine_below_one = go (le big (shifted v)) refl
    where
      f : T (finite (shifted v))
      f = between_finite tt tt shifted_in

      go : (c : Bool) → le big (shifted v) ≡ c → Between minus_edge edge (sin32_of v)
      go true e =
          let w = whole (shifted v) (add-fits binary64 (mul binary64 v factor) big) f (subst T (sym e) tt) (trans_le (shifted v) (fin false 6755399441055745 (pos 0)) top shifted_in.high (unfold le in tt)) in
          counted w.count w.most (turns_is v ∙ w.is)
      go false e = south (turns_is v ∙ below (shifted v) (add-fits binary64 (mul binary64 v factor) big) f shifted_in.low (λ h. subst T e h))

-- ---- where the field is computed
pub record Pins (q : Position) : Type 0 where
  pub lat : Pinned q.p1.0
  pub lon : Between nought full q.p2.0

ends : T (le (neg RD) RD) × T (not (is_nan RD)) × T (not (is_nan (neg RD))) × T (le nought o) × T (le o full)
unfolding RD o decimal round neg le is_nan
ends = (tt, tt, tt, tt, tt)

pub pinned : (lat east_lon : Radians) → T (not (is_nan lat.0)) → Between nought full east_lon.0 → Pins (clamped_place lat east_lon)
unfolding clamped_place
pinned lat east_lon n b = go (lt RD lat.0) (lt lat.0 (neg RD)) refl refl
  where
    zero_in : Between nought full o
    zero_in = record { low = ends.3; high = ends.4 }

    go : (p q : Bool) → lt RD lat.0 ≡ p → lt lat.0 (neg RD) ≡ q
        → Pins (cond p (record { p1 = record { 0 = RD }; p2 = record { 0 = o } }) (cond q (record { p1 = record { 0 = neg RD }; p2 = record { 0 = o } }) (record { p1 = lat; p2 = east_lon })))
    go true q u v = record { lat = record { low = ends.0; high = refl_le RD ends.1 }; lon = zero_in }
    go false true u v = record { lat = record { low = refl_le (neg RD) ends.2; high = ends.0 }; lon = zero_in }
    go false false u v = record { lat = record { low = not-lt→le lat.0 (neg RD) n ends.2 v; high = not-lt→le RD lat.0 ends.1 n u }; lon = b }

-- ---- east_lon: at least 0, and a little more than a turn at most
abbrev turned : Float → Float
turned lon = (radians_of (record { 0 = decimal 3600 1 })).0 ⊕ lon

west_in : (lon : Float) → Between (neg farthest) o lon → Between nought full (turned lon)
unfolding radians_of D2R farthest PI PI2 o decimal round neg mul add sub le
west_in lon b = add_in binary32 {c = neg farthest} {d = o} nought full tt (exactly (decimal 3600 1 ⊗ D2R) tt) b

east_of_zero : (lon : Float) → Between o farthest lon → Between nought full lon
unfolding farthest PI PI2 o decimal round neg add sub le
east_of_zero lon b = wider {lo = o} {hi = farthest} nought full tt tt b

longitude_number : (lon : Float) → Longitude lon → T (not (is_nan lon)) × T (not (is_nan o))
unfolding o decimal round is_nan
longitude_number lon b = (sized_number (lon_sized b), tt)

pub east_in : (lon : Radians) → Longitude lon.0 → Between nought full (east_of lon).0
unfolding east_of
east_in lon b = go (lt lon.0 o) refl
  where
    go : (c : Bool) → lt lon.0 o ≡ c → Between nought full (cond c (record { 0 = turned lon.0 }) lon).0
    go true e = west_in lon.0 (record { low = b.low; high = lt→le lon.0 o (subst T (sym e) tt) })
    go false e = let n = longitude_number lon.0 b in east_of_zero lon.0 (record { low = not-lt→le lon.0 o n.0 n.1 e; high = b.high })

-- ---- the field
-- what the sums are at most
abbrev pub large : Float
large = fin false 1 (pos 20)

abbrev minus_large : Float
minus_large = fin true 1 (pos 20)

-- s is from 2 ^ -10 to 2
abbrev pub least : Float
least = fin false 1 (negsuc 9)

-- all places there are
abbrev everywhere : PlaceIn
everywhere = place_in (span minus_edge edge) (span (fin true 1 (pos 1)) two) (span (fin true 1 (pos 1)) two)

s_off : T (inside least two everywhere.s)
unfolding place_in multiples_in multiple_in loop turnsFrom inside rooted sqrt_of times hull lesser greater plus minus made point points o decimal round mul neg add sub le
s_off = tt

sums_in : T (inside minus_large large (expansion_in everywhere).r && inside minus_large large (expansion_in everywhere).t && inside minus_large large (expansion_in everywhere).f)
unfolding place_in multiples_in multiple_in element_in order_in orders_in degree_in expansion_in loop turnsFrom inside rooted sqrt_of times hull lesser greater plus minus negated made point points o HC CT G H aor_step powers_of of_int decimal minus_decimal round mul neg add sub div le
sums_in = tt

-- what the part to the east is at most
abbrev pub huge : Float
huge = fin false 1 (pos 30)

pub record SizedUne (u : Une) : Type 0 where
  pub up : Sized large u.up
  pub north : Sized large u.north
  pub east : Sized huge u.east

held_two : (x : Float) → Sized two x → In (span (fin true 1 (pos 1)) two) x
unfolding neg
held_two x h = record { is = record { from = tt; to = tt; between = size_between h.size } }

large_sized : {x : Float} → Between minus_large large x → Sized large x
unfolding neg le
large_sized b = between_sized large tt b

quotient_sized : (x y : Float) → Sized large x → Between least two y → Sized huge (x ⊘ y)
unfolding div le
quotient_sized x y h b = record { size = trans_le (abs_of (x ⊘ y)) (large ⊘ least) huge (div_size binary32 x y large least tt tt h.size (above_away least y b.low)) tt }

module _ (lat east_lon : Radians) (n : T (not (is_nan lat.0))) (b : Between nought full east_lon.0) where
  pub sine_held : In (span minus_edge edge) (sin32_of (clamped_place lat east_lon).p1.0)
  sine_held = record { is = record { from = tt; to = tt; between = sine_below_one _ (pinned lat east_lon n b).lat } }

  waves : Sized two (sin32_of (clamped_place lat east_lon).p2.0) × Sized two (cos32_of (clamped_place lat east_lon).p2.0)
  waves = sines _ (unfold neg le in between_sized {lo = nought} {hi = full} angle tt (pinned lat east_lon n b).lon)

  pub s_in_law : Between least two (placed_of lat east_lon (decimal 3000000 1)).s
  s_in_law = inside_between least two everywhere.s s_off (place_in_law lat east_lon sine_held (held_two _ waves.0) (held_two _ waves.1)).s

  pub une_sized : SizedUne (magfin_of lat east_lon (decimal 3000000 1))
  une_sized =
      let w = expansion_at lat east_lon sine_held (held_two _ waves.0) (held_two _ waves.1) in
      let i = inside minus_large large (expansion_in everywhere).r in
      let j = inside minus_large large (expansion_in everywhere).t in
      let k = inside minus_large large (expansion_in everywhere).f in
      let t = and_l (i && j) k sums_in in
      let f = large_sized (inside_between minus_large large (expansion_in everywhere).f (and_r (i && j) k sums_in) w.bphi) in
      subst SizedUne (sym (magfin_arrays lat east_lon (decimal 3000000 1)))
      (record {
        up = neg_sized _ (large_sized (inside_between minus_large large (expansion_in everywhere).r (and_l i j t) w.bv));
        north = large_sized (inside_between minus_large large (expansion_in everywhere).t (and_r i j t) w.bn);
        east = quotient_sized _ _ (neg_sized _ f) s_in_law;
      })

-- ---- gyz
pub square_in : (a : Float) {x : Float} → T (finite a) → Sized a x → Between nought (a ⊗ a) (x ⊗ x)
square_in a {x} p h = record { low = square_not_below binary32 x (sized_finite p h); high = abs→le (x ⊗ x) (a ⊗ a) (mul_size binary32 x x a a p p h.size h.size) }

-- the square of the horizontal part
abbrev pub horizontal : Une → Float
horizontal u = u.north ⊗ u.north ⊕ u.east ⊗ u.east

factor_sized : Sized four (decimal 28 1)
unfolding decimal round abs_of negative le
factor_sized = record { size = tt }

-- what the gyrofrequency is at most
abbrev pub gyration : Float
gyration = fin false 1 (pos 40)

factor_times : (x : Float) → Between nought (fin false 1 (pos 32)) x → Sized gyration (decimal 28 1 ⊗ x)
unfolding neg mul le
factor_times x b = times_sized gyration tt factor_sized (between_sized {lo = nought} {hi = fin false 1 (pos 32)} (fin false 1 (pos 32)) tt b)

module _ (u : Une) (h : SizedUne u) where
  horizontal_in : Between nought (fin false 1 (pos 61)) (horizontal u)
  unfolding mul add le
  horizontal_in = add_in binary32 nought (fin false 1 (pos 61)) tt (square_in large tt h.north) (square_in huge tt h.east)

  gyz_sized : Sized gyration (decimal 28 1 ⊗ sqrt_of binary32 (u.up ⊗ u.up ⊕ u.north ⊗ u.north ⊕ u.east ⊗ u.east))
  gyz_sized = factor_times _ root_in
    where
      sum_in_law : Between nought (fin false 1 (pos 62)) (u.up ⊗ u.up ⊕ u.north ⊗ u.north ⊕ u.east ⊗ u.east)
      sum_in_law = unfold mul add le in add_in binary32 nought (fin false 1 (pos 62)) tt (add_in binary32 nought (fin false 1 (pos 61)) tt (square_in large tt h.up) (square_in large tt h.north)) (square_in huge tt h.east)

      root_in : Between nought (fin false 1 (pos 32)) (sqrt_of binary32 (u.up ⊗ u.up ⊕ u.north ⊗ u.north ⊕ u.east ⊗ u.east))
      root_in = unfold round sqrt_of le in sqrt_in nought (fin false 1 (pos 32)) binary32 tt sum_in_law

-- ---- gmdip: a quotient is a number unless zero is divided by zero
lt_positive : (x : Float) → T (finite x) → T (lt nought x) → T (positive x)
unfolding lt
lt_positive nan p h = absurd p
lt_positive (inf s) p h = absurd p
lt_positive (fin true m e) p h = absurd h
lt_positive (fin false zero e) p h = absurd (omega (arith, ltb→lt (0 * 1 * down e) (0 * up e * 1) h, zero-mul (up e)))
lt_positive (fin false (suc m) e) p h = lt→ltb 0 (suc m) (zero-lt-suc m)

by_positive : (x y : Float) → T (finite x) → T (positive y) → T (not (is_nan (x ⊘ y)))
by_positive x y p q = rounds_number binary32 (x ⊘ y) _ _ _ (mul-pos (positive_plus y q) (den_pos x)) (div_rounds binary32 x y p q)

not_zero : (s : Bool) (m : ℕ) (e : ℤ) → T (lt nought (abs_of (fin s m e))) → 0 < m
not_zero s zero e h = absurd (omega (arith, ltb→lt (0 * 1 * down e) (0 * up e * 1) (unfold lt in subst (λ (z : Float). T (lt nought z)) (abs_fin s 0 e) h), zero-mul (up e)))
not_zero s (suc m) e h = zero-lt-suc m

of_not_zero : (x y : Float) → T (finite x) → T (finite y) → T (lt nought (abs_of x)) → T (not (is_nan (x ⊘ y)))
unfolding div
of_not_zero nan y p q h = absurd p
of_not_zero (inf s) y p q h = absurd p
of_not_zero (fin s m e) nan p q h = absurd q
of_not_zero (fin s m e) (inf t) p q h = absurd q
of_not_zero (fin s m e) (fin t n d) p q h = go (eqb n 0) refl
  where
    by_zero : T (not (is_nan (cond (eqb m 0) nan (inf (unlike s t)))))
    by_zero = subst (λ (c : Bool). T (not (is_nan (cond c nan (inf (unlike s t)))))) (sym (ne_eqb m 0 (λ z. omega (arith, not_zero s m e h)))) (unfold is_nan in tt)

    go : (c : Bool) → eqb n 0 ≡ c → T (not (is_nan (cond c (cond (eqb m 0) nan (inf (unlike s t))) (round binary32 (unlike s t) (m * up e * down d) (n * up d * down e)))))
    go true i = by_zero
    go false i =
        let o : 0 < n = elim (eq-zero-or-pos n) [ inl z ↦ absurd (subst T i (eq→eqb z)) | inr z ↦ z ] in
        let a = m * up e * down d in
        rounds_number binary32 (round binary32 (unlike s t) a (n * up d * down e)) (gain (unlike s t) a) (loss (unlike s t) a) (n * up d * down e) (mul-pos (mul-pos o (up_pos d)) (down_pos e)) (record { sign = unlike s t; size = a; is = refl; value = omega arith })

abs_neg_lt : (x : Float) → T (lt nought (abs_of x)) → T (lt nought (abs_of (neg x)))
abs_neg_lt x h = subst (λ (z : Float). T (lt nought z)) (sym (abs_neg x)) h

-- gob is from 0.000001 to 2, and its root not near zero
gob_in : (lat : Radians) → Sized angle lat.0 → Between (decimal 1 6) two (gob_of lat)
unfolding gob_of
gob_in lat h = go (le (cos32_of lat.0) (decimal 1 6)) refl
  where
    k : Sized two (cos32_of lat.0)
    k = (sines lat.0 h).1

    go : (c : Bool) → le (cos32_of lat.0) (decimal 1 6) ≡ c → Between (decimal 1 6) two (cond c (decimal 1 6) (cos32_of lat.0))
    go true e = unfold decimal round le in record { low = tt; high = tt }
    go false e = record {
      low = elim (total_le (cos32_of lat.0) (decimal 1 6) (sized_number k) (unfold decimal round is_nan in tt)) [ inl x ↦ absurd (subst T e x) | inr x ↦ x ];
      high = abs→le (cos32_of lat.0) two k.size;
    }

gob_root : (lat : Radians) → Sized angle lat.0 → Between least two (sqrt_of binary32 (gob_of lat))
unfolding decimal round sqrt_of le
gob_root lat h = sqrt_in {a = decimal 1 6} {b = two} least two binary32 tt (gob_in lat h)

atan_sized : (x : Float) → T (not (is_nan x)) → Sized sixteen (atan32_of x)
unfolding fraction round le
atan_sized x h = record { size = trans_le (abs_of (atan32_of x)) (fraction 2 1) sixteen (atan32_size x h) tt }

module _ (u : Une) (h : SizedUne u) (lat : Radians) (k : Sized angle lat.0) where
  steep : T (lt nought (abs_of u.up)) ⊎ T (lt nought (horizontal u)) → T (not (is_nan (neg u.up ⊘ sqrt_of binary32 (horizontal u))))
  steep (inl a) = of_not_zero (neg u.up) (sqrt_of binary32 (horizontal u)) (neg_finite u.up (sized_finite tt h.up)) (between_finite tt tt w) (abs_neg_lt u.up a)
    where
      w : Between nought (fin false 1 (pos 32)) (sqrt_of binary32 (horizontal u))
      w = unfold round sqrt_of le in sqrt_in nought (fin false 1 (pos 32)) binary32 tt (horizontal_in u h)
  steep (inr a) =
      let p = lt_positive (horizontal u) (between_finite tt tt (horizontal_in u h)) a in
      by_positive (neg u.up) (sqrt_of binary32 (horizontal u)) (neg_finite u.up (sized_finite tt h.up)) (sqrt_nearest binary32 (horizontal u) (add-fits binary32 (u.north ⊗ u.north) (u.east ⊗ u.east)) p).above_zero

  dip_sized : T (lt nought (abs_of u.up)) ⊎ T (lt nought (horizontal u)) → Sized sixteen (atan32_of (atan32_of (neg u.up ⊘ sqrt_of binary32 (horizontal u)) ⊘ sqrt_of binary32 (gob_of lat)))
  dip_sized a = atan_sized _ (quotient_number _ _ least (atan_sized _ (steep a)) tt (above_away least _ (gob_root lat k).low))

-- ---- the magnetic values of a point
pub record FiniteMagnetic (m : MagneticVars) : Type 0 where
  pub gyz : T (finite m.gyz)
  pub gmdip : T (finite m.gmdip.0)
  pub east_lon : T (finite m.east_lon.0)

-- the field 300 km over a point
abbrev pub over : Radians → Radians → Une
over lat lon = magfin_of lat (east_of lon) (decimal 3000000 1)

module _ (lat lon : Radians) (h : Sized angle lat.0) (k : Longitude lon.0) where
  une_here : SizedUne (over lat lon)
  une_here = une_sized lat (east_of lon) (sized_number h) (east_in lon k)

  pub east_finite : T (finite (magvar_of lat lon).east_lon.0)
  unfolding magvar_of
  east_finite = between_finite tt tt (east_in lon k)

  pub gyrofrequency_sized : Sized gyration (magvar_of lat lon).gyz
  unfolding magvar_of
  gyrofrequency_sized = gyz_sized (over lat lon) une_here

  -- the dip, if the field is not zero: if its vertical part is not zero, or the square of its
  -- horizontal part
  pub dip_sized_if : T (lt o (abs_of (over lat lon).up)) ⊎ T (lt o (horizontal (over lat lon))) → Sized sixteen (magvar_of lat lon).gmdip.0
  unfolding magvar_of o decimal round
  dip_sized_if a = dip_sized (over lat lon) une_here lat h a
