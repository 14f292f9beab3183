-- The maps' values: the six of an hour are finite, and at most 2 ^ 50 in size, and so are the two
-- of `noisy`, at most 2 ^ 111, where the files' words are at most 2 ^ 16: a bound of every number
-- on the way, from the words to the waves of the hour, the rows, the geographic functions and the
-- series, with a test for each turn that is computed for all turns. Assumes nothing.
use Rattle.std.proofs.Common.{◌≡◌, sym, subst, ◌∙◌, inl, inr, Bool, false, cond, List, [], ◌∷◌, ℕ, zero, suc, ◌+◌, ◌-◌, ◌*◌, ◌/◌, ◌%◌, ◌^◌, ◌≤◌, ◌<◌, zero-add, arith, T, eqb, leb, pos, negsuc, length, get_or, replicate, Float}
use native.Mathlib.Decide.{dec_lt}
use lib.ListN.{length-replicate, get_or-replicate}
use lib.Ieee.{nan, fin, binary32, binary64, round, neg, add, mul, div, le, of_int}
use lib.Ieee.Scale.{finite}
use Rattle.base.specs.declared.blend.Weights.{Weights}
use Rattle.base.specs.Single.{◌⊕◌, ◌⊗◌, decimal}
use Rattle.base.specs.Double.{fraction}
use Rattle.base.specs.Number.{negative, abs_of, narrow_of}
use Rattle.base.specs.Constants.{D2R}
use Rattle.base.specs.Angle.{radians_of}
use Rattle.base.specs.Elementary.{sin_of, sin32_of, cos32_of}
use Rattle.base.specs.Fill.{fill}
use Rattle.base.specs.Words.{float_at}
use Rattle.base.specs.Tables.{start_of, words_of, plane_of, xf2cof, xfm3cf, xesmcf, xpmap, xeslcf, xesucf, xercof}
use Rattle.base.specs.Blend.{blend_of, blend_at, f2_weights, e_weights, height_weights, eslcof_of, esmcof_of, esucof_of, f2cof_of, fm3cof_of, ercof_of, hmym_of, cofion_maps, cofion_of, IA, IB, IC}
use Rattle.base.specs.Index.{map_word, rows}
use Rattle.base.proofs.order.Order.{nought, Between}
use Rattle.base.proofs.order.Intervals.{every}
use Rattle.results.proofs.numbers.Sizes.{Sized, plus_sized, less_sized, times_sized, between_sized, larger}
use Rattle.results.proofs.numbers.DoubleSizes.{plus64_sized, times64_sized, over_sized, narrowed_sized, either_sized}
use Rattle.results.proofs.numbers.SineSizes.{nine, sin_sized, cos_sized, sin32_sized, cos32_sized}
use Rattle.base.proofs.lists.Entries.{up_to, at_each}
use Rattle.base.proofs.lists.Fills.{length_fill, fill_at, fill_other, run_at}
use Rattle.base.proofs.ladder.Ladders.{six, limits}
use Rattle.base.proofs.ladder.Indexing.{reads_inside}
use Rattle.base.proofs.lists.Maps.{cofion_at}
use Rattle.maps.specs.declared.ionosphere.versy.Gammas.{Gammas}
use Rattle.maps.specs.Loop.{times, loop}
use Rattle.maps.specs.Virtim.{GoodTable, time_of, Wave, wave_of, hour_wave, value_of, row_value, time_map_of, virtim_of}
use Rattle.maps.specs.Versy.{sx_power, raised, cx_of, t_of, cos_wave, sin_wave, harmonic_of, geographic_from, geographic_of, gamma_of, series_of, versy_of, gammas_of}
use Rattle.maps.specs.Noisy.{Turn, turn_of, column_of, zz_of, latitude_sum, noisy_sum, noisy_of}
use Rattle.results.proofs.clock.Clock.{Hour}
use Rattle.results.specs.FiniteOrNot.{is_read, Bounded}

-- ---- the files

-- what a word of the files is held to here: 65,536 in size, a generous bound for coefficients of
-- MHz, of km and of ratios
abbrev pub word : Float
word = fin false 1 (pos 16)

-- the words of bounded files
module _ {f2 month : List ℕ} (held : Bounded f2 month) where
  in_f2_law : (i : ℕ) → i < words_of xf2cof → Sized word (float_at f2 (4 * i))
  in_f2_law i h = record { size = held.in_f2 i h }

  pub in_month_law : (table i : ℕ) → T (is_read table) → i < words_of table → Sized word (float_at month (start_of table + 4 * i))
  in_month_law table i t h = record { size = held.in_month table i t h }

-- 'sunspot number 0 to 300'
abbrev pub Sunspots : Float → Type 0
Sunspots ssn = Between (decimal 0 1) (decimal 3000 1) ssn

-- ---- the blend

abbrev ample : Float
ample = fin false 1 (pos 9)

-- of a blended word
abbrev pub blended : Float
blended = fin false 1 (pos 20)

record Weighed (w : Weights) : Type 0 where
  pub wa : Sized ample w.wa
  pub wb : Sized ample w.wb
  pub d : T (le (fin false 25 (pos 2)) (abs_of w.d))

module _ (s : Float) (b : Sunspots s) where
  spots : Sized (decimal 3000 1) s
  unfolding decimal round neg le
  spots = between_sized (decimal 3000 1) tt b

  f2_weighed : Weighed (f2_weights s)
  unfolding f2_weights decimal round abs_of negative add le
  f2_weighed =
      let h : Sized (decimal 100 0) (decimal 100 0) = record { size = tt } in
      record { wa = less_sized ample tt h spots; wb = larger ample tt spots; d = tt }

  e_weighed : Weighed (e_weights s)
  unfolding e_weights decimal round abs_of negative add le
  e_weighed =
      let h : Sized (decimal 150 0) (decimal 150 0) = record { size = tt } in
      let k : Sized (decimal 10 0) (decimal 10 0) = record { size = tt } in
      record { wa = less_sized ample tt h spots; wb = less_sized ample tt spots k; d = tt }

  height_weighed : Weighed (height_weights s)
  unfolding height_weights decimal round abs_of negative add le
  height_weighed =
      let h : Sized (decimal 125 0) (decimal 125 0) = record { size = tt } in
      let k : Sized (decimal 25 0) (decimal 25 0) = record { size = tt } in
      record { wa = less_sized ample tt h spots; wb = less_sized ample tt spots k; d = tt }

blend_sized : (w : Weights) (x y : Float) → Weighed w → Sized word x → Sized word y → Sized blended (blend_of w x y)
unfolding add mul div le
blend_sized w x y k h i =
    over_sized blended (fin false 25 (pos 2)) w.d tt
    (plus_sized (fin false 1 (pos 26)) tt (times_sized (fin false 1 (pos 25)) tt h k.wa) (times_sized (fin false 1 (pos 25)) tt i k.wb))
    k.d

module _ (f2 month : List ℕ) (held : Bounded f2 month) where
  -- the element i of a table's two planes
  table_sized : (table : ℕ) (w : Weights) → T (is_read table) → Weighed w → (i : ℕ) → i < plane_of table → Sized blended (blend_at month (start_of table) (plane_of table) w i)
  unfolding blend_at
  table_sized table w t k i h =
      blend_sized w _ _ k (in_month_law held table i t (omega arith)) (in_month_law held table (plane_of table + i) t (omega arith))

  f2_word : (i : ℕ) → i < 2 * plane_of xf2cof → Sized word (float_at f2 (0 + 4 * i))
  f2_word i h = subst (λ (p : ℕ). Sized word (float_at f2 p)) (sym (zero-add (4 * i))) (in_f2_law held i h)

  f2_sized : (w : Weights) → Weighed w → (i : ℕ) → i < plane_of xf2cof → Sized blended (blend_at f2 (start_of xf2cof) (plane_of xf2cof) w i)
  unfolding blend_at
  f2_sized w k i h = blend_sized w _ _ k (f2_word i (omega arith)) (f2_word (plane_of xf2cof + i) (omega arith))

-- every coefficient of the six maps, by the map and its place there
abbrev pub Coefficients : List Float → Type 0
Coefficients cof = (k i : ℕ) → k < 6 → i < get_or rows k 0 * get_or IB k 0 → Sized blended (get_or cof (get_or IA k 0 - 1 + i) nan)

module _ (f2 month : List ℕ) (held : Bounded f2 month) (s : Float) (b : Sunspots s) where
  in_map : (k : ℕ) → k < 6 → (i : ℕ) → i < get_or rows k 0 * get_or IB k 0 → Sized blended (get_or (get_or (cofion_maps f2 month s) k []) i nan)
  unfolding eslcof_of esmcof_of esucof_of f2cof_of fm3cof_of ercof_of
  in_map =
      six (λ k. (i : ℕ) → i < get_or rows k 0 * get_or IB k 0 → Sized blended (get_or (get_or (cofion_maps f2 month s) k []) i nan))
      (λ i h. subst (Sized blended) (sym (run_at _ 275 i nan h)) (table_sized f2 month held xeslcf (e_weights s) tt (e_weighed s b) i h))
      (λ i h. subst (Sized blended) (sym (run_at _ 427 i nan h)) (table_sized f2 month held xesmcf (e_weights s) tt (e_weighed s b) i h))
      (λ i h. subst (Sized blended) (sym (run_at _ 275 i nan h)) (table_sized f2 month held xesucf (e_weights s) tt (e_weighed s b) i h))
      (λ i h. subst (Sized blended) (sym (run_at _ 988 i nan h)) (f2_sized f2 month held (f2_weights s) (f2_weighed s b) i h))
      (λ i h. subst (Sized blended) (sym (run_at _ 441 i nan h)) (table_sized f2 month held xfm3cf (f2_weights s) tt (f2_weighed s b) i h))
      (λ i h. subst (Sized blended) (sym (run_at _ 198 i nan h)) (table_sized f2 month held xercof (e_weights s) tt (e_weighed s b) i h))

  pub cofion_sized : Coefficients (cofion_of f2 month s)
  cofion_sized k i h l = subst (Sized blended) (sym (cofion_at f2 month s k i nan h l)) (in_map k h i l)

  -- the height map, and the land map, which is not blended
  pub hmym_sized : (i : ℕ) → i < 464 → Sized blended (get_or (hmym_of month s) i nan)
  unfolding hmym_of
  hmym_sized i h = subst (Sized blended) (sym (run_at _ 464 i nan h)) (table_sized f2 month held xpmap (height_weights s) tt (height_weighed s b) i h)

-- ---- the waves of an hour

abbrev angle : Float
angle = fin false 1 (pos 5)

time_sized : (gmt : Float) → Hour gmt → Sized angle (time_of gmt).0
unfolding time_of radians_of D2R decimal round abs_of negative neg add mul le
time_sized gmt b =
    let h : Sized (decimal 240 1) gmt = between_sized (decimal 240 1) tt b in
    let f : Sized (decimal 150 1) (decimal 150 1) = record { size = tt } in
    let o : Sized (decimal 1800 1) (decimal 1800 1) = record { size = tt } in
    let d : Sized (fin false 1 (negsuc 4)) D2R = record { size = tt } in
    times_sized angle tt (less_sized (fin false 1 (pos 10)) tt (times_sized (fin false 1 (pos 9)) tt f h) o) d

-- 9/8, and 9/4 times that for each turn
abbrev wave_most : ℕ → Float
wave_most k = fin false (9 ^ suc k) (negsuc (2 * k + 2))

abbrev wave_half : ℕ → Float
wave_half k = fin false (9 ^ (k + 2)) (negsuc (2 * k + 5))

abbrev wave_times : ℕ → Bool
wave_times k = every (finite nine ∷ finite (wave_most k) ∷ le (nine ⊗ wave_most k) (wave_half k) ∷ [])

abbrev wave_sum : ℕ → Bool
wave_sum k = every (finite (wave_half k) ∷ finite (wave_half k) ∷ le (wave_half k ⊕ wave_half k) (wave_most (suc k)) ∷ [])

wave_tests : T (up_to wave_times 5) × T (up_to wave_sum 5) × T (le nine (wave_most 0))
unfolding add mul le
wave_tests = (tt, tt, tt)

record Waving (a : Float) (v : Wave) : Type 0 where
  pub c : Sized a v.c
  pub s : Sized a v.s

wave_sized : (c s : Float) → Sized nine c → Sized nine s → (k : ℕ) → k < 6 → Waving (wave_most k) (wave_of c s k)
unfolding wave_of
wave_sized c s h i zero l = record { c = larger (wave_most 0) wave_tests.2 h; s = larger (wave_most 0) wave_tests.2 i }
wave_sized c s h i (suc k) l =
    let v = wave_sized c s h i k (omega arith) in
    let t = at_each wave_times 5 wave_tests.0 k (omega arith) in
    let u = at_each wave_sum 5 wave_tests.1 k (omega arith) in
    record {
      c = less_sized (wave_most (suc k)) u (times_sized (wave_half k) t h v.c) (times_sized (wave_half k) t i v.s);
      s = plus_sized (wave_most (suc k)) u (times_sized (wave_half k) t h v.s) (times_sized (wave_half k) t i v.c);
    }

hour_sized : (gmt : Float) → Hour gmt → (k : ℕ) → k < 6 → Waving (wave_most k) (hour_wave gmt k)
unfolding hour_wave le
hour_sized gmt b k l = let t = time_sized gmt b in wave_sized (cos32_of (time_of gmt).0) (sin32_of (time_of gmt).0) (cos32_sized tt t) (sin32_sized tt t) k l

-- ---- a row's value

abbrev value_most : ℕ → Float
value_most k = fin false 1 (pos (23 + k))

abbrev value_half : ℕ → Float
value_half k = fin false 3 (pos (22 + k))

abbrev term_most : ℕ → Float
term_most k = fin false (9 ^ suc k) (pos (17 - 2 * k))

abbrev term_test : ℕ → Bool
term_test k = every (finite (wave_most k) ∷ finite blended ∷ le (wave_most k ⊗ blended) (term_most k) ∷ [])

abbrev first_test : ℕ → Bool
first_test k = every (finite (value_most k) ∷ finite (term_most k) ∷ le (value_most k ⊕ term_most k) (value_half k) ∷ [])

abbrev second_test : ℕ → Bool
second_test k = every (finite (value_half k) ∷ finite (term_most k) ∷ le (value_half k ⊕ term_most k) (value_most (suc k)) ∷ [])

-- of a row's value
abbrev pub row_most : Float
row_most = fin false 1 (pos 29)

unfoldable row_test : ℕ → Bool
row_test k = le (value_most k) row_most

value_tests : T (up_to term_test 5) × T (up_to first_test 5) × T (up_to second_test 5) × T (up_to row_test 6) × T (le blended (value_most 0))
unfolding row_test add mul le
value_tests = (tt, tt, tt, tt, tt)

module _ (v : ℕ → Wave) (cof : List Float) (at h : ℕ) (w : (k : ℕ) → k < 6 → Waving (wave_most k) (v k)) (read : (i : ℕ) → i ≤ 2 * h → Sized blended (get_or cof (at + i) nan)) where
  read_at : (i p : ℕ) → i ≤ 2 * h → p ≡ at + i → Sized blended (get_or cof p nan)
  read_at i p l e = subst (λ (q : ℕ). Sized blended (get_or cof q nan)) (sym e) (read i l)

  value_sized : (k : ℕ) → k ≤ 6 → k ≤ h → Sized (value_most k) (value_of v cof at k)
  unfolding value_of
  value_sized zero l m = larger (value_most 0) value_tests.4 (read_at 0 at (omega arith) (omega arith))
  value_sized (suc k) l m =
      let a = value_sized k (omega arith) (omega arith) in
      let x = w k (omega arith) in
      let t = at_each term_test 5 value_tests.0 k (omega arith) in
      plus_sized (value_most (suc k)) (at_each second_test 5 value_tests.2 k (omega arith))
      (plus_sized (value_half k) (at_each first_test 5 value_tests.1 k (omega arith)) a
      (times_sized (term_most k) t x.s (read_at (2 * k + 1) (at + 2 * k + 1) (omega arith) (omega arith))))
      (times_sized (term_most k) t x.c (read_at (2 * k + 2) (at + 2 * k + 2) (omega arith) (omega arith)))

  row_sized : h ≤ 6 → Sized row_most (value_of v cof at h)
  unfolding row_test
  row_sized l = larger row_most (at_each row_test 6 value_tests.3 h l) (value_sized h l (omega arith))

-- ---- AB

-- 318 numbers, each with a bound
pub record Full (ab : List Float) : Type 0 where
  pub count : length ab ≡ 318
  pub each : (p : ℕ) → p < 318 → Sized row_most (get_or ab p nan)

zero_sized : Sized row_most (decimal 0 1)
unfolding decimal round abs_of negative le
zero_sized = record { size = tt }

blank_full : Full (replicate 318 (decimal 0 1))
blank_full = record {
  count = length-replicate 318 (decimal 0 1);
  each = λ p h. subst (Sized row_most) (sym (get_or-replicate 318 p (decimal 0 1) nan h)) zero_sized;
}

fill_full : (f : ℕ → Float) (base n : ℕ) (l : List Float) → base + n ≤ 318 → ((j : ℕ) → j < n → Sized row_most (f j)) → Full l → Full (fill f base l n)
fill_full f base n l room h k =
    let e = k.count in
    record {
      count = length_fill f base l n ∙ e;
      each = λ p q. elim (dec_lt p base) [
        | yes u ↦ subst (Sized row_most) (sym (fill_other f base l n p nan (inl u))) (k.each p q)
        | no u ↦ elim (dec_lt p (base + n)) [
          | yes v ↦
              let d : base + (p - base) ≡ p = omega arith in
              subst (λ (i : ℕ). Sized row_most (get_or (fill f base l n) i nan)) d
              (subst (Sized row_most) (sym (fill_at f base l n (p - base) nan (omega arith) (omega arith))) (h (p - base) (omega arith)))
          | no v ↦ subst (Sized row_most) (sym (fill_other f base l n p nan (inr (omega arith)))) (k.each p q)
        ]
      ];
    }

module _ (cof : List Float) (index : List ℕ) (gmt : Float) (c : Coefficients cof) (good : GoodTable index) (b : Hour gmt) where
  pub row_value_sized : (k j : ℕ) → k < 6 → j < map_word index k 8 + 1 → Sized row_most (row_value (hour_wave gmt) cof index k j)
  unfolding row_value
  row_value_sized k j l m =
      let g = good k l in
      let o = limits k l in
      let r = reads_inside k l j (map_word index k 9) (omega arith) (omega arith) in
      row_sized (hour_wave gmt) cof (get_or IA k 0 - 1 + j * get_or IB k 0) (map_word index k 9) (hour_sized gmt b)
      (λ i n. read k j l i (omega arith))
      (omega arith)
    where
      read : (k j : ℕ) → k < 6 → (i : ℕ) → j * get_or IB k 0 + i < get_or rows k 0 * get_or IB k 0 → Sized blended (get_or cof (get_or IA k 0 - 1 + j * get_or IB k 0 + i) nan)
      read k j l i n =
          let e : get_or IA k 0 - 1 + (j * get_or IB k 0 + i) ≡ get_or IA k 0 - 1 + j * get_or IB k 0 + i = omega arith in
          subst (λ (p : ℕ). Sized blended (get_or cof p nan)) e (c k (j * get_or IB k 0 + i) l n)

  abbrev step : ℕ → List Float → List Float
  step iz ab = fill (row_value (hour_wave gmt) cof index iz) (get_or IC iz 0 - 1) ab (map_word index iz 8 + 1)

  step_full : (k : ℕ) (ab : List Float) → k < 6 → Full ab → Full (step k ab)
  step_full k ab l f =
      let g = good k l in
      let r = reads_inside k l (map_word index k 8) 0 (omega arith) (omega arith) in
      let e = r.result in
      fill_full (row_value (hour_wave gmt) cof index k) (get_or IC k 0 - 1) (map_word index k 8 + 1) ab (omega arith) (λ j m. row_value_sized k j l m) f

  steps_full : (n : ℕ) → n ≤ 6 → Full (times step 0 n (replicate 318 (decimal 0 1)))
  unfolding times
  steps_full zero l = blank_full
  steps_full (suc n) l = step_full (0 + n) (times step 0 n (replicate 318 (decimal 0 1))) (omega arith) (steps_full n (omega arith))

  -- what `virtim` makes of them at an hour
  pub virtim_sized : Full (virtim_of cof index gmt)
  unfolding virtim_of time_map_of loop
  virtim_sized = steps_full 6 (omega arith)

-- ---- the geographic functions

-- of a geographic function
abbrev pub basis : Float
basis = fin false 1 (pos 14)

abbrev power_most : ℕ → Float
power_most k = fraction (145 ^ k) (128 ^ k)

unfoldable power_test : ℕ → Bool
power_test k = every (finite nine ∷ finite (power_most k) ∷ le (mul binary64 nine (power_most k)) (power_most (suc k)) ∷ [])

unfoldable power_room : ℕ → Bool
power_room k = le (power_most k) basis

power_tests : T (up_to power_test 74) × T (up_to power_room 75) × T (le (fraction 1 1) (power_most 0)) × T (le nine (power_most 1))
unfolding power_test power_room fraction round mul le
power_tests = (tt, tt, tt, tt)

one_sized : Sized (fraction 1 1) (fraction 1 1)
unfolding fraction round abs_of negative le
one_sized = record { size = tt }

module _ (sx : Float) (h : Sized nine sx) where
  power_in : (k : ℕ) → k ≤ 75 → Sized (power_most k) (sx_power sx k)
  unfolding sx_power power_test
  power_in zero l = larger (power_most 0) power_tests.2 one_sized
  power_in (suc zero) l = larger (power_most 1) power_tests.3 h
  power_in (suc (suc k)) l = times64_sized (power_most (suc (suc k))) (at_each power_test 74 power_tests.0 (suc k) (omega arith)) h (power_in (suc k) (omega arith))

  power_sized : (k : ℕ) → k ≤ 75 → Sized basis (sx_power sx k)
  unfolding power_room
  power_sized k l = larger basis (at_each power_room 75 power_tests.1 k l) (power_in k l)

abbrev four : Float
four = fin false 1 (pos 2)

abbrev raised_most : ℕ → Float
raised_most k = fraction (4 * 145 ^ k) (128 ^ k)

unfoldable raised_test : ℕ → Bool
raised_test k = every (finite nine ∷ finite (raised_most k) ∷ le (mul binary64 nine (raised_most k)) (raised_most (suc k)) ∷ [])

unfoldable raised_room : ℕ → Bool
raised_room k = le (raised_most k) basis

raised_tests : T (up_to raised_test 37) × T (up_to raised_room 37) × T (le four (raised_most 0))
unfolding raised_test raised_room fraction round mul le
raised_tests = (tt, tt, tt)

module _ (sx x : Float) (h : Sized nine sx) (i : Sized four x) where
  raised_in : (k : ℕ) → k ≤ 37 → Sized (raised_most k) (raised sx k x)
  unfolding raised raised_test
  raised_in zero l = larger (raised_most 0) raised_tests.2 i
  raised_in (suc k) l = times64_sized (raised_most (suc k)) (at_each raised_test 37 raised_tests.0 k (omega arith)) h (raised_in k (omega arith))

  raised_sized : (k : ℕ) → k ≤ 37 → Sized basis (raised sx k x)
  unfolding raised_room
  raised_sized k l = larger basis (at_each raised_room 37 raised_tests.1 k l) (raised_in k l)

-- the cosine's powers
abbrev cx_most : ℕ → Float
cx_most j = fraction (9 ^ j) (8 ^ j)

unfoldable cx_test : ℕ → Bool
cx_test j = every (finite (cx_most j) ∷ finite nine ∷ le (mul binary64 (cx_most j) nine) (cx_most (suc j)) ∷ [])

unfoldable wave_room : ℕ → Bool
wave_room j = every (finite (cx_most j) ∷ finite nine ∷ le (mul binary64 (cx_most j) nine) four ∷ [])

-- j as an f32 is at most 8
unfoldable whole_test : ℕ → Bool
whole_test j = le (abs_of (of_int binary32 (pos j))) (fin false 1 (pos 3))

cx_tests : T (up_to cx_test 8) × T (up_to wave_room 8) × T (up_to whole_test 8) × T (le (fraction 1 1) (cx_most 0)) × T (le nine (cx_most 1))
unfolding cx_test wave_room whole_test of_int abs_of negative fraction round mul le
cx_tests = (tt, tt, tt, tt, tt)

cx_sized : (gob : Float) → Sized nine gob → (j : ℕ) → j ≤ 8 → Sized (cx_most j) (cx_of gob j)
unfolding cx_of cx_test
cx_sized gob h zero l = larger (cx_most 0) cx_tests.3 one_sized
cx_sized gob h (suc zero) l = larger (cx_most 1) cx_tests.4 h
cx_sized gob h (suc (suc j)) l = times64_sized (cx_most (suc (suc j))) (at_each cx_test 8 cx_tests.0 (suc j) (omega arith)) (cx_sized gob h (suc j) (omega arith)) h

turns_sized : (clg : Float) → Sized angle clg → (j : ℕ) → j ≤ 8 → Sized (fin false 1 (pos 8)) (t_of clg j)
unfolding t_of whole_test mul le
turns_sized clg h j l =
    let o : Sized (fin false 1 (pos 3)) (of_int binary32 (pos j)) = record { size = at_each whole_test 8 cx_tests.2 j l } in
    either_sized (eqb j 1) (larger (fin false 1 (pos 8)) tt h) (times_sized (fin false 1 (pos 8)) tt o h)

module _ (sx gob clg : Float) (h : Sized nine sx) (g : Sized nine gob) (c : Sized angle clg) where
  waves_sized : (j : ℕ) → j ≤ 8 → Sized four (cos_wave gob clg j) × Sized four (sin_wave gob clg j)
  unfolding cos_wave sin_wave wave_room le
  waves_sized j l =
      let t = at_each wave_room 8 cx_tests.1 j l in
      let x = cx_sized gob g j l in
      let a = turns_sized clg c j l in
      (times64_sized four t x (cos_sized tt a), times64_sized four t x (sin_sized tt a))

  harmonic_sized : (j i : ℕ) → j ≤ 8 → i ≤ 75 → Sized basis (harmonic_of sx gob clg j i)
  unfolding harmonic_of
  harmonic_sized j i l m =
      let w = waves_sized j l in
      raised_sized sx (cond (eqb (i % 2) 0) (cos_wave gob clg j) (sin_wave gob clg j)) h (either_sized (eqb (i % 2) 0) w.0 w.1) (i / 2) (omega arith)

  nothing_sized : Sized basis (fraction 0 1)
  unfolding fraction round abs_of negative le
  nothing_sized = record { size = tt }

  from_sized : (w : ℕ → ℕ) (n j k : ℕ) → j + n ≤ 9 → k ≤ 75 → Sized basis (geographic_from w sx gob clg n j k)
  unfolding geographic_from
  from_sized w zero j k l m = nothing_sized
  from_sized w (suc n) j k l m =
      either_sized (eqb (w j) (w (j - 1))) nothing_sized
      (either_sized (leb k (w j)) (harmonic_sized j (k - w (j - 1) - 1) (omega arith) (omega arith)) (from_sized w n (j + 1) k (omega arith) m))

  -- whatever the ladder's words are
  pub geographic_sized : (w : ℕ → ℕ) (k : ℕ) → k ≤ 75 → Sized basis (geographic_of w sx gob clg k)
  unfolding geographic_of
  geographic_sized w k m = either_sized (leb k (w 0)) (power_sized sx h k m) (from_sized w 8 1 k (omega arith) m)

-- ---- the series

abbrev product_most : Float
product_most = fin false 1 (pos 43)

abbrev gamma_most : ℕ → Float
gamma_most n = fin false (suc n) (pos 43)

-- of a map's value
abbrev pub gammas : Float
gammas = fin false 1 (pos 50)

unfoldable sum_test : ℕ → Bool
sum_test n = every (finite (gamma_most n) ∷ finite product_most ∷ le (add binary64 (gamma_most n) product_most) (gamma_most (suc n)) ∷ [])

unfoldable narrow_test : ℕ → Bool
narrow_test n = le (narrow_of (gamma_most n)) (gamma_most n)

unfoldable gamma_room : ℕ → Bool
gamma_room n = le (gamma_most n) gammas

gamma_tests : T (up_to sum_test 75) × T (up_to narrow_test 75) × T (up_to gamma_room 75)
unfolding sum_test narrow_test gamma_room narrow_of round add le
gamma_tests = (tt, tt, tt)

module _ (ab : List Float) (at : ℕ) (g : ℕ → Float) (a : (i : ℕ) → at + i < 318 → Sized row_most (get_or ab (at + i) nan)) (b : (i : ℕ) → i ≤ 75 → Sized basis (g i)) where
  gamma_in : (n : ℕ) → n ≤ 75 → at + n < 318 → Sized (gamma_most n) (gamma_of ab at g n)
  unfolding gamma_of sum_test narrow_test mul le
  gamma_in zero l m =
      let e : at + 0 ≡ at = omega arith in
      let x : Sized row_most (get_or ab at nan) = subst (λ (p : ℕ). Sized row_most (get_or ab p nan)) e (a 0 (omega arith)) in
      narrowed_sized (gamma_most 0) (at_each narrow_test 75 gamma_tests.1 0 (omega arith)) (times64_sized (gamma_most 0) tt (b 0 (omega arith)) x)
  gamma_in (suc n) l m =
      narrowed_sized (gamma_most (suc n)) (at_each narrow_test 75 gamma_tests.1 (suc n) l)
      (plus64_sized (gamma_most (suc n)) (at_each sum_test 75 gamma_tests.0 n (omega arith)) (gamma_in n (omega arith) (omega arith))
      (times64_sized product_most tt (a (suc n) m) (b (suc n) l)))

  gamma_sized : (n : ℕ) → n ≤ 75 → at + n < 318 → Sized gammas (gamma_of ab at g n)
  unfolding gamma_room
  gamma_sized n l m = larger gammas (at_each gamma_room 75 gamma_tests.2 n l) (gamma_in n l m)

-- ---- the six maps at a place

pub record Mapped (g : Gammas) : Type 0 where
  pub g1 : Sized gammas g.g1
  pub g2 : Sized gammas g.g2
  pub g3 : Sized gammas g.g3
  pub g4 : Sized gammas g.g4
  pub g5 : Sized gammas g.g5
  pub g6 : Sized gammas g.g6

module _ (ab : List Float) (index : List ℕ) (full : Full ab) (good : GoodTable index) (clg gob : Float) (c : Sized angle clg) (h : Sized nine gob) where
  map_sized : (k : ℕ) (x : Float) → k < 6 → Sized angle x → Sized gammas (gamma_of ab (get_or IC k 0 - 1) (geographic_of (map_word index k) (sin_of x) gob clg) (map_word index k 8))
  unfolding le
  map_sized k x l s =
      let g = good k l in
      let o = limits k l in
      let r = reads_inside k l (map_word index k 8) 0 (omega arith) (omega arith) in
      let e = r.result in
      gamma_sized ab (get_or IC k 0 - 1) (geographic_of (map_word index k) (sin_of x) gob clg) (λ i m. full.each (get_or IC k 0 - 1 + i) m)
      (λ i m. geographic_sized (sin_of x) gob clg (sin_sized tt s) h c (map_word index k) i m) (map_word index k 8) (omega arith) (omega arith)

  -- at most 2 ^ 50 in size, and so finite
  pub gammas_sized : (dip lat : Float) → Sized angle dip → Sized angle lat → Mapped (gammas_of ab index dip lat clg gob)
  unfolding gammas_of versy_of series_of
  gammas_sized dip lat d l = record {
    g1 = map_sized 0 dip (omega arith) d;
    g2 = map_sized 1 dip (omega arith) d;
    g3 = map_sized 2 dip (omega arith) d;
    g4 = map_sized 3 dip (omega arith) d;
    g5 = map_sized 4 dip (omega arith) d;
    g6 = map_sized 5 lat (omega arith) l;
  }

-- ---- `noisy`'s two maps

-- 2, and four times that for each turn
abbrev turn_most : ℕ → Float
turn_most k = fin false 1 (pos (2 * k + 1))

abbrev turn_half : ℕ → Float
turn_half k = fin false 1 (pos (2 * k + 2))

unfoldable turn_times : ℕ → Bool
turn_times k = every (finite (turn_most k) ∷ finite nine ∷ le (turn_most k ⊗ nine) (turn_half k) ∷ [])

unfoldable turn_sum : ℕ → Bool
turn_sum k = every (finite (turn_half k) ∷ finite (turn_half k) ∷ le (turn_half k ⊕ turn_half k) (turn_most (suc k)) ∷ [])

turn_tests : T (up_to turn_times 29) × T (up_to turn_sum 29) × T (le nine (turn_most 0))
unfolding turn_times turn_sum add mul le
turn_tests = (tt, tt, tt)

record Turning (a : Float) (v : Turn) : Type 0 where
  pub sine : Sized a v.sine
  pub cosine : Sized a v.cosine

turn_sized : (s c : Float) → Sized nine s → Sized nine c → (k : ℕ) → k < 29 → Turning (turn_most k) (turn_of s c k)
unfolding turn_of turn_times turn_sum
turn_sized s c h i zero l = record { sine = larger (turn_most 0) turn_tests.2 h; cosine = larger (turn_most 0) turn_tests.2 i }
turn_sized s c h i (suc k) l =
    let v = turn_sized s c h i k (omega arith) in
    let t = at_each turn_times 29 turn_tests.0 k (omega arith) in
    let u = at_each turn_sum 29 turn_tests.1 k (omega arith) in
    record {
      sine = plus_sized (turn_most (suc k)) u (times_sized (turn_half k) t v.sine i) (times_sized (turn_half k) t v.cosine h);
      cosine = less_sized (turn_most (suc k)) u (times_sized (turn_half k) t v.cosine i) (times_sized (turn_half k) t v.sine h);
    }

abbrev column_most : ℕ → Float
column_most k = fin false 1 (pos (2 * k + 20))

abbrev column_term : ℕ → Float
column_term k = fin false 1 (pos (2 * k + 21))

unfoldable column_times : ℕ → Bool
column_times k = every (finite (turn_most k) ∷ finite blended ∷ le (turn_most k ⊗ blended) (column_term k) ∷ [])

unfoldable column_sum : ℕ → Bool
column_sum k = every (finite (column_most k) ∷ finite (column_term k) ∷ le (column_most k ⊕ column_term k) (column_most (suc k)) ∷ [])

abbrev zz_most : Float
zz_most = fin false 1 (pos 51)

unfoldable zz_test : ℕ → Bool
zz_test k = every (finite (column_most k) ∷ finite blended ∷ le (column_most k ⊕ blended) zz_most ∷ [])

column_tests : T (up_to column_times 14) × T (up_to column_sum 14) × T (up_to zz_test 15)
unfolding column_times column_sum zz_test add mul le
column_tests = (tt, tt, tt)

abbrev band_most : ℕ → Float
band_most k = fin false 1 (pos (2 * k + 51))

abbrev band_term : ℕ → Float
band_term k = fin false 1 (pos (2 * k + 52))

unfoldable band_times : ℕ → Bool
band_times k = every (finite (turn_most k) ∷ finite zz_most ∷ le (turn_most k ⊗ zz_most) (band_term k) ∷ [])

unfoldable band_sum : ℕ → Bool
band_sum k = every (finite (band_most k) ∷ finite (band_term k) ∷ le (band_most k ⊕ band_term k) (band_most (suc k)) ∷ [])

unfoldable band_room : ℕ → Bool
band_room k = le (band_most k) (fin false 1 (pos 109))

band_tests : T (up_to band_times 28) × T (up_to band_sum 28) × T (up_to band_room 29)
unfolding band_times band_sum band_room add mul le
band_tests = (tt, tt, tt)

nil_sized : {a : Float} → T (le nought a) → Sized a (decimal 0 1)
unfolding decimal round abs_of negative
nil_sized t = record { size = t }

-- a plane of 16 rows of 29, each number with a bound
abbrev pub Plane : List Float → Type 0
Plane plane = (i : ℕ) → i < 464 → Sized blended (get_or plane i nan)

module _ (sx : ℕ → Float) (plane : List Float) (h : (k : ℕ) → k < 29 → Sized (turn_most k) (sx k)) (p : Plane plane) where
  column_sized : (j k : ℕ) → j < 29 → k ≤ 15 → Sized (column_most k) (column_of sx plane j k)
  unfolding column_of column_times column_sum le
  column_sized j zero m l = nil_sized tt
  column_sized j (suc k) m l =
      plus_sized (column_most (suc k)) (at_each column_sum 14 column_tests.1 k (omega arith)) (column_sized j k m (omega arith))
      (times_sized (column_term k) (at_each column_times 14 column_tests.0 k (omega arith)) (h k (omega arith)) (p (k * 29 + j) (omega arith)))

  zz_sized : (j k : ℕ) → j < 29 → k ≤ 15 → Sized zz_most (zz_of sx plane k j)
  unfolding zz_of zz_test
  zz_sized j k m l = plus_sized zz_most (at_each zz_test 15 column_tests.2 k l) (column_sized j k m l) (p (15 * 29 + j) (omega arith))

module _ (sk zz : ℕ → Float) (h : (k : ℕ) → k < 29 → Sized (turn_most k) (sk k)) (z : (k : ℕ) → k < 29 → Sized zz_most (zz k)) where
  band_sized : (k : ℕ) → k ≤ 29 → Sized (band_most k) (latitude_sum sk zz k)
  unfolding latitude_sum band_times band_sum le
  band_sized zero l = nil_sized tt
  band_sized (suc k) l =
      plus_sized (band_most (suc k)) (at_each band_sum 28 band_tests.1 k (omega arith)) (band_sized k (omega arith))
      (times_sized (band_term k) (at_each band_times 28 band_tests.0 k (omega arith)) (h k (omega arith)) (z k (omega arith)))

  latitude_sized : (k : ℕ) → k ≤ 29 → Sized (fin false 1 (pos 109)) (latitude_sum sk zz k)
  unfolding band_room
  latitude_sized k l = larger (fin false 1 (pos 109)) (at_each band_room 29 band_tests.2 k l) (band_sized k l)

-- of a place in degrees
abbrev pub degrees : Float
degrees = fin false 1 (pos 12)

-- of a value of `noisy`
abbrev pub noises : Float
noises = fin false 1 (pos 111)

module _ (plane : List Float) (alf bet xla ceg : Float) (p : Plane plane) (a : Sized word alf) (b : Sized word bet) (x : Sized degrees xla) (c : Sized degrees ceg) where
  pub noisy_sum_sized : (lm ln : ℕ) → lm ≤ 29 → ln ≤ 15 → Sized noises (noisy_sum lm ln plane alf bet xla ceg)
  unfolding noisy_sum decimal round abs_of negative add mul le
  noisy_sum_sized lm ln l m =
      let f : Sized (fin false 1 (negsuc 5)) (decimal 87266466 10) = record { size = tt } in
      let q : Sized (fin false 1 (pos 6)) (decimal 87266466 10 ⊗ ceg) = times_sized (fin false 1 (pos 6)) tt f c in
      let n : Sized (decimal 900 1) (decimal 900 1) = record { size = tt } in
      let d : Sized (fin false 1 (negsuc 4)) (decimal 1745329252 11) = record { size = tt } in
      let r : Sized (fin false 1 (pos 8)) (decimal 1745329252 11 ⊗ (xla ⊕ decimal 900 1)) = times_sized (fin false 1 (pos 8)) tt d (plus_sized (fin false 1 (pos 13)) tt x n) in
      plus_sized noises tt
      (plus_sized (fin false 1 (pos 110)) tt
      (latitude_sized _ _ (λ k o. (turn_sized _ _ (sin32_sized tt r) (cos32_sized tt r) k o).sine) (λ k o. zz_sized _ plane (λ i u. (turn_sized _ _ (sin32_sized tt q) (cos32_sized tt q) i u).sine) p k ln o m) lm l)
      a)
      (times_sized (fin false 1 (pos 24)) tt b r)

  pub noisy_sized : (ratio : Bool) → Sized noises (noisy_of plane alf bet ratio xla ceg)
  unfolding noisy_of
  noisy_sized ratio = either_sized ratio (noisy_sum_sized 15 10 (omega arith) (omega arith)) (noisy_sum_sized 29 15 (omega arith) (omega arith))
