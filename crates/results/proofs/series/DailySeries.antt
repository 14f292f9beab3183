-- What AB holds at each of its 318 places: at the rows of each map up to word 8 the daily series of
-- the row, elsewhere 0. By induction over the six maps, whose parts of AB follow one another.
-- Assumes nothing.
use Rattle.std.proofs.Common.{◌≡◌, refl, sym, ap, ◌∙◌, subst, inl, inr, List, [], ◌∷◌, ℕ, zero, suc, ◌+◌, ◌-◌, ◌*◌, ◌≤◌, ◌<◌, add-zero, zero-add, add_assoc, add-one, arith, lit≤, lit<, length, get_or, replicate, length-append, Float}
use native.Mathlib.Decide.{dec_lt}
use lib.ListN.{length-replicate, get_or-replicate}
use lib.Ieee.{nan}
use Rattle.base.specs.Single.{◌⊕◌, ◌⊗◌, decimal}
use Rattle.base.specs.Fill.{fill}
use Rattle.base.specs.Index.{map_word, rows}
use Rattle.base.specs.Blend.{IA, IB, IC, eslcof_of, esmcof_of, esucof_of, f2cof_of, fm3cof_of, ercof_of, cofion_maps, appended, cofion_of}
use Rattle.base.proofs.lists.Fills.{length_fill, fill_at, fill_other}
use Rattle.base.proofs.lists.Maps.{run_length}
use Rattle.base.proofs.ladder.Ladders.{six}
use Rattle.base.proofs.ladder.Indexing.{reads_inside}
use Rattle.maps.specs.Loop.{times, loop}
use Rattle.maps.specs.Virtim.{GoodTable, Wave, hour_wave, value_of, daily_of, coefficient_in, row_value, time_map_of, virtim_of}

-- ---- a row's series

value_daily : (v : ℕ → Wave) (cof : List Float) (at n : ℕ) → value_of v cof at n ≡ daily_of v (λ s. get_or cof (at + s) nan) n
unfolding value_of daily_of
value_daily v cof at zero = ap (λ (i : ℕ). get_or cof i nan) (sym (add-zero at))
value_daily v cof at (suc n) =
    let p = value_daily v cof at n in
    let a = add_assoc at (2 * n) 1 in
    let b = add_assoc at (2 * n) 2 in
    λ t. p t ⊕ (v n).s ⊗ get_or cof (a t) nan ⊕ (v n).c ⊗ get_or cof (b t) nan

-- a series of n harmonics takes the coefficients 0 to 2 n
pub daily_same :
    (v : ℕ → Wave) (u u' : ℕ → Float) (n : ℕ) → ((s : ℕ) → s ≤ 2 * n → u s ≡ u' s) → daily_of v u n ≡ daily_of v u' n
unfolding daily_of
daily_same v u u' zero e = e 0 (omega arith)
daily_same v u u' (suc n) e =
    let p = daily_same v u u' n (λ s h. e s (omega arith)) in
    let a = e (2 * n + 1) (omega arith) in
    let b = e (2 * n + 2) (omega arith) in
    λ t. p t ⊕ (v n).s ⊗ a t ⊕ (v n).c ⊗ b t

-- ---- the runs of COFION and the parts of AB

-- where the coefficients of a map end, those of the next begin
pub runs_meet : (k : ℕ) → k < 5 → get_or IA (k + 1) 0 ≡ get_or IA k 0 + get_or rows k 0 * get_or IB k 0
runs_meet k h =
    six (λ k. k < 5 → get_or IA (k + 1) 0 ≡ get_or IA k 0 + get_or rows k 0 * get_or IB k 0)
    (λ l. refl)
    (λ l. refl)
    (λ l. refl)
    (λ l. refl)
    (λ l. refl)
    (λ l. absurd (omega arith))
    k (omega arith) h

-- the elements of all lists
abbrev total : List (List Float) → ℕ
total [] = 0
total (l ∷ ls) = length l + total ls

length_appended : (ls : List (List Float)) → length (appended ls) ≡ total ls
length_appended [] = refl
length_appended (l ∷ ls) = length-append l (appended ls) ∙ ap (λ (n : ℕ). length l + n) (length_appended ls)

length_cofion : (f2 month : List ℕ) (s : Float) → length (cofion_of f2 month s) ≡ 2604
unfolding cofion_of
length_cofion f2 month s =
    let a : length (eslcof_of month s) ≡ 275 = run_length f2 month s 0 (lit< tt) in
    let b : length (esmcof_of month s) ≡ 427 = run_length f2 month s 1 (lit< tt) in
    let c : length (esucof_of month s) ≡ 275 = run_length f2 month s 2 (lit< tt) in
    let d : length (f2cof_of f2 s) ≡ 988 = run_length f2 month s 3 (lit< tt) in
    let e : length (fm3cof_of month s) ≡ 441 = run_length f2 month s 4 (lit< tt) in
    let f : length (ercof_of month s) ≡ 198 = run_length f2 month s 5 (lit< tt) in
    length_appended (cofion_maps f2 month s) ∙ omega arith

-- and those of the last end where COFION does
pub runs_end :
    (f2 month : List ℕ) (s : Float) →
    get_or IA 5 0 + get_or rows 5 0 * get_or IB 5 0 ≡ length (cofion_of f2 month s) + 1
runs_end f2 month s = ap (λ (n : ℕ). n + 1) (sym (length_cofion f2 month s))

-- where the rows of a map end, those of the next begin
pub parts_meet : (k : ℕ) → k < 5 → get_or IC (k + 1) 0 ≡ get_or IC k 0 + get_or rows k 0
parts_meet k h =
    six (λ k. k < 5 → get_or IC (k + 1) 0 ≡ get_or IC k 0 + get_or rows k 0)
    (λ l. refl)
    (λ l. refl)
    (λ l. refl)
    (λ l. refl)
    (λ l. refl)
    (λ l. absurd (omega arith))
    k (omega arith) h

module _ (cof : List Float) (index : List ℕ) (gmt : Float) where
  length_times :
      (n : ℕ) → length (times (time_map_of (hour_wave gmt) cof index) 0 n (replicate 318 (decimal 0 1))) ≡ 318
  unfolding times time_map_of
  length_times zero = length-replicate 318 (decimal 0 1)
  length_times (suc n) =
      length_fill (row_value (hour_wave gmt) cof index (0 + n)) (get_or IC (0 + n) 0 - 1)
      (times (time_map_of (hour_wave gmt) cof index) 0 n (replicate 318 (decimal 0 1))) (map_word index (0 + n) 8 + 1)
      ∙ length_times n

  length_virtim : length (virtim_of cof index gmt) ≡ 318
  unfolding virtim_of loop
  length_virtim = length_times 6

  -- and those of the last end where AB does
  pub parts_end : get_or IC 5 0 + get_or rows 5 0 ≡ length (virtim_of cof index gmt) + 1
  parts_end = ap (λ (n : ℕ). n + 1) (sym length_virtim)

from_one : (k : ℕ) → k < 6 → 1 ≤ get_or IC k 0
from_one = six (λ k. 1 ≤ get_or IC k 0) (lit≤ tt) (lit≤ tt) (lit≤ tt) (lit≤ tt) (lit≤ tt) (lit≤ tt)

apart : (k n : ℕ) → k < n → n < 6 → get_or IC k 0 + get_or rows k 0 ≤ get_or IC n 0
apart k zero h l = absurd (omega arith)
apart k (suc n) h l =
    let m = parts_meet n (omega arith) in
    let e = ap (λ (i : ℕ). get_or IC i 0) (add-one n) in
    elim (dec_lt k n) [
      | yes q ↦ let a = apart k n q (omega arith) in omega arith
      | no q ↦
          let d : k ≡ n = omega arith in
          let a = ap (λ (i : ℕ). get_or IC i 0 + get_or rows i 0) d in
          omega arith
    ]

-- ---- AB after n maps, `row k j` being the row j of the map k and `last k` the last that is put
-- there

record Filled (row : ℕ → ℕ → Float) (last : ℕ → ℕ) (n : ℕ) (ab : List Float) : Type 0 where
  pub size : length ab ≡ 318
  pub at : (k j : ℕ) → k < n → j ≤ last k → get_or ab (get_or IC k 0 - 1 + j) nan ≡ row k j
  pub other :
      (p : ℕ) → p < 318 → ((k j : ℕ) → k < n → j ≤ last k → get_or IC k 0 - 1 + j ≡ p → ⊥) → get_or ab p nan ≡ decimal 0 1

module _ (row : ℕ → ℕ → Float) (last : ℕ → ℕ) (few : (k : ℕ) → k < 6 → last k < get_or rows k 0) where
  none : Filled row last 0 (replicate 318 (decimal 0 1))
  none =
      record {
        size = length-replicate 318 (decimal 0 1);
        at = λ k j h l. absurd (omega arith);
        other = λ p h free. get_or-replicate 318 p (decimal 0 1) nan h;
      }

  module _ (n : ℕ) (h : n < 6) (ab : List Float) (f : Filled row last n ab) where
    abbrev start : ℕ
    start = get_or IC n 0 - 1

    abbrev next : List Float
    next = fill (row n) start ab (last n + 1)

    own : (j : ℕ) → j ≤ last n → get_or next (start + j) nan ≡ row n j
    own j l =
        let a = few n h in
        let b = (reads_inside n h (last n) 0 (omega arith) (omega arith)).result in
        let c = f.size in
        fill_at (row n) start ab (last n + 1) j nan (omega arith) (omega arith)

    at_next : (k j : ℕ) → k < suc n → j ≤ last k → get_or next (get_or IC k 0 - 1 + j) nan ≡ row k j
    at_next k j q l = elim (dec_lt k n) [
      | yes p ↦
          let a = apart k n p h in
          let b = few k (omega arith) in
          let c = from_one k (omega arith) in
          fill_other (row n) start ab (last n + 1) (get_or IC k 0 - 1 + j) nan (inl (omega arith)) ∙ f.at k j p l
      | no p ↦
          let e : k ≡ n = omega arith in
          let d = ap last e in
          ap (λ (i : ℕ). get_or next (get_or IC i 0 - 1 + j) nan) e ∙ own j (omega arith) ∙ ap (λ (i : ℕ). row i j) (sym e)
    ]

    other_next :
        (p : ℕ) → p < 318 → ((k j : ℕ) → k < suc n → j ≤ last k → get_or IC k 0 - 1 + j ≡ p → ⊥) → get_or next p nan ≡ decimal 0 1
    other_next p l free =
        let before = f.other p l (λ k j q m e. free k j (omega arith) m e) in
        elim (dec_lt p start) [
          | yes q ↦ fill_other (row n) start ab (last n + 1) p nan (inl q) ∙ before
          | no q ↦ elim (dec_lt p (start + (last n + 1))) [
            | yes r ↦ absurd (free n (p - start) (omega arith) (omega arith) (omega arith))
            | no r ↦ fill_other (row n) start ab (last n + 1) p nan (inr (omega arith)) ∙ before
          ]
        ]

    more : Filled row last (suc n) next
    more = record { size = length_fill (row n) start ab (last n + 1) ∙ f.size; at = at_next; other = other_next }

-- ---- the theorems

module _ (cof : List Float) (index : List ℕ) (gmt : Float) (good : GoodTable index) where
  abbrev Row : ℕ → ℕ → Float
  Row = row_value (hour_wave gmt) cof index

  abbrev Last : ℕ → ℕ
  Last k = map_word index k 8

  abbrev after : ℕ → List Float
  after n = times (time_map_of (hour_wave gmt) cof index) 0 n (replicate 318 (decimal 0 1))

  filled : (n : ℕ) → n ≤ 6 → Filled Row Last n (after n)
  unfolding times time_map_of
  filled zero h = none Row Last (λ k l. (good k l).terms)
  filled (suc n) h =
      subst (λ (i : ℕ). Filled Row Last (suc n) (time_map_of (hour_wave gmt) cof index i (after n))) (sym (zero-add n))
      (more Row Last (λ k l. (good k l).terms) n (omega arith) (after n) (filled n (omega arith)))

  all : Filled Row Last 6 (virtim_of cof index gmt)
  unfolding virtim_of loop
  all = filled 6 (omega arith)

  row_daily : (k j : ℕ) → Row k j ≡ daily_of (hour_wave gmt) (λ s. coefficient_in cof k s j) (map_word index k 9)
  unfolding row_value
  row_daily k j = value_daily (hour_wave gmt) cof (get_or IA k 0 - 1 + j * get_or IB k 0) (map_word index k 9)

  -- AB at a row of a map up to word 8: the row's daily series
  pub ab_at :
      (k j : ℕ) → k < 6 → j ≤ map_word index k 8 →
      get_or (virtim_of cof index gmt) (get_or IC k 0 - 1 + j) nan
      ≡
      daily_of (hour_wave gmt) (λ s. coefficient_in cof k s j) (map_word index k 9)
  ab_at k j h l = all.at k j h l ∙ row_daily k j

  -- and at every place that is no such row
  pub ab_other :
      (p : ℕ) → p < 318 → ((k j : ℕ) → k < 6 → j ≤ map_word index k 8 → get_or IC k 0 - 1 + j ≡ p → ⊥) →
      get_or (virtim_of cof index gmt) p nan ≡ decimal 0 1
  ab_other = all.other
