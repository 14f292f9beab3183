-- The map series of CCIR Report 340: the sum along AB reads the daily series themselves
-- (`map_series`), and of files that were checked each coefficient is the blend of two words
-- (`report_340`). Assumes nothing.
use Rattle.std.proofs.Common.{Ok, ◌≡◌, sym, ap, ◌∙◌, List, ℕ, zero, suc, ◌+◌, ◌-◌, ◌≤◌, ◌<◌, add-zero, arith, lit<, get_or, Float}
use lib.Ieee.{nan}
use Rattle.base.specs.Double.{◌⊕◌, ◌⊗◌}
use Rattle.base.specs.Number.{narrow_of}
use Rattle.base.specs.Elementary.{sin_of}
use Rattle.base.specs.Words.{word_at}
use Rattle.base.specs.Tables.{ikim, entry_place}
use Rattle.base.specs.Index.{index_of, map_word, index_check}
use Rattle.base.specs.Blend.{IC, cofion_of, coefficient_of}
use Rattle.base.proofs.ladder.Indexing.{good_index}
use Rattle.results.proofs.files.TableEntries.{index_entry, row_waves, cofion_entry}
use Rattle.maps.specs.Virtim.{GoodTable, hour_wave, daily_of, coefficient_in, virtim_of}
use Rattle.maps.specs.Versy.{geographic_of, gamma_of, series_of, versy_of, gammas_of}
use Rattle.maps.specs.Series.{map_series_of, omega_of}
use Rattle.maps.specs.Ionosphere.{hour_maps_of}
use Rattle.maps.proofs.sums.GeographicFunctions.{geographic_same}
use Rattle.results.proofs.series.DailySeries.{daily_same, ab_at}

-- ---- the sum

-- along AB, whose numbers from `at` on are d 0 .. d n
gamma_series :
    (ab : List Float) (at : ℕ) (d g : ℕ → Float) (n : ℕ) → ((j : ℕ) → j ≤ n → get_or ab (at + j) nan ≡ d j) →
    gamma_of ab at g n ≡ map_series_of d g n
unfolding gamma_of map_series_of
gamma_series ab at d g zero e =
    ap (λ (i : ℕ). narrow_of (g 0 ⊗ get_or ab i nan)) (sym (add-zero at)) ∙ ap (λ (x : Float). narrow_of (g 0 ⊗ x)) (e 0 (omega arith))
gamma_series ab at d g (suc n) e =
    let p = gamma_series ab at d g n (λ j h. e j (omega arith)) in
    let q = e (suc n) (omega arith) in
    λ t. narrow_of (p t ⊕ q t ⊗ g (suc n))

series_same : (d d' g : ℕ → Float) (n : ℕ) → ((j : ℕ) → j ≤ n → d j ≡ d' j) → map_series_of d g n ≡ map_series_of d' g n
unfolding map_series_of
series_same d d' g zero e = ap (λ (x : Float). narrow_of (g 0 ⊗ x)) (e 0 (omega arith))
series_same d d' g (suc n) e =
    let p = series_same d d' g n (λ j h. e j (omega arith)) in
    let q = e (suc n) (omega arith) in
    λ t. narrow_of (p t ⊕ q t ⊗ g (suc n))

-- ---- the theorems

-- the value of the map k over any coefficients: Omega, of the coefficients where they stand in
-- COFION
pub map_series :
    (cof : List Float) (index : List ℕ) (gmt x clg gob : Float) → GoodTable index → (k : ℕ) → k < 6 →
    versy_of (virtim_of cof index gmt) index (k + 1) x clg gob ≡ omega_of (coefficient_in cof k) (map_word index k) gmt x clg gob
unfolding versy_of series_of omega_of
map_series cof index gmt x clg gob good k h =
    let ab = virtim_of cof index gmt in
    let e : k + 1 - 1 ≡ k = omega arith in
    ap (λ (i : ℕ). gamma_of ab (get_or IC i 0 - 1) (geographic_of (map_word index i) (sin_of x) gob clg) (map_word index i 8)) e
    ∙ gamma_series ab (get_or IC k 0 - 1) _ _ (map_word index k 8) (λ j l. ab_at cof index gmt good k j h l)

-- Omega takes the words 0 to 9 of the index
omega_same :
    (u : ℕ → ℕ → Float) (w v : ℕ → ℕ) (gmt x clg gob : Float) → ((i : ℕ) → i < 10 → w i ≡ v i) →
    omega_of u w gmt x clg gob ≡ omega_of u v gmt x clg gob
unfolding omega_of
omega_same u w v gmt x clg gob e =
    let last = e 8 (omega arith) in
    let waves = e 9 (omega arith) in
    λ t.
    map_series_of
    (λ j. daily_of (hour_wave gmt) (λ s. u s j) (waves t))
    (λ k. geographic_same w v (λ i l. e i (omega arith)) (sin_of x) gob clg k t)
    (last t)

module _ (f2 month : List ℕ) (ssn gmt x clg gob : Float) (passed : index_check month ≡ Ok tt) (k : ℕ) (h : k < 6) where
  blended_series :
      omega_of (coefficient_in (cofion_of f2 month ssn) k) (map_word (index_of month) k) gmt x clg gob
      ≡
      omega_of (coefficient_of f2 month ssn k) (map_word (index_of month) k) gmt x clg gob
  unfolding omega_of
  blended_series =
      let g = good_index month passed k h in
      let b = row_waves k h in
      series_same _ _ _ (map_word (index_of month) k 8)
      (λ j l.
      daily_same (hour_wave gmt) _ _ (map_word (index_of month) k 9)
      (λ s m. cofion_entry f2 month ssn k s j h (omega arith) (omega arith)))

  -- the value of the map k from a month file that passes the index check: Omega, each U_{s,j} being
  -- the blend of the entries [0][j][s] and [1][j][s] of the map's table, and its index the row k of
  -- `ikim`
  pub report_340 :
      versy_of (hour_maps_of f2 month ssn gmt) (index_of month) (k + 1) x clg gob
      ≡
      omega_of (coefficient_of f2 month ssn k) (λ i. word_at month (entry_place ikim i k 0)) gmt x clg gob
  unfolding hour_maps_of
  report_340 =
      map_series (cofion_of f2 month ssn) (index_of month) gmt x clg gob (good_index month passed) k h
      ∙ blended_series
      ∙ omega_same (coefficient_of f2 month ssn k) _ _ gmt x clg gob (λ i l. index_entry month k i h l)

-- the six maps of a place, as `versy` gives them
module _ (f2 month : List ℕ) (ssn gmt dip lat clg gob : Float) (passed : index_check month ≡ Ok tt) where
  abbrev Omega : ℕ → Float → Float
  Omega k x = omega_of (coefficient_of f2 month ssn k) (λ i. word_at month (entry_place ikim i k 0)) gmt x clg gob

  pub six_series :
      gammas_of (hour_maps_of f2 month ssn gmt) (index_of month) dip lat clg gob
      ≡
      record { g1 = Omega 0 dip; g2 = Omega 1 dip; g3 = Omega 2 dip; g4 = Omega 3 dip; g5 = Omega 4 dip; g6 = Omega 5 lat }
  unfolding gammas_of
  six_series =
      λ t.
      record {
        g1 = report_340 f2 month ssn gmt dip clg gob passed 0 (lit< tt) t;
        g2 = report_340 f2 month ssn gmt dip clg gob passed 1 (lit< tt) t;
        g3 = report_340 f2 month ssn gmt dip clg gob passed 2 (lit< tt) t;
        g4 = report_340 f2 month ssn gmt dip clg gob passed 3 (lit< tt) t;
        g5 = report_340 f2 month ssn gmt dip clg gob passed 4 (lit< tt) t;
        g6 = report_340 f2 month ssn gmt lat clg gob passed 5 (lit< tt) t;
      }
