-- Where each figure stands among the 151: the path's six first, and number k of point p, counted
-- from 1, at 6 + 29 * (p - 1) + k. By the rows' lengths, one after the other. With it the clock and
-- the absent rows as printed. Assumes nothing.
use Rattle.std.proofs.Common.{◌≡◌, refl, sym, ap, subst, ◌∙◌, List, ◌++◌, ℕ, zero, suc, ◌+◌, ◌*◌, ◌-◌, ◌≤◌, ◌<◌, arith, lt-ltb, le-ltb, lit<, get_or, replicate, get_or-append-add, Float}
use native.Mathlib.Decide.{dec_lt}
use lib.ListN.{get_or-replicate, get_or-append}
use lib.Ieee.{nan}
use Rattle.base.specs.Single.{decimal}
use Rattle.base.proofs.verdicts.Picks.{cond_true, cond_false}
use Rattle.maps.specs.declared.inputs.Inputs.{Inputs}
use Rattle.maps.specs.declared.geometry.ControlPoint.{ControlPoint}
use Rattle.maps.specs.declared.geometry.PathGeometry.{PathGeometry}
use Rattle.maps.specs.Inputs.{is_long}
use Rattle.maps.specs.Geometry.{nowhere}
use Rattle.maps.specs.Layers.{clock_of}
use Rattle.maps.specs.Figures.{SheetHour, hour_of, head_of, numbers_of, point_row, figure_row, figures_to, sheet_path, figures_of}
use Rattle.results.proofs.path.PointRows.{most}
use Rattle.results.proofs.clock.Clock.{Hour, OnClock, layer_clock}
use Rattle.results.proofs.path.Longitudes.{Typed, point_clock}
use Rattle.maps.proofs.sheet.Alone.{to_length}

module _ (h : SheetHour) (i : Inputs) (g : PathGeometry) where
  -- what stands among the figures to n stays there
  stays : (n k : ℕ) → k < 6 + 29 * n → get_or (figures_to h i g (suc n)) k nan ≡ get_or (figures_to h i g n) k nan
  unfolding figures_to
  stays n k b =
      let l = to_length h i g n in
      get_or-append (figures_to h i g n) (figure_row h i g n) nan k (omega arith)

  -- the row n stands behind the rows before it
  last : (n k : ℕ) → get_or (figures_to h i g (suc n)) (6 + 29 * n + k) nan ≡ get_or (figure_row h i g n) k nan
  unfolding figures_to
  last n k =
      ap (λ (m : ℕ). get_or (figures_to h i g n ++ figure_row h i g n) (m + k) nan) (sym (to_length h i g n))
      ∙ get_or-append-add (figures_to h i g n) (figure_row h i g n) k nan

  head_to : (n k : ℕ) → k < 6 → get_or (figures_to h i g n) k nan ≡ get_or (head_of g) k nan
  unfolding figures_to
  head_to zero k b = refl
  head_to (suc n) k b = stays n k (omega arith) ∙ head_to n k b

  row_to : (n p k : ℕ) → p < n → k < 29 → get_or (figures_to h i g n) (6 + 29 * p + k) nan ≡ get_or (figure_row h i g p) k nan
  row_to zero p k a b = absurd (omega arith)
  row_to (suc n) p k a b = elim (dec_lt p n) [ yes q ↦ stays n (6 + 29 * p + k) (omega arith) ∙ row_to n p k q b | no q ↦ here (omega arith) ]
    where
      here : p ≡ n → get_or (figures_to h i g (suc n)) (6 + 29 * p + k) nan ≡ get_or (figure_row h i g p) k nan
      here e = subst (λ (m : ℕ). get_or (figures_to h i g (suc n)) (6 + 29 * m + k) nan ≡ get_or (figure_row h i g m) k nan) (sym e) (last n k)

module _ (f2 file : List ℕ) (i : Inputs) where
  -- '`gcd`, `gcd_km`, `btr`, `brt`, `rlatd`, `alatd`' stand first
  pub head_at : (k : ℕ) → k < 6 → get_or (figures_of f2 file i) k nan ≡ get_or (head_of (sheet_path i)) k nan
  unfolding figures_of
  head_at k b = head_to (hour_of f2 file i) i (sheet_path i) 5 k b

  -- 'then 29 numbers for each of five points'
  pub figure_at : (p k : ℕ) → 1 ≤ p → p ≤ 5 → k < 29
      → get_or (figures_of f2 file i) (6 + 29 * (p - 1) + k) nan ≡ get_or (figure_row (hour_of f2 file i) i (sheet_path i) (p - 1)) k nan
  unfolding figures_of
  figure_at p k l m b = row_to (hour_of f2 file i) i (sheet_path i) 5 (p - 1) k (omega arith) b

  -- ---- 'Rows of absent points are +0.0'
  pub absent_at : (p k : ℕ) → (sheet_path i).count < p → p ≤ 5 → k < 29 → get_or (figures_of f2 file i) (6 + 29 * (p - 1) + k) nan ≡ decimal 0 1
  unfolding figure_row
  absent_at p k c m b =
      let past : (sheet_path i).count ≤ p - 1 = omega arith in
      figure_at p k (omega arith) m b
      ∙ ap (λ (l : List Float). get_or l k nan) (cond_false (point_row (hour_of f2 file i) i (get_or (sheet_path i).points (p - 1) nowhere)) (replicate 29 (decimal 0 1)) (le-ltb (p - 1) (sheet_path i).count past))
      ∙ get_or-replicate 29 k (decimal 0 1) nan b

  -- ---- a point that is there
  count_most : (sheet_path i).count ≤ 5
  unfolding sheet_path
  count_most = most i.route.tlat i.route.tlong i.route.rlat i.route.rlong (is_long i.route.long_path) i.pole

  pub present_at : (p k : ℕ) → 1 ≤ p → p ≤ (sheet_path i).count → k < 29
      → get_or (figures_of f2 file i) (6 + 29 * (p - 1) + k) nan ≡ get_or (point_row (hour_of f2 file i) i (get_or (sheet_path i).points (p - 1) nowhere)) k nan
  unfolding figure_row
  present_at p k l c b =
      let there : p - 1 < (sheet_path i).count = omega arith in
      let m = count_most in
      figure_at p k l (omega arith) b
      ∙ ap (λ (r : List Float). get_or r k nan) (cond_true (point_row (hour_of f2 file i) i (get_or (sheet_path i).points (p - 1) nowhere)) (replicate 29 (decimal 0 1)) (lt-ltb (p - 1) (sheet_path i).count there))

  among_five : (p : ℕ) → 1 ≤ p → p ≤ (sheet_path i).count → p - 1 < 5
  among_five p l c = let m = count_most in omega arith

  row_clock : (pt : ControlPoint) → get_or (point_row (hour_of f2 file i) i pt) 20 nan ≡ clock_of i.gmt pt.lon
  unfolding point_row numbers_of
  row_clock pt = layer_clock _ i.ssn i.gmt i.psc _ pt _ _

  -- `clck` of every point shown: with the hour and both ends in range it 'is above 0 and at most
  -- 24'
  pub clock_at : Hour i.gmt → Typed i.route.tlat i.route.tlong → Typed i.route.rlat i.route.rlong
      → (p : ℕ) → 1 ≤ p → p ≤ (sheet_path i).count → OnClock (get_or (figures_of f2 file i) (6 + 29 * (p - 1) + 20) nan)
  unfolding sheet_path
  clock_at h a b p l c =
      subst OnClock (sym (present_at p 20 l c (lit< tt) ∙ row_clock (get_or (sheet_path i).points (p - 1) nowhere)))
      (point_clock i.route.tlat i.route.tlong i.route.rlat i.route.rlong a b (is_long i.route.long_path) i.pole i.gmt h (p - 1) (among_five p l c))
