-- A sheet's figures come from its inputs, its record and its month file alone: whatever the buffer
-- held, all of it is overwritten or none. And of the inputs the path, its points, the field there
-- and the ground take route and pole only. Read off the definitions. Assumes nothing.
use Rattle.std.proofs.Common.{◌≡◌, ℕ, zero, suc, ◌+◌, ◌*◌, Bool, true, false, cond, ltb, List, ◌++◌, length, get_or, take, drop, replicate, sym, refl, ap, ◌∙◌, arith, length-append, Err, Ok, Float}
use Rattle.base.specs.declared.refusal.Refusal.{Refusal}
use Rattle.base.specs.Refusal.{Verdict}
use Rattle.base.specs.Refusal.{written_over}
use Rattle.base.specs.Single.{decimal}
use Rattle.base.specs.Files.{files_check}
use Rattle.maps.specs.declared.inputs.Inputs.{Inputs}
use Rattle.maps.specs.declared.inputs.Route.{Route}
use Rattle.maps.specs.declared.inputs.MagneticPole.{MagneticPole}
use Rattle.maps.specs.declared.geometry.ControlPoint.{ControlPoint}
use Rattle.maps.specs.declared.geometry.PathGeometry.{PathGeometry}
use Rattle.maps.specs.Inputs.{is_long}
use Rattle.maps.specs.Geometry.{path_of, nowhere}
use Rattle.maps.specs.Layers.{monthly_of, ground_of}
use Rattle.maps.specs.Figures.{SheetHour, hour_from, hour_of, head_of, numbers_of, point_row, figure_row, figures_to, sheet_path, figures_of, points_or, shown_of, figures_buffer}

-- ---- 151 of them

pub row_length : (h : SheetHour) (i : Inputs) (g : PathGeometry) (p : ℕ) → length (figure_row h i g p) ≡ 29
unfolding figure_row point_row numbers_of
row_length h i g p = go (ltb p g.count)
  where
    go : (b : Bool) → length (cond b (point_row h i (get_or g.points p nowhere)) (replicate 29 (decimal 0 1))) ≡ 29
    go true = refl
    go false = refl

pub to_length : (h : SheetHour) (i : Inputs) (g : PathGeometry) (p : ℕ) → length (figures_to h i g p) ≡ 6 + 29 * p
unfolding figures_to head_of
to_length h i g zero = refl
to_length h i g (suc p) =
    length-append (figures_to h i g p) (figure_row h i g p)
    ∙ (let a = to_length h i g p in let b = row_length h i g p in omega arith)

module _ (f2 file : List ℕ) (i : Inputs) where
  -- ---- from nothing else

  -- accepted, every number is one of the figures, whatever the buffer held
  pub all_written : (b : List Float) → files_check f2 file ≡ Ok tt → figures_buffer f2 file i b ≡ figures_of f2 file i
  unfolding figures_buffer
  all_written b e = ap (λ (v : Verdict). written_over v (figures_of f2 file i) b) e

  pub same_figures : (b c : List Float) → files_check f2 file ≡ Ok tt → figures_buffer f2 file i b ≡ figures_buffer f2 file i c
  same_figures b c a = all_written b a ∙ sym (all_written c a)

  -- refused, none
  pub none_written : (b : List Float) (why : Refusal) → files_check f2 file ≡ Err why → figures_buffer f2 file i b ≡ b
  unfolding figures_buffer
  none_written b why e = ap (λ (v : Verdict). written_over v (figures_of f2 file i) b) e

  pub refused_left : (b : List Float) (why : Refusal) → shown_of f2 file i ≡ Err why → figures_buffer f2 file i b ≡ b
  unfolding shown_of figures_buffer
  refused_left b why h = go (files_check f2 file) h
    where
      go : (v : Verdict) → points_or v (sheet_path i).count ≡ Err why → written_over v (figures_of f2 file i) b ≡ b
      go (Ok _) e = let z : ◌≡◌ {A = ℕ} 0 1 = cc in absurd (omega arith)
      go (Err other) e = refl

-- ---- path and pole

-- the first seven numbers of a row are its point and the field there, the last two its ground
abbrev pub placed : List Float → List Float
placed row = take 7 row ++ drop 27 row

placed_same : (h k : SheetHour) (i j : Inputs) (g : PathGeometry) (p : ℕ) →
    ((pt : ControlPoint) → placed (point_row h i pt) ≡ placed (point_row k j pt)) →
    placed (figure_row h i g p) ≡ placed (figure_row k j g p)
unfolding figure_row
placed_same h k i j g p f = go (ltb p g.count)
  where
    go : (b : Bool) →
        placed (cond b (point_row h i (get_or g.points p nowhere)) (replicate 29 (decimal 0 1)))
        ≡
        placed (cond b (point_row k j (get_or g.points p nowhere)) (replicate 29 (decimal 0 1)))
    go true = f (get_or g.points p nowhere)
    go false = refl

point_placed : (f2 f2' file : List ℕ) (i j : Inputs) (pt : ControlPoint) →
    placed (point_row (hour_of f2 file i) i pt) ≡ placed (point_row (hour_of f2' file j) j pt)
unfolding point_row numbers_of hour_of hour_from ground_of monthly_of
point_placed f2 f2' file i j pt = refl

module _ (f2 f2' file : List ℕ) (i j : Inputs) (same_route : i.route ≡ j.route) (same_pole : i.pole ≡ j.pole) where
  same_path : sheet_path i ≡ sheet_path j
  unfolding sheet_path
  same_path =
      ap (λ (r : Route). path_of r.tlat r.tlong r.rlat r.rlong (is_long r.long_path) i.pole) same_route
      ∙ ap (λ (p : MagneticPole). path_of j.route.tlat j.route.tlong j.route.rlat j.route.rlong (is_long j.route.long_path) p) same_pole

  -- and of every row the point, the field and the ground, from one month file: whatever the month,
  -- the sunspot number, the hour, the factors and the F2 record
  pub path_and_pole :
      (p : ℕ) → placed (figure_row (hour_of f2 file i) i (sheet_path i) p) ≡ placed (figure_row (hour_of f2' file j) j (sheet_path j) p)
  path_and_pole p =
      placed_same (hour_of f2 file i) (hour_of f2' file j) i j (sheet_path i) p (point_placed f2 f2' file i j)
      ∙ ap (λ (g : PathGeometry). placed (figure_row (hour_of f2' file j) j g p)) same_path
