-- The series of CCIR Report 340 among a sheet's figures: the six map values of each point are Omega
-- at the point, and foE, foF2, the M3000 factor and the Es frequencies stand among its 29 numbers
-- as they come of them. By the places of the figures. Assumes nothing.
use Rattle.std.proofs.Common.{Ok, cond, ◌≡◌, refl, ap, ◌∙◌, List, ℕ, ◌+◌, ◌-◌, ◌*◌, ◌≤◌, lit<, get_or, Float}
use lib.Ieee.{nan, binary32, lt}
use Rattle.base.specs.Single.{◌⊗◌, ◌⊕◌, ◌⊖◌, decimal}
use Rattle.base.specs.Number.{sqrt_of}
use Rattle.base.specs.Elementary.{cos32_of}
use Rattle.base.specs.Index.{index_check}
use Rattle.maps.specs.declared.geometry.ControlPoint.{ControlPoint}
use Rattle.maps.specs.declared.inputs.Inputs.{Inputs}
use Rattle.maps.specs.declared.ionosphere.versy.Gammas.{Gammas}
use Rattle.maps.specs.Magnetic.{east_of, magvar_of}
use Rattle.maps.specs.Geometry.{nowhere}
use Rattle.maps.specs.Layers.{layers_of, esind_of, gamma6_of, e_layer, ef1_of}
use Rattle.maps.specs.Ionosphere.{hour_maps_of, gammas_at}
use Rattle.maps.specs.Figures.{hour_from, hour_of, numbers_of, point_row, sheet_path, figures_of}
use Rattle.results.specs.AsInTheRust.{omega_from}
use Rattle.results.proofs.series.Report340.{six_series}
use Rattle.results.proofs.sheet.FigurePlaces.{present_at}

module _ (f2 file : List ℕ) (i : Inputs) (passed : index_check file ≡ Ok tt) where
  -- Omega at a point, at its dip or its latitude
  abbrev Omega : ControlPoint → ℕ → Float → Float
  Omega pt = omega_from f2 file i.ssn i.gmt (east_of pt.lon).0 (cos32_of pt.lat.0)

  abbrev Dip : ControlPoint → Float
  Dip pt = (magvar_of pt.lat pt.lon).gmdip.0

  abbrev Maps : ControlPoint → Gammas
  Maps pt = gammas_at (hour_of f2 file i).ab (hour_of f2 file i).index pt.lat pt.lon (magvar_of pt.lat pt.lon)

  abbrev Series : ControlPoint → Gammas
  Series pt =
      record {
        g1 = Omega pt 0 (Dip pt);
        g2 = Omega pt 1 (Dip pt);
        g3 = Omega pt 2 (Dip pt);
        g4 = Omega pt 3 (Dip pt);
        g5 = Omega pt 4 (Dip pt);
        g6 = Omega pt 5 pt.lat.0;
      }

  -- the six map values that a point's numbers are worked from
  pub point_series : (pt : ControlPoint) → Maps pt ≡ Series pt
  unfolding gammas_at hour_of hour_from hour_maps_of
  point_series pt = six_series f2 file i.ssn i.gmt _ _ _ _ passed

  -- the sixth map's value, or where it is below 0.36 the one of midnight
  abbrev or_midnight : Float → Float
  or_midnight e =
      cond (lt (e ⊖ decimal 36 2) (decimal 0 1)) (decimal 36 2 ⊗ sqrt_of binary32 (decimal 10 1 ⊕ decimal 98 4 ⊗ i.ssn)) e

  -- what comes of them among its numbers: `fi[0]`, `fi[2]`, `f2m3`, and `fs` of the maps 3, 2, 1
  row_maps :
      (pt : ControlPoint) → let row = point_row (hour_of f2 file i) i pt in
      (get_or row 7 nan ≡ or_midnight (Maps pt).g6 ⊗ i.psc.e)
      × (get_or row 9 nan ≡ ((Maps pt).g4 ⊕ decimal 5 1 ⊗ (magvar_of pt.lat pt.lon).gyz) ⊗ i.psc.f2)
      × (get_or row 16 nan ≡ (Maps pt).g5)
      × (get_or row 23 nan ≡ (Maps pt).g3 ⊗ i.psc.es)
      × (get_or row 24 nan ≡ (Maps pt).g2 ⊗ i.psc.es)
      × (get_or row 25 nan ≡ (Maps pt).g1 ⊗ i.psc.es)
  unfolding point_row numbers_of layers_of ef1_of e_layer gamma6_of esind_of
  row_maps pt = (refl, refl, refl, refl, refl, refl)

  module _ (p : ℕ) (l : 1 ≤ p) (c : p ≤ (sheet_path i).count) where
    abbrev Pt : ControlPoint
    Pt = get_or (sheet_path i).points (p - 1) nowhere

    abbrev Figure : ℕ → Float
    Figure k = get_or (figures_of f2 file i) (6 + 29 * (p - 1) + k) nan

    pub figure_series :
        (Figure 7 ≡ or_midnight (Omega Pt 5 Pt.lat.0) ⊗ i.psc.e)
        × (Figure 9 ≡ (Omega Pt 3 (Dip Pt) ⊕ decimal 5 1 ⊗ (magvar_of Pt.lat Pt.lon).gyz) ⊗ i.psc.f2)
        × (Figure 16 ≡ Omega Pt 4 (Dip Pt))
        × (Figure 23 ≡ Omega Pt 2 (Dip Pt) ⊗ i.psc.es)
        × (Figure 24 ≡ Omega Pt 1 (Dip Pt) ⊗ i.psc.es)
        × (Figure 25 ≡ Omega Pt 0 (Dip Pt) ⊗ i.psc.es)
    figure_series =
        let r = row_maps Pt in
        let s = point_series Pt in (
          present_at f2 file i p 7 l c (lit< tt) ∙ r.0 ∙ ap (λ (g : Gammas). or_midnight g.g6 ⊗ i.psc.e) s,
          present_at f2 file i p 9 l c (lit< tt) ∙ r.1
              ∙ ap (λ (g : Gammas). (g.g4 ⊕ decimal 5 1 ⊗ (magvar_of Pt.lat Pt.lon).gyz) ⊗ i.psc.f2) s,
          present_at f2 file i p 16 l c (lit< tt) ∙ r.2 ∙ ap (λ (g : Gammas). g.g5) s,
          present_at f2 file i p 23 l c (lit< tt) ∙ r.3 ∙ ap (λ (g : Gammas). g.g3 ⊗ i.psc.es) s,
          present_at f2 file i p 24 l c (lit< tt) ∙ r.4 ∙ ap (λ (g : Gammas). g.g2 ⊗ i.psc.es) s,
          present_at f2 file i p 25 l c (lit< tt) ∙ r.5 ∙ ap (λ (g : Gammas). g.g1 ⊗ i.psc.es) s,
        )
