-- What is known of each figure of the layers, and Es finite, at a point: what a sheet's files and
-- fields give to `FiniteMaps` and `FiniteLayers`, put together. Assumes nothing.
use Rattle.std.proofs.Common.{Ok, ◌≡◌, refl, Bool, true, false, cond, List, ℕ, T, pos, negsuc, get_or, Float}
use lib.Ieee.{nan, fin, round, neg, add, mul, sub, lt, le}
use Rattle.base.specs.declared.angle.Radians.{Radians}
use Rattle.base.specs.Single.{◌⊕◌, decimal}
use Rattle.base.specs.Number.{negative, abs_of}
use Rattle.base.specs.Constants.{D2R, PI, PI2}
use Rattle.base.specs.Angle.{radians_of}
use Rattle.base.specs.Elementary.{cos32_of}
use Rattle.base.specs.Index.{index_of, index_check}
use Rattle.base.specs.Blend.{cofion_of}
use Rattle.results.proofs.numbers.Sizes.{Sized, plus_sized, between_sized, between_range, larger}
use Rattle.results.proofs.numbers.SineSizes.{cos32_sized}
use Rattle.maps.specs.declared.inputs.Inputs.{Inputs}
use Rattle.maps.specs.declared.inputs.Factors.{Factors}
use Rattle.maps.specs.declared.geometry.ControlPoint.{ControlPoint}
use Rattle.maps.specs.declared.magnetic.MagneticVars.{MagneticVars}
use Rattle.maps.specs.declared.ionosphere.versy.Gammas.{Gammas}
use Rattle.maps.specs.declared.ionosphere.layers.Monthly.{Monthly}
use Rattle.maps.specs.declared.ionosphere.layers.LayerParams.{LayerParams}
use Rattle.maps.specs.Magnetic.{o, east_of, magvar_of}
use Rattle.maps.specs.Layers.{layers_of, esind_of}
use Rattle.maps.specs.Ionosphere.{gammas_at}
use Rattle.maps.specs.Figures.{hour_from, hour_of}
use Rattle.results.proofs.clock.Clock.{farthest, Longitude}
use Rattle.maps.proofs.sheet.Checks.{good_same}
use Rattle.results.specs.FiniteOrNot.{Bounded, FactorClear, F1Clear, LayerFigures}
use Rattle.results.proofs.field.Sines.{above_away}
use Rattle.results.proofs.finite.FiniteMaps.{Plane, Full, Mapped, cofion_sized, hmym_sized, virtim_sized, gammas_sized}
use Rattle.results.proofs.finite.FiniteLayers.{Fields, Placed, Months, OffZero, EsFinite, cosine_of, monthly_sized, zenang_range, clck_finite, zenmax_sized, fi0_range, fi1_sized, fi2_sized, f2m3_sized, hpf2_number, hpf2_finite, rat_finite, abiy_number, abiy_sized, yi1_sized, hi1_sized, hi2_sized, yi2_sized, es_finite}

module _ (m : Monthly) (ssn gmt : Float) (psc : Factors) (hmym : List Float) (pt : ControlPoint) (mag : MagneticVars) (g : Gammas) where
  abbrev l : LayerParams
  l = layers_of m ssn gmt psc hmym pt mag g

  -- f2m3 is a map's value
  factor_off : FactorClear l → T (le (fin false 1 (negsuc 59)) (abs_of g.g5))
  unfolding layers_of
  factor_off t = t

  f1_off : F1Clear l → OffZero (get_or l.fi 1 nan)
  f1_off u t = above_away _ _ (u t)

  pub layer_figures : Fields ssn gmt psc → Months m → Plane hmym → Placed pt mag → Mapped g → LayerFigures (cosine_of m gmt pt) (layers_of m ssn gmt psc hmym pt mag g)
  layer_figures F K L Q G = record {
    clck = clck_finite m ssn gmt psc hmym pt mag g F.hour Q.lon;
    zenmax = (zenmax_sized m ssn gmt psc hmym pt mag g K Q.gmdip).size;
    fi0 = between_range (fi0_range m ssn gmt psc hmym pt mag g F K L Q G);
    fi1 = (fi1_sized m ssn gmt psc hmym pt mag g F K L Q G).size;
    fi2 = (fi2_sized m ssn gmt psc hmym pt mag g F K L Q G).size;
    f2m3 = (f2m3_sized m ssn gmt psc hmym pt mag g F K L Q G).size;
    zenang = λ w. between_range (zenang_range m ssn gmt psc hmym pt mag g w);
    rat = λ w. between_range (rat_finite m ssn gmt psc hmym pt mag g F K L Q G w);
    hpf2_number = hpf2_number m ssn gmt psc hmym pt mag g F K L Q G;
    abiy_number = abiy_number m ssn gmt psc hmym pt mag g F K L Q G;
    hpf2 = λ t. (hpf2_finite m ssn gmt psc hmym pt mag g t).size;
    abiy = λ t. (abiy_sized m ssn gmt psc hmym pt mag g F K L Q G t).size;
    yi1 = λ t u. (yi1_sized m ssn gmt psc hmym pt mag g F K L Q G (factor_off t) (f1_off u)).size;
    hi1 = λ t u. (hi1_sized m ssn gmt psc hmym pt mag g F K L Q G (factor_off t) (f1_off u)).size;
    hi2 = λ t u. (hi2_sized m ssn gmt psc hmym pt mag g F K L Q G (factor_off t) (f1_off u)).size;
    yi2 = λ w t u. (yi2_sized m ssn gmt psc hmym pt mag g F K L Q G (factor_off t) (f1_off u) w).size;
  }

-- ---- over a sheet's files

east_sized : (lon : Radians) → Longitude lon.0 → Sized (fin false 1 (pos 5)) (east_of lon).0
unfolding east_of radians_of D2R farthest PI PI2 decimal round abs_of negative neg add sub mul le
east_sized lon b = go (lt lon.0 o)
  where
    near : Sized (fin false 1 (pos 2)) lon.0
    near = between_sized (fin false 1 (pos 2)) tt b

    turn : Sized (fin false 1 (pos 3)) (radians_of (record { 0 = decimal 3600 1 })).0
    turn = record { size = tt }

    go : (c : Bool) → Sized (fin false 1 (pos 5)) (cond c (record { 0 = (radians_of (record { 0 = decimal 3600 1 })).0 ⊕ lon.0 }) lon).0
    go true = plus_sized (fin false 1 (pos 5)) tt turn near
    go false = larger (fin false 1 (pos 5)) tt near

module _ (f2 file : List ℕ) (i : Inputs) (held : Bounded f2 file) (passed : index_check file ≡ Ok tt) (F : Fields i.ssn i.gmt i.psc) where
  pub hour_full : Full (hour_of f2 file i).ab
  unfolding hour_of hour_from
  hour_full = virtim_sized (cofion_of f2 file i.ssn) (index_of file) i.gmt (cofion_sized f2 file held i.ssn F.sunspots) (good_same file passed refl) F.hour

  pub hour_months : Months (hour_of f2 file i).monthly
  unfolding hour_of hour_from
  hour_months = monthly_sized f2 file held i.ssn F.sunspots i.month

  pub hour_plane : Plane (hour_of f2 file i).hmym
  unfolding hour_of hour_from
  hour_plane = hmym_sized f2 file held i.ssn F.sunspots

  module _ (pt : ControlPoint) (Q : Placed pt (magvar_of pt.lat pt.lon)) where
    -- the six maps at a point, as a row of a sheet has them
    abbrev at : Gammas
    at = gammas_at (hour_of f2 file i).ab (hour_of f2 file i).index pt.lat pt.lon (magvar_of pt.lat pt.lon)

    pub point_mapped : Mapped (gammas_at (hour_of f2 file i).ab (hour_of f2 file i).index pt.lat pt.lon (magvar_of pt.lat pt.lon))
    unfolding gammas_at hour_of hour_from le
    point_mapped =
        gammas_sized (hour_of f2 file i).ab (index_of file) hour_full (good_same file passed refl) (east_of pt.lon).0 (cos32_of pt.lat.0) (east_sized pt.lon Q.lon) (cos32_sized tt Q.lat)
        (magvar_of pt.lat pt.lon).gmdip.0 pt.lat.0 Q.gmdip Q.lat

    -- Es: always finite
    pub point_es : EsFinite (esind_of at i.psc.es)
    point_es = es_finite at i.psc.es point_mapped F.es

    -- the layers
    pub point_layers :
        LayerFigures (cosine_of (hour_of f2 file i).monthly i.gmt pt)
        (layers_of (hour_of f2 file i).monthly i.ssn i.gmt i.psc (hour_of f2 file i).hmym pt (magvar_of pt.lat pt.lon) at)
    point_layers =
        layer_figures (hour_of f2 file i).monthly i.ssn i.gmt i.psc (hour_of f2 file i).hmym pt (magvar_of pt.lat pt.lon) at F hour_months hour_plane Q point_mapped
