-- A month out of 1 to 12 has no row in `SUN` and no zenith angle: what the layers are then, of
-- every file, factor and point. A NaN passes through the sines, the cosines and the sums; a test of
-- it fails, so that there is no F1 layer. Assumes nothing.
use Rattle.std.proofs.Common.{◌≡◌, refl, sym, ap, ◌∙◌, subst, ◌⊎◌, inl, inr, Bool, true, false, cond, List, ℕ, zero, suc, ◌-◌, ◌<◌, arith, T, get_or, Float, eq-eqb, ne_eqb}
use lib.ListN.{get_or-eq_default}
use lib.Ieee.{nan, binary32, neg, round, add, sub, mul, lt, le, eq, is_nan}
use Rattle.base.specs.declared.angle.Radians.{Radians}
use Rattle.base.specs.declared.angle.Degrees.{Degrees}
use Rattle.base.specs.Single.{◌⊕◌, ◌⊖◌, ◌⊗◌, ◌⊘◌, decimal}
use Rattle.base.specs.Number.{negative, abs_of, min_of}
use Rattle.base.specs.Angle.{radians_of, degrees_of}
use Rattle.base.specs.Elementary.{sin32_of, cos32_of, acos32_of}
use Rattle.base.proofs.verdicts.Picks.{cond_true, cond_false}
use Rattle.base.proofs.order.Order.{nought}
use Rattle.results.proofs.numbers.MinMax.{lt_asym}
use Rattle.results.proofs.numbers.NoNumbers.{nan_add, nan_mul, add_nan, mul_nan, div_nan, sin32_nan, acos32_nan}
use Rattle.maps.specs.declared.geometry.ControlPoint.{ControlPoint}
use Rattle.maps.specs.declared.magnetic.MagneticVars.{MagneticVars}
use Rattle.maps.specs.declared.inputs.Factors.{Factors}
use Rattle.maps.specs.declared.ionosphere.versy.Gammas.{Gammas}
use Rattle.maps.specs.declared.ionosphere.layers.Sun.{Sun}
use Rattle.maps.specs.declared.ionosphere.layers.Monthly.{Monthly}
use Rattle.maps.specs.declared.ionosphere.layers.Timvar.{Timvar}
use Rattle.maps.specs.declared.ionosphere.layers.Layer.{Layer}
use Rattle.maps.specs.declared.ionosphere.layers.Ef1.{Ef1}
use Rattle.maps.specs.declared.ionosphere.layers.Merged.{Merged}
use Rattle.maps.specs.declared.inputs.Inputs.{Inputs}
use Rattle.maps.specs.Magnetic.{magvar_of}
use Rattle.maps.specs.Ionosphere.{gammas_at}
use Rattle.maps.specs.Figures.{numbers_of, point_row, hour_from, hour_of}
use Rattle.results.specs.FiniteOrNot.{NoSun}
use Rattle.maps.specs.Noisy.{turn_of, in_plane, column_of, zz_of, latitude_sum, noisy_sum, noisy_of}
use Rattle.maps.specs.Layers.{SUN, sun, sun_of, monthly_of, ssp_of, ssl_of, zenith_of, timvar_of, f1_layer, ef1_of, rat_of, e_retardation, below_f2, retarded_of, layers_of}

-- ---- the month

pub no_sun : (month : ℕ) → (month ≡ 0) ⊎ (12 < month) → sun_of month ≡ sun nan nan
unfolding sun_of SUN
no_sun month (inl e) = cond_true _ _ (eq-eqb month 0 e)
no_sun month (inr h) = cond_false _ _ (ne_eqb month 0 (λ e. omega arith)) ∙ get_or-eq_default SUN (sun nan nan) {n = month - 1} (omega arith)

-- ---- the zenith angle

either : (b : Bool) → cond b nan nan ≡ nan
either true = refl
either false = refl

ssp_nan : (lat : Radians) → ssp_of (sun nan nan) lat ≡ nan
unfolding ssp_of radians_of mul
ssp_nan lat = either (lt (decimal 0 1) (abs_of (lat.0 ⊖ nan) ⊖ abs_of (lat.0 ⊖ nan)))

zenith_nan : (lat lon ssl : Radians) → zenith_of lat lon nan ssl ≡ nan
unfolding zenith_of
zenith_nan lat lon ssl =
    let s = sin32_of lat.0 in
    let c = cos32_of lat.0 ⊗ cos32_of nan ⊗ cos32_of (lon.0 ⊖ ssl.0) in
    ap (λ (x : Float). acos32_of (s ⊗ x ⊕ c)) sin32_nan
    ∙ ap (λ (x : Float). acos32_of (x ⊕ c)) (mul_nan binary32 s)
    ∙ ap acos32_of (nan_add binary32 c)
    ∙ acos32_nan

-- ---- the height ratio map

column_nan : (sx : ℕ → Float) (plane : List Float) (j k : ℕ) → sx 0 ≡ nan → column_of sx plane j (suc k) ≡ nan
unfolding column_of
column_nan sx plane j zero e =
    ap (λ (x : Float). decimal 0 1 ⊕ x ⊗ in_plane plane 0 j) e
    ∙ ap (λ (x : Float). decimal 0 1 ⊕ x) (nan_mul binary32 (in_plane plane 0 j))
    ∙ add_nan binary32 (decimal 0 1)
column_nan sx plane j (suc k) e =
    ap (λ (x : Float). x ⊕ sx (suc k) ⊗ in_plane plane (suc k) j) (column_nan sx plane j k e) ∙ nan_add binary32 (sx (suc k) ⊗ in_plane plane (suc k) j)

latitude_nan : (sk zz : ℕ → Float) (k : ℕ) → zz k ≡ nan → latitude_sum sk zz (suc k) ≡ nan
unfolding latitude_sum
latitude_nan sk zz k e =
    ap (λ (x : Float). latitude_sum sk zz k ⊕ sk k ⊗ x) e
    ∙ ap (λ (x : Float). latitude_sum sk zz k ⊕ x) (mul_nan binary32 (sk k))
    ∙ add_nan binary32 (latitude_sum sk zz k)

-- at no longitude
noisy_nan : (plane : List Float) (alf bet xla : Float) → noisy_of plane alf bet true xla nan ≡ nan
unfolding noisy_of noisy_sum zz_of
noisy_nan plane alf bet xla =
    let q = decimal 87266466 10 ⊗ nan in
    let sx : ℕ → Float = λ k. (turn_of (sin32_of q) (cos32_of q) k).sine in
    let p = decimal 1745329252 11 ⊗ (xla ⊕ decimal 900 1) in
    let sk : ℕ → Float = λ k. (turn_of (sin32_of p) (cos32_of p) k).sine in
    let first : sx 0 ≡ nan = unfold turn_of in (ap sin32_of (mul_nan binary32 (decimal 87266466 10)) ∙ sin32_nan) in
    let zz : ℕ → Float = λ j. column_of sx plane j 10 ⊕ in_plane plane 15 j in
    let z : zz 14 ≡ nan = ap (λ (x : Float). x ⊕ in_plane plane 15 14) (column_nan sx plane 14 9 first) ∙ nan_add binary32 (in_plane plane 15 14) in
    ap (λ (x : Float). x ⊕ alf ⊕ bet ⊗ p) (latitude_nan sk zz 14 z)
    ∙ ap (λ (x : Float). x ⊕ bet ⊗ p) (nan_add binary32 alf)
    ∙ nan_add binary32 (bet ⊗ p)

turned_nan : (b : Bool) → cond b (neg nan) nan ≡ nan
unfolding neg
turned_nan true = refl
turned_nan false = refl

rat_nan : (m : Monthly) (hmym : List Float) (gmlat : Radians) (clock : Float) → rat_of m hmym gmlat (record { 0 = nan }) clock ≡ nan
unfolding rat_of
rat_nan m hmym gmlat clock =
    let gm = (degrees_of (record { 0 = abs_of gmlat.0 })).0 ⊖ decimal 450 1 in
    let after : Float → Float = λ rat. cond (lt (rat ⊖ decimal 20 1) (decimal 0 1)) (decimal 20 1) rat in
    let at : Float → Float = λ zn. after (noisy_of hmym m.ratio_alf m.ratio_bet true gm zn) in
    ap (λ (z : Float). at (z ⊕ decimal 1800 1)) (turned_nan (lt (clock ⊖ decimal 120 1) (decimal 0 1)))
    ∙ ap at (nan_add binary32 (decimal 1800 1))
    ∙ ap after (noisy_nan hmym m.ratio_alf m.ratio_bet gm)
    ∙ unfold sub add lt in refl

-- ---- no F1 layer

-- a frequency that was 0 is kept under that of F2 and so not above 0
zero_is : decimal 0 1 ≡ nought
unfolding decimal round
zero_is = refl

lesser_of_zero : (y : Float) → lt nought (min_of nought y) ≡ false
unfolding min_of is_nan
lesser_of_zero y = go (lt y nought) refl
  where
    go : (b : Bool) → lt y nought ≡ b → lt nought (cond b y nought) ≡ false
    go true e = lt_asym y nought (subst T (sym e) tt)
    go false e = unfold lt in refl

kept_under : (y : Float) → lt (decimal 0 1) (min_of (decimal 0 1) y) ≡ false
kept_under y = ap (λ (z : Float). lt z (min_of z y)) zero_is ∙ lesser_of_zero y

module _ (m : Monthly) (ssn gmt : Float) (psc : Factors) (hmym : List Float) (pt : ControlPoint) (mag : MagneticVars) (g : Gammas) (none : m.sun ≡ sun nan nan) where
  abbrev tv : Timvar
  tv = timvar_of m.sun gmt pt.lat pt.lon

  abbrev ef1 : Ef1
  ef1 = ef1_of m ssn psc mag.gmdip tv.cycen g.g6

  abbrev hpf2 : Float
  hpf2 = decimal 14900 1 ⊘ g.g5 ⊖ decimal 1760 1

  abbrev fi2 : Float
  fi2 = (g.g4 ⊕ decimal 5 1 ⊗ mag.gyz) ⊗ psc.f2

  abbrev fc : Float
  fc = decimal 834 3 ⊗ fi2

  abbrev rat : Float
  rat = rat_of m hmym pt.gmlat ef1.zenang tv.clock

  cycen_nan : tv.cycen ≡ nan
  unfolding timvar_of
  cycen_nan =
      ap (λ (s : Sun). zenith_of pt.lat pt.lon (ssp_of s pt.lat) (ssl_of gmt)) none
      ∙ ap (λ (x : Float). zenith_of pt.lat pt.lon x (ssl_of gmt)) (ssp_nan pt.lat)
      ∙ zenith_nan pt.lat pt.lon (ssl_of gmt)

  zenang_nan : ef1.zenang ≡ record { 0 = nan }
  unfolding ef1_of degrees_of abs_of negative mul
  zenang_nan = ap (λ (c : Float). degrees_of (record { 0 = abs_of c })) cycen_nan

  f1_none : ef1.f1 ≡ record { fi = decimal 0 1; yi = decimal 0 1; hi = decimal 0 1 }
  unfolding ef1_of f1_layer degrees_of abs_of negative mul le lt eq
  f1_none =
      ap (λ (c : Float). f1_layer m psc.f1 (degrees_of (record { 0 = abs_of c })).0 (m.chi0 ⊕ m.chi1 ⊗ cos32_of mag.gmdip.0) (cos32_of (abs_of c))) cycen_nan

  under : (below_f2 ef1.f1 fi2).fi ≡ min_of (decimal 0 1) (fi2 ⊖ decimal 2 1)
  unfolding below_f2
  under = ap (λ (l : Layer). min_of l.fi (fi2 ⊖ decimal 2 1)) f1_none

  abbrev last : Merged
  last = retarded_of (below_f2 ef1.f1 fi2) (e_retardation ef1.e fc) ef1.zenmax.0 ef1.zenang.0 hpf2 rat fc fi2

  alone : last ≡ record { rft = e_retardation ef1.e fc; hi = ef1.f1.hi; yi = ef1.f1.yi }
  unfolding retarded_of below_f2
  alone = cond_false _ _ (ap (lt (decimal 0 1)) under ∙ kept_under (fi2 ⊖ decimal 2 1))

  ratio : rat ≡ nan
  ratio = ap (λ (z : Degrees). rat_of m hmym pt.gmlat z tv.clock) zenang_nan ∙ rat_nan m hmym pt.gmlat tv.clock

  no_sun_here : NoSun (layers_of m ssn gmt psc hmym pt mag g)
  unfolding layers_of
  no_sun_here =
      record {
        zenang = ap (λ (z : Degrees). z.0) zenang_nan;
        rat = ratio;
        yi2 = ap (λ (r : Float). (hpf2 ⊖ last.rft) ⊘ r) ratio ∙ div_nan binary32 (hpf2 ⊖ last.rft);
        fi1 = under;
        none = ap (lt (decimal 0 1)) under ∙ kept_under (fi2 ⊖ decimal 2 1);
        yi1 = ap (λ (v : Merged). v.yi) alone ∙ ap (λ (l : Layer). l.yi) f1_none;
        hi1 = ap (λ (v : Merged). v.hi) alone ∙ ap (λ (l : Layer). l.hi) f1_none;
      }

-- of every file, factor, point and hour
pub no_sun_layers :
    (file : List ℕ) (month : ℕ) (ssn gmt : Float) (psc : Factors) (hmym : List Float) (pt : ControlPoint) (mag : MagneticVars) (g : Gammas) →
    (month ≡ 0) ⊎ (12 < month) → NoSun (layers_of (monthly_of file month ssn) ssn gmt psc hmym pt mag g)
no_sun_layers file month ssn gmt psc hmym pt mag g out =
    no_sun_here (monthly_of file month ssn) ssn gmt psc hmym pt mag g (unfold monthly_of in no_sun month out)

-- and so in the row of every point of a sheet: `zenang`, `rat` and yi[2]
pub no_sun_row :
    (f2 file : List ℕ) (i : Inputs) (pt : ControlPoint) → (i.month ≡ 0) ⊎ (12 < i.month) →
    let row = point_row (hour_of f2 file i) i pt in (get_or row 21 nan ≡ nan) × (get_or row 18 nan ≡ nan) × (get_or row 12 nan ≡ nan)
unfolding point_row numbers_of hour_of hour_from
no_sun_row f2 file i pt out =
    let mag = magvar_of pt.lat pt.lon in
    let h = hour_of f2 file i in
    let n = no_sun_layers file i.month i.ssn i.gmt i.psc h.hmym pt mag (gammas_at h.ab h.index pt.lat pt.lon mag) out in
    (n.zenang, n.rat, n.yi2)
