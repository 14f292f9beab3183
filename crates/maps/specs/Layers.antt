-- The parts of `layer_parameters` of ionosphere.rs, TIMVAR, EF1VAR and F2VAR, expression by
-- expression in binary32 and in its names, with `esind`, `ground_constants` and `timvar_clck`. What
-- it has for a month, 'set', is `Monthly`, worked out once. Assumes nothing.
use Rattle.std.specs.Prelude.{ℕ, ◌+◌, ◌-◌, ◌*◌, true, false, cond, List, [], ◌∷◌, ◌==◌, slice_index_or, Float}
use Rattle.std.specs.Float.{nan, binary32}
use Rattle.std.specs.Float.Ieee.{neg, lt, le}
use Rattle.base.specs.declared.angle.Degrees.{Degrees}
use Rattle.base.specs.declared.angle.Radians.{Radians}
use Rattle.base.specs.Single.{◌⊕◌, ◌⊖◌, ◌⊗◌, ◌⊘◌, decimal, minus_decimal}
use Rattle.base.specs.Number.{abs_of, min_of, max_of, sqrt_of}
use Rattle.base.specs.Angle.{radians_of, degrees_of}
use Rattle.base.specs.Elementary.{sin32_of, cos32_of, acos32_of, exp32_of, ln32_of}
use Rattle.base.specs.Words.{float_at}
use Rattle.base.specs.Tables.{start_of, anew, bnew, achi, bchi, abmap}
use Rattle.maps.specs.declared.geometry.ControlPoint.{ControlPoint}
use Rattle.maps.specs.declared.magnetic.MagneticVars.{MagneticVars}
use Rattle.maps.specs.declared.inputs.Factors.{Factors}
use Rattle.maps.specs.declared.ionosphere.versy.Gammas.{Gammas}
use Rattle.maps.specs.declared.ionosphere.layers.Sun.{Sun}
use Rattle.maps.specs.declared.ionosphere.layers.Monthly.{Monthly}
use Rattle.maps.specs.declared.ionosphere.layers.Timvar.{Timvar}
use Rattle.maps.specs.declared.ionosphere.layers.Layer.{Layer}
use Rattle.maps.specs.declared.ionosphere.layers.Ef1.{Ef1}
use Rattle.maps.specs.declared.ionosphere.layers.Merged.{Merged}
use Rattle.maps.specs.declared.ionosphere.layers.LayerParams.{LayerParams}
use Rattle.maps.specs.declared.ionosphere.layers.EsParams.{EsParams}
use Rattle.maps.specs.declared.ionosphere.layers.Ground.{Ground}
use Rattle.maps.specs.Noisy.{noisy_of}

-- ---- the month

abbrev pub sun : Float → Float → Sun
sun a b = record { 0 = record { 0 = a }; 1 = record { 0 = b } }

-- `SUN`: the two latitudes of the subsolar point in each month, in the digits of the Rust
unfoldable pub SUN : List Sun
SUN =
    sun (minus_decimal 2305 2) (minus_decimal 1731 2)
    ∷ sun (minus_decimal 1730 2) (minus_decimal 789 2)
    ∷ sun (minus_decimal 788 2) (decimal 421 2)
    ∷ sun (decimal 426 2) (decimal 1483 2)
    ∷ sun (decimal 1484 2) (decimal 2193 2)
    ∷ sun (decimal 2193 2) (decimal 2345 2)
    ∷ sun (decimal 2315 2) (decimal 1823 2)
    ∷ sun (decimal 1820 2) (decimal 868 2)
    ∷ sun (decimal 855 2) (minus_decimal 286 2)
    ∷ sun (minus_decimal 290 2) (minus_decimal 1416 2)
    ∷ sun (minus_decimal 1420 2) (minus_decimal 2168 2)
    ∷ sun (minus_decimal 2166 2) (minus_decimal 2345 2)
    ∷ []

-- SUN[month - 1]; no definition decides of a month out of 1 to 12: it has no sun, and so no zenith
-- angle
unfoldable pub sun_of : ℕ → Sun
sun_of month = cond (month == 0) (sun nan nan) (slice_index_or SUN (month - 1) (sun nan nan))

-- set.a[i] + set.b[i] * ssn, of two tables of the month file
unfoldable pub term_of : List ℕ → ℕ → ℕ → ℕ → Float → Float
term_of file a b i ssn = float_at file (start_of a + 4 * i) ⊕ float_at file (start_of b + 4 * i) ⊗ ssn

-- set.abmap[c][i]
unfoldable pub abmap_at : List ℕ → ℕ → ℕ → Float
abmap_at file c i = float_at file (start_of abmap + 4 * (c * 2 + i))

unfoldable pub monthly_of : List ℕ → ℕ → Float → Monthly
monthly_of file month ssn =
    record {
      sun = sun_of month;
      chi0 = term_of file achi bchi 0 ssn;
      chi1 = term_of file achi bchi 1 ssn;
      new0 = term_of file anew bnew 0 ssn;
      new1 = term_of file anew bnew 1 ssn;
      new2 = term_of file anew bnew 2 ssn;
      land_alf = abmap_at file 0 0;
      land_bet = abmap_at file 0 1;
      ratio_alf = abmap_at file 1 0;
      ratio_bet = abmap_at file 1 1;
    }

-- ---- TIMVAR

-- document 01: '`timvar_clck` corrects once: 24 stays, 0 becomes 24'
unfoldable pub clock_of : Float → Radians → Float
clock_of gmt lon =
    let clock = gmt ⊕ lon.0 ⊘ decimal 261799387 9 in
    cond (lt (decimal 240 1 ⊖ clock) (decimal 0 1)) (clock ⊖ decimal 240 1)
    (cond (le clock (decimal 0 1)) (clock ⊕ decimal 240 1) clock)

-- `ssp`: sun[1] in radians, or sun[0] where that is the farther one. A product of two is the same
-- either way round.
unfoldable pub ssp_of : Sun → Radians → Float
ssp_of s cenlat =
    let s0 = (radians_of s.0).0 in
    let s1 = (radians_of s.1).0 in
    let cendog = abs_of (cenlat.0 ⊖ s0) in
    let cencat = abs_of (cenlat.0 ⊖ s1) in
    cond (lt (decimal 0 1) (cendog ⊖ cencat)) s0 s1

-- `ssl`, the longitude of noon
unfoldable pub ssl_of : Float → Radians
ssl_of gmt = radians_of (record { 0 = decimal 1800 1 ⊖ decimal 150 1 ⊗ gmt })

-- `cycen`
unfoldable pub zenith_of : Radians → Radians → Float → Radians → Float
zenith_of cenlat cenlg ssp ssl =
    let z = cenlg.0 ⊖ ssl.0 in
    acos32_of (sin32_of cenlat.0 ⊗ sin32_of ssp ⊕ cos32_of cenlat.0 ⊗ cos32_of ssp ⊗ cos32_of z)

-- `clock` and `cycen`
unfoldable pub timvar_of : Sun → Float → Radians → Radians → Timvar
timvar_of s gmt cenlat cenlg =
    record { clock = clock_of gmt cenlg; cycen = zenith_of cenlat cenlg (ssp_of s cenlat) (ssl_of gmt) }

-- ---- EF1VAR

-- the map's value, or where it is below 0.36 the one of midnight
unfoldable pub gamma6_of : Float → Float → Float
gamma6_of gamma6 ssn =
    cond (lt (gamma6 ⊖ decimal 36 2) (decimal 0 1))
    (decimal 36 2 ⊗ sqrt_of binary32 (decimal 10 1 ⊕ decimal 98 4 ⊗ ssn))
    gamma6

-- fi[0], yi[0] and hi[0]
unfoldable pub e_layer : Float → Float → Float → Layer
e_layer gamma6 ssn psc0 =
    record { fi = gamma6_of gamma6 ssn ⊗ psc0; yi = decimal 1100 1 ⊘ decimal 55 1; hi = decimal 1100 1 }

-- fi[1], yi[1] and hi[1] where zdeg <= zenmax, else 0.0
unfoldable pub f1_layer : Monthly → Float → Float → Float → Float → Layer
f1_layer m psc1 zdeg zenmax cosz =
    let f1 = m.new0 ⊕ m.new1 ⊗ cosz ⊕ m.new2 ⊗ cosz ⊗ cosz in
    let hi = decimal 1650 1 ⊕ decimal 6428 4 ⊗ zdeg in
    cond (le zdeg zenmax) (record { fi = f1 ⊗ psc1; yi = hi ⊘ decimal 40 1; hi = hi })
    (record { fi = decimal 0 1; yi = decimal 0 1; hi = decimal 0 1 })

unfoldable pub ef1_of : Monthly → Float → Factors → Radians → Float → Float → Ef1
ef1_of m ssn psc gmdip cycen gamma6 =
    let size = abs_of cycen in
    let zdeg = degrees_of (record { 0 = size }) in
    let zenmax = m.chi0 ⊕ m.chi1 ⊗ cos32_of gmdip.0 in
    record {
      e = e_layer gamma6 ssn psc.e;
      f1 = f1_layer m psc.f1 zdeg.0 zenmax (cos32_of size);
      zenang = zdeg;
      zenmax = record { 0 = zenmax };
    }

-- ---- TIMVAR continued

-- `rat`: the height ratio map, and 2.0 where that is below
unfoldable pub rat_of : Monthly → List Float → Radians → Degrees → Float → Float
rat_of m hmym gmlat zdeg clock =
    let gm = (degrees_of (record { 0 = abs_of gmlat.0 })).0 ⊖ decimal 450 1 in
    let zn = cond (lt (clock ⊖ decimal 120 1) (decimal 0 1)) (neg zdeg.0) zdeg.0 ⊕ decimal 1800 1 in
    let rat = noisy_of hmym m.ratio_alf m.ratio_bet true gm zn in
    cond (lt (rat ⊖ decimal 20 1) (decimal 0 1)) (decimal 20 1) rat

-- the absorption index
unfoldable pub abiy_of : Float → Float
abiy_of fi0 = minus_decimal 4 2 ⊕ exp32_of (minus_decimal 2937 3 ⊕ decimal 8445 4 ⊗ fi0)

-- ---- F2VAR

-- f * ((f + 1.0) / (f - 1.0)).ln()
unfoldable pub retard_of : Float → Float
retard_of f = f ⊗ ln32_of ((f ⊕ decimal 10 1) ⊘ (f ⊖ decimal 10 1))

-- (fc / f).max(1.1)
unfoldable pub at_least_xf1 : Float → Float → Float
at_least_xf1 fc f = max_of (fc ⊘ f) (decimal 11 1)

-- 0.5 * y * (r - 2.0)
unfoldable pub half_over : Float → Float → Float
half_over y r = decimal 5 1 ⊗ y ⊗ (r ⊖ decimal 20 1)

-- within two degrees of zenmax: F1 rises into F2 and its retardation goes to zero. hm is the height
-- that F2 would have alone.
unfoldable pub twilight_of : Layer → Float → Float → Float → Float → Float → Float → Float → Merged
twilight_of f1 ffec zmax z hm rat fc fi2 =
    let zn = zmax ⊖ decimal 20 1 in
    let hn = decimal 1650 1 ⊕ decimal 6428 4 ⊗ zn in
    let yn = hn ⊗ (f1.yi ⊘ f1.hi) in
    let rfn = half_over yn (retard_of ffec) in
    let sz = (z ⊖ zn) ⊘ decimal 20 1 in
    let rft = rfn ⊗ (decimal 10 1 ⊖ sz) in
    let ym = hm ⊘ rat in
    let dhn = hm ⊖ ym ⊖ (hn ⊖ yn) in
    let dh = dhn ⊗ (decimal 10 1 ⊖ sz) in
    let y1max = yn ⊕ (ym ⊖ yn) ⊗ (f1.fi ⊘ fi2 ⊖ decimal 834 3) ⊘ decimal 166 3 in
    let y1 = yn ⊕ (y1max ⊖ yn) ⊗ sz in
    cond (lt (decimal 0 1) dhn)
    (cond (lt (decimal 0 1) (f1.fi ⊖ fc))
    (record { rft = rft; hi = hm ⊖ ym ⊖ dh ⊕ y1; yi = y1 })
    (record { rft = rft; hi = hm ⊖ ym ⊖ dh ⊕ f1.yi; yi = f1.yi }))
    (record { rft = rft; hi = f1.hi; yi = f1.yi })

-- an F1 layer's part of the retardation, its height and its semithickness: merged only within two
-- degrees of zenmax
unfoldable pub merged_of : Layer → Float → Float → Float → Float → Float → Float → Merged
merged_of f1 zmax z hm rat fc fi2 =
    let ffec = at_least_xf1 fc f1.fi in
    cond (le (decimal 0 1) (zmax ⊖ decimal 20 1 ⊖ z))
    (record { rft = half_over f1.yi (retard_of ffec); hi = f1.hi; yi = f1.yi })
    (twilight_of f1 ffec zmax z hm rat fc fi2)

-- `ret` of the E layer
unfoldable pub e_retardation : Layer → Float → Float
e_retardation e fc = (retard_of (at_least_xf1 fc e.fi) ⊖ decimal 20 1) ⊗ e.yi

-- the F1 layer, its frequency kept under that of F2
unfoldable pub below_f2 : Layer → Float → Layer
below_f2 f1 fi2 = record { fi = min_of f1.fi (fi2 ⊖ decimal 2 1); yi = f1.yi; hi = f1.hi }

-- `ret`, hi[1] and yi[1] in the end: where there is an F1 layer it adds to the retardation
unfoldable pub retarded_of : Layer → Float → Float → Float → Float → Float → Float → Float → Merged
retarded_of f1 ret zmax z hpf2 rat fc fi2 =
    let m = merged_of f1 zmax z (hpf2 ⊖ ret) rat fc fi2 in
    cond (lt (decimal 0 1) f1.fi) (record { rft = ret ⊕ m.rft; hi = m.hi; yi = m.yi })
    (record { rft = ret; hi = f1.hi; yi = f1.yi })

-- ---- the layers at a point

unfoldable pub layers_of :
    Monthly → Float → Float → Factors → List Float → ControlPoint → MagneticVars → Gammas → LayerParams
layers_of m ssn gmt psc hmym pt mag g =
    let t = timvar_of m.sun gmt pt.lat pt.lon in
    let ef1 = ef1_of m ssn psc mag.gmdip t.cycen g.g6 in
    let rat = rat_of m hmym pt.gmlat ef1.zenang t.clock in
    let hpf2 = decimal 14900 1 ⊘ g.g5 ⊖ decimal 1760 1 in
    let fi2 = (g.g4 ⊕ decimal 5 1 ⊗ mag.gyz) ⊗ psc.f2 in
    let f1 = below_f2 ef1.f1 fi2 in
    let fc = decimal 834 3 ⊗ fi2 in
    let v = retarded_of f1 (e_retardation ef1.e fc) ef1.zenmax.0 ef1.zenang.0 hpf2 rat fc fi2 in
    let hi2 = hpf2 ⊖ v.rft in
    record {
      fi = ef1.e.fi ∷ f1.fi ∷ fi2 ∷ [];
      yi = ef1.e.yi ∷ v.yi ∷ hi2 ⊘ rat ∷ [];
      hi = ef1.e.hi ∷ v.hi ∷ hi2 ∷ [];
      f2m3 = g.g5;
      hpf2 = hpf2;
      rat = rat;
      abiy = abiy_of ef1.e.fi;
      clck = t.clock;
      zenang = ef1.zenang;
      zenmax = ef1.zenmax;
    }

-- ---- ESIND: '`fs` is map 3, 2, 1'

unfoldable pub esind_of : Gammas → Float → EsParams
esind_of g psc3 = record { fs = g.g3 ⊗ psc3 ∷ g.g2 ⊗ psc3 ∷ g.g1 ⊗ psc3 ∷ []; hs = decimal 1100 1 }

-- ---- the ground: 'at or above 0 is (0.001, 4.0), otherwise, NaN included, (5.0, 80.0)'

unfoldable pub ground_at : Float → Ground
ground_at wld =
    cond (le (decimal 0 1) wld)
    (record { 0 = decimal 1 3; 1 = decimal 40 1 })
    (record { 0 = decimal 50 1; 1 = decimal 800 1 })

unfoldable pub ground_of : Monthly → List Float → Radians → Radians → Ground
ground_of m fakmap lat east_lon =
    let clgd = (degrees_of east_lon).0 in
    let east = cond (lt clgd (decimal 0 1)) (clgd ⊕ decimal 3600 1) clgd in
    ground_at (noisy_of fakmap m.land_alf m.land_bet false (degrees_of lat).0 east)
