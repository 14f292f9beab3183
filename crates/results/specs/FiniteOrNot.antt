-- Can a figure be NaN? What is proved of it, over the 151 figures of a sheet, with the conditions
-- that the answers need. The proofs are in proofs/FiniteOrNot.antt. Assumes nothing.
use Rattle.std.specs.Prelude.{◌≡◌, ◌⊎◌, Bool, true, false, not, cond, List, ℕ, ◌+◌, ◌-◌, ◌*◌, ◌≤◌, ◌<◌, T, eqb, leb, ℤ, pos, negsuc, get_or, Float, Ok}
use Rattle.std.specs.Float.{nan, inf, fin, binary32}
use Rattle.std.specs.Float.Ieee.{of_bits, lt, le, is_nan}
use Rattle.std.specs.Float.Ieee.Scale.{finite}
use Rattle.base.specs.declared.angle.Degrees.{Degrees}
use Rattle.base.specs.declared.angle.Radians.{Radians}
use Rattle.base.specs.Single.{◌⊕◌, ◌⊖◌, ◌⊗◌, ◌⊘◌, decimal, minus_decimal}
use Rattle.base.specs.Double.{fraction}
use Rattle.base.specs.Number.{abs_of, min_of, sqrt_of}
use Rattle.base.specs.Angle.{radians_of}
use Rattle.base.specs.Elementary.{sin32_of, cos32_of}
use Rattle.base.specs.Ranges.{is_to, is_month}
use Rattle.base.specs.Words.{float_at}
use Rattle.base.specs.Tables.{start_of, words_of, xf2cof, xfm3cf, anew}
use Rattle.base.specs.Index.{index_check}
use Rattle.base.specs.Blend.{blend_of, f2_weights, fakmap_of}
use Rattle.base.specs.Finite.{FiniteRecord, FiniteMonth}
use Rattle.base.specs.Files.{files_check}
use Rattle.maps.specs.declared.inputs.Inputs.{Inputs}
use Rattle.maps.specs.declared.inputs.Factors.{Factors}
use Rattle.maps.specs.declared.geometry.ControlPoint.{ControlPoint}
use Rattle.maps.specs.declared.magnetic.MagneticVars.{MagneticVars}
use Rattle.maps.specs.declared.ionosphere.versy.Gammas.{Gammas}
use Rattle.maps.specs.declared.ionosphere.layers.Monthly.{Monthly}
use Rattle.maps.specs.declared.ionosphere.layers.LayerParams.{LayerParams}
use Rattle.maps.specs.declared.ionosphere.layers.EsParams.{EsParams}
use Rattle.maps.specs.declared.ionosphere.layers.Ground.{Ground}
use Rattle.maps.specs.Geometry.{nowhere}
use Rattle.maps.specs.Magnetic.{HC, bv_of, bn_of, magfin_of, magvar_of}
use Rattle.maps.specs.Layers.{sun_of, ssp_of, ssl_of, monthly_of, layers_of, esind_of, ground_of}
use Rattle.maps.specs.Ionosphere.{gammas_at}
use Rattle.maps.specs.Figures.{hour_of, numbers_of, point_row, sheet_path, figures_of}
use Rattle.worksheet.specs.declared.desks.Worksheet.{Worksheet}
use Rattle.worksheet.specs.Inputs.{inputs_check}
use Rattle.worksheet.specs.Showing.{Source, inputs_shown}
use Rattle.worksheet.specs.Journal.{show, shown, step}

-- ---- of what it is said

-- x is a number of at most 2 ^ n in size
abbrev pub UpToPower : ℕ → Float → Type 0
UpToPower n x = T (le (abs_of x) (fin false 1 (pos n)))

-- 'degrees, -90 to 90 and -180 to 180'
pub record PlaceInRange (latd lond : Degrees) : Type 0 where
  pub latitude : T (is_to (minus_decimal 90 0) (decimal 90 0) latd.0)
  pub longitude : T (is_to (minus_decimal 180 0) (decimal 180 0) lond.0)

-- both ends of a sheet's route are in range; the flag may be any word
pub record EndsInRange (i : Inputs) : Type 0 where
  pub transmitter : PlaceInRange i.route.tlat i.route.tlong
  pub receiver : PlaceInRange i.route.rlat i.route.rlong

-- and so is the pole
pub record RouteInRange (i : Inputs) : Type 0 where
  pub ends : EndsInRange i
  pub pole : PlaceInRange i.pole.lat i.pole.lon

-- 'hour 0 to 24 (GMT)'
abbrev pub HourInRange : Inputs → Type 0
HourInRange i = T (is_to (decimal 0 1) (decimal 24 0) i.gmt)

-- 'sunspot number 0 to 300', the hour, 'four factors 0.125 to 8'
pub record FieldsInRange (i : Inputs) : Type 0 where
  pub sunspots : T (is_to (decimal 0 1) (decimal 300 0) i.ssn)
  pub hour : HourInRange i
  pub e : T (is_to (decimal 125 3) (decimal 8 0) i.psc.e)
  pub f1 : T (is_to (decimal 125 3) (decimal 8 0) i.psc.f1)
  pub f2 : T (is_to (decimal 125 3) (decimal 8 0) i.psc.f2)
  pub es : T (is_to (decimal 125 3) (decimal 8 0) i.psc.es)

-- the tables of the month file that figures read numbers from: `xfm3cf`, and `anew` to `xercof`
-- (`ikim`, which they read too, has whole numbers; a number above 20 has no words)
abbrev pub is_read : ℕ → Bool
is_read table = cond (eqb table xfm3cf) true (leb anew table)

-- each word of the F2 planes and of those tables is a number of at most 65,536 in size
pub record Bounded (f2 file : List ℕ) : Type 0 where
  pub in_f2 : (n : ℕ) → n < words_of xf2cof → UpToPower 16 (float_at f2 (4 * n))
  pub in_month :
      (table n : ℕ) → T (is_read table) → n < words_of table → UpToPower 16 (float_at file (start_of table + 4 * n))

-- what the layers need: every field but the month and the flag in range, an index table that
-- passes, and bounded words
pub record SoundSheet (f2 file : List ℕ) (i : Inputs) : Type 0 where
  pub route : RouteInRange i
  pub fields : FieldsInRange i
  pub index : index_check file ≡ Ok tt
  pub bounded : Bounded f2 file

-- the point p of a sheet, counted from 1, is one of those that its path has
pub record PointThere (i : Inputs) (p : ℕ) : Type 0 where
  pub first : 1 ≤ p
  pub last : p ≤ (sheet_path i).count

-- number k of the point p, in its place among the 151
abbrev pub point_number : List ℕ → List ℕ → Inputs → ℕ → ℕ → Float
point_number f2 file i p k = get_or (figures_of f2 file i) (6 + 29 * (p - 1) + k) nan

-- what the row of the point p is made of: the point, the field, the maps, the layers, Es and the
-- ground there
abbrev pub sheet_point : Inputs → ℕ → ControlPoint
sheet_point i p = get_or (sheet_path i).points (p - 1) nowhere

abbrev pub sheet_field : Inputs → ℕ → MagneticVars
sheet_field i p = magvar_of (sheet_point i p).lat (sheet_point i p).lon

abbrev pub sheet_maps : List ℕ → List ℕ → Inputs → ℕ → Gammas
sheet_maps f2 file i p =
    let h = hour_of f2 file i in
    gammas_at h.ab h.index (sheet_point i p).lat (sheet_point i p).lon (sheet_field i p)

abbrev pub sheet_layers : List ℕ → List ℕ → Inputs → ℕ → LayerParams
sheet_layers f2 file i p =
    let h = hour_of f2 file i in
    layers_of h.monthly i.ssn i.gmt i.psc h.hmym (sheet_point i p) (sheet_field i p) (sheet_maps f2 file i p)

abbrev pub sheet_es : List ℕ → List ℕ → Inputs → ℕ → EsParams
sheet_es f2 file i p = esind_of (sheet_maps f2 file i p) i.psc.es

abbrev pub sheet_ground : List ℕ → List ℕ → Inputs → ℕ → Ground
sheet_ground f2 file i p =
    let h = hour_of f2 file i in ground_of h.monthly h.fakmap (sheet_point i p).lat (sheet_field i p).east_lon

-- these in document 01's order
abbrev pub sheet_row : List ℕ → List ℕ → Inputs → ℕ → List Float
sheet_row f2 file i p =
    let l = sheet_layers f2 file i p in
    numbers_of (sheet_point i p) (sheet_field i p) l (sheet_es f2 file i p) (sheet_ground f2 file i p)

-- the cosine whose arc cosine `cycen` is: sin * sin + cos * cos * cos
unfoldable pub zenith_cosine : Radians → Radians → Float → Radians → Float
zenith_cosine cenlat cenlg ssp ssl =
    sin32_of cenlat.0 ⊗ sin32_of ssp ⊕ cos32_of cenlat.0 ⊗ cos32_of ssp ⊗ cos32_of (cenlg.0 ⊖ ssl.0)

-- that cosine at the point p
abbrev pub sheet_cosine : Inputs → ℕ → Float
sheet_cosine i p =
    let pt = sheet_point i p in zenith_cosine pt.lat pt.lon (ssp_of (sun_of i.month) pt.lat) (ssl_of i.gmt)

-- ---- demand 2, the figures: what the names below are among the 151

-- Number k of a point that is there is number k of the point's four, the three of the field, the 16
-- of the layers, the four of Es and the ground pair, in this order.
abbrev pub PointNumbers : Type 0
PointNumbers =
    (f2 file : List ℕ) (i : Inputs) (p k : ℕ) → PointThere i p → k < 29 →
    point_number f2 file i p k ≡ get_or (sheet_row f2 file i p) k nan

-- Inputs that the worksheet accepts have every field in range, but for the flag and the model, of
-- which nothing is said here.
abbrev pub AcceptedInRange : Type 0
AcceptedInRange = (i : Inputs) → inputs_check i ≡ Ok tt → RouteInRange i × FieldsInRange i × T (is_month i.month)

-- ---- demand 2, the path and the field: no NaN and no infinity, whatever the files

-- With both ends in range the six figures of the path are finite, whatever the pole.
abbrev pub SheetPathFinite : Type 0
SheetPathFinite =
    (f2 file : List ℕ) (i : Inputs) → EndsInRange i → (k : ℕ) → k < 6 → T (finite (get_or (figures_of f2 file i) k nan))

-- With the pole in range too, so are the first seven numbers of every point that is there: its own
-- four and the field's three.
abbrev pub SheetPointFinite : Type 0
SheetPointFinite =
    (f2 file : List ℕ) (i : Inputs) (p : ℕ) → RouteInRange i → PointThere i p →
    (k : ℕ) → k < 7 → T (finite (point_number f2 file i p k))

-- The field 300 km up is zero nowhere: for each number c from -1 to 1 as the sine of the latitude
-- and each longitude from 0 to 101/16, a little over a turn, bv or bn is 1/64 at least in size.
abbrev pub FieldNotZero : Type 0
FieldNotZero =
    (c : Float) (phi : Radians) → T (is_to (fin true 1 (pos 0)) (fin false 1 (pos 0)) c) →
    T (is_to (fin false 0 (pos 0)) (fin false 101 (negsuc 3)) phi.0) →
    let s = sqrt_of binary32 (decimal 10 1 ⊖ c ⊗ c) in
    let ar = HC ⊘ (HC ⊕ decimal 3000000 1) in
    T (le (fin false 1 (negsuc 5)) (abs_of (bv_of c s phi ar)))
    ⊎ T (le (fin false 1 (negsuc 5)) (abs_of (bn_of c s phi ar)))

-- So at every latitude that is a number, and at each such longitude, `magfin` gives an up or a
-- north of 1/64 at least in size.
abbrev pub UneNotZero : Type 0
UneNotZero =
    (lat east_lon : Radians) → T (not (is_nan lat.0)) →
    T (is_to (fin false 0 (pos 0)) (fin false 101 (negsuc 3)) east_lon.0) →
    let une = magfin_of lat east_lon (decimal 3000000 1) in
    T (le (fin false 1 (negsuc 5)) (abs_of une.up)) ⊎ T (le (fin false 1 (negsuc 5)) (abs_of une.north))

-- ---- demand 2, the ground and the constants, whatever inputs and files

-- (0.001, 4.0)
abbrev pub land_pair : Ground
land_pair = record { 0 = decimal 1 3; 1 = decimal 40 1 }

-- (5.0, 80.0)
abbrev pub sea_pair : Ground
sea_pair = record { 0 = decimal 50 1; 1 = decimal 800 1 }

-- The ground is one of the two pairs, whatever the month's numbers, the land map and the place.
abbrev pub GroundPair : Type 0
GroundPair =
    (m : Monthly) (fakmap : List Float) (lat east : Radians) →
    (ground_of m fakmap lat east ≡ land_pair) ⊎ (ground_of m fakmap lat east ≡ sea_pair)

-- Numbers 27 and 28 of every point that is there are finite, in range or not.
abbrev pub SheetGroundFinite : Type 0
SheetGroundFinite =
    (f2 file : List ℕ) (i : Inputs) (p : ℕ) → PointThere i p →
    (k : ℕ) → k < 2 → T (finite (point_number f2 file i p (27 + k)))

-- The E layer's semithickness is 20 km and its height 110 km, of all arguments.
abbrev pub EHeight : Type 0
EHeight =
    (m : Monthly) (ssn gmt : Float) (psc : Factors) (hmym : List Float)
    (pt : ControlPoint) (mag : MagneticVars) (g : Gammas) →
    let l = layers_of m ssn gmt psc hmym pt mag g in
    (get_or l.yi 0 nan ≡ decimal 200 1) × (get_or l.hi 0 nan ≡ decimal 1100 1)

-- The height of Es is 110 km, of all arguments.
abbrev pub EsHeight : Type 0
EsHeight = (g : Gammas) (psc3 : Float) → (esind_of g psc3).hs ≡ decimal 1100 1

-- ---- demand 2, the maps, Es and the layers at every point of a sound sheet

-- two files that the checks accept, and with which a sheet is sound
pub record SoundFiles (i : Inputs) : Type 0 where
  pub f2 : List ℕ
  pub file : List ℕ
  pub accepted : files_check f2 file ≡ Ok tt
  pub sound : SoundSheet f2 file i

-- A sheet is sound if every field but month, flag and model is in range, the index table passes, and every
-- word of the F2 planes and of each table that figures read numbers from (`is_read`) is a number of
-- at most 65,536 in size. For all inputs with those fields in range there are files that the checks
-- accept, and with which the sheet is sound (`SoundFiles`).
abbrev pub SoundSheets : Type 0
SoundSheets = (i : Inputs) → RouteInRange i → FieldsInRange i → SoundFiles i

-- each of the six map values is a number of at most 2 ^ 50 in size
pub record MapsBounded (g : Gammas) : Type 0 where
  pub g1 : UpToPower 50 g.g1
  pub g2 : UpToPower 50 g.g2
  pub g3 : UpToPower 50 g.g3
  pub g4 : UpToPower 50 g.g4
  pub g5 : UpToPower 50 g.g5
  pub g6 : UpToPower 50 g.g6

-- The six map values are finite, at most 2 ^ 50 in size.
abbrev pub PointMapped : Type 0
PointMapped =
    (f2 file : List ℕ) (i : Inputs) (p : ℕ) → SoundSheet f2 file i → PointThere i p →
    MapsBounded (sheet_maps f2 file i p)

-- Numbers 23 to 26, the three frequencies of Es and its height, are finite.
abbrev pub SheetEsFinite : Type 0
SheetEsFinite =
    (f2 file : List ℕ) (i : Inputs) (p : ℕ) → SoundSheet f2 file i → PointThere i p →
    (k : ℕ) → k < 4 → T (finite (point_number f2 file i p (23 + k)))

-- f2m3 is 2 ^ -60 at least in size
abbrev pub FactorClear : LayerParams → Type 0
FactorClear l = T (le (fin false 1 (negsuc 59)) (abs_of l.f2m3))

-- fi[1] is 2 ^ -40 at least, if it is above 0
abbrev pub F1Clear : LayerParams → Type 0
F1Clear l = T (lt (decimal 0 1) (get_or l.fi 1 nan)) → T (le (fin false 1 (negsuc 39)) (get_or l.fi 1 nan))

-- fi[0] is at most 56 MHz
abbrev pub EClear : LayerParams → Type 0
EClear l = T (le (get_or l.fi 0 nan) (decimal 560 1))

-- the cosine c is a number of at most 1 in size
abbrev pub CosineClear : Float → Type 0
CosineClear c = T (le (abs_of c) (fraction 1 1))

-- what is known of each figure of the layers l, where the cosine is c; yi[0] and hi[0] are
-- constants
pub record LayerFigures (c : Float) (l : LayerParams) : Type 0 where
  -- finite
  pub clck : T (finite l.clck)
  pub zenmax : UpToPower 27 l.zenmax.0
  pub fi0 : T (is_to (fin false 1 (negsuc 4)) (fin false 1 (pos 53)) (get_or l.fi 0 nan))
  pub fi1 : UpToPower 55 (get_or l.fi 1 nan)
  pub fi2 : UpToPower 54 (get_or l.fi 2 nan)
  pub f2m3 : UpToPower 50 l.f2m3
  -- where the cosine is at most 1 in size, from 0 to 230 degrees, and from 1 to 2 ^ 111
  pub zenang : CosineClear c → T (is_to (decimal 0 1) (decimal 2300 1) l.zenang.0)
  pub rat : CosineClear c → T (is_to (fin false 1 (pos 0)) (fin false 1 (pos 111)) l.rat)
  -- never NaN
  pub hpf2_number : T (not (is_nan l.hpf2))
  pub abiy_number : T (not (is_nan l.abiy))
  -- finite under conditions
  pub hpf2 : FactorClear l → UpToPower 71 l.hpf2
  pub abiy : EClear l → UpToPower 125 l.abiy
  pub yi1 : FactorClear l → F1Clear l → UpToPower 126 (get_or l.yi 1 nan)
  pub hi1 : FactorClear l → F1Clear l → UpToPower 126 (get_or l.hi 1 nan)
  pub hi2 : FactorClear l → F1Clear l → UpToPower 126 (get_or l.hi 2 nan)
  pub yi2 : CosineClear c → FactorClear l → F1Clear l → UpToPower 126 (get_or l.yi 2 nan)

-- At every point that is there of a sound sheet (`LayerFigures`): `clck`, `zenmax`, the three fi
-- and f2m3 are finite, and `hpf2` and `abiy` are no NaN. Where the zenith angle's cosine is at most
-- 1 in size, `zenang` is from 0 to 230 degrees and `rat` from 1 to 2 ^ 111. Where f2m3 is 2 ^ -60
-- at least in size, `hpf2` is finite; where besides fi[1] is 2 ^ -40 at least or not above 0, so
-- are yi[1], hi[1] and hi[2], and with that cosine yi[2]. Where fi[0] is at most 56 MHz, `abiy` is
-- finite.
abbrev pub SheetLayers : Type 0
SheetLayers =
    (f2 file : List ℕ) (i : Inputs) (p : ℕ) → SoundSheet f2 file i → PointThere i p →
    LayerFigures (sheet_cosine i p) (sheet_layers f2 file i p)

-- the four conditions together
pub record Ordinary (c : Float) (l : LayerParams) : Type 0 where
  pub cosine : CosineClear c
  pub f2m3 : FactorClear l
  pub f1 : F1Clear l
  pub e : EClear l

-- Where all four conditions hold (that cosine at most 1 in size, f2m3 2 ^ -60 at least in size,
-- fi[1] 2 ^ -40 at least or not above 0, fi[0] at most 56 MHz), all 29 numbers of the point are
-- finite.
abbrev pub SheetFinite : Type 0
SheetFinite =
    (f2 file : List ℕ) (i : Inputs) (p : ℕ) → SoundSheet f2 file i → PointThere i p →
    Ordinary (sheet_cosine i p) (sheet_layers f2 file i p) → (k : ℕ) → k < 29 → T (finite (point_number f2 file i p k))

-- ---- demand 2, where a figure is NaN or infinite

-- Whatever inputs and files: where the cosine whose arc cosine the zenith angle is (`sheet_cosine`)
-- is a number of at most 1 in size, `zenang` is from 0 to 230 degrees.
abbrev pub ZenangRange : Type 0
ZenangRange =
    (f2 file : List ℕ) (i : Inputs) (p : ℕ) → CosineClear (sheet_cosine i p) →
    T (is_to (decimal 0 1) (decimal 2300 1) (sheet_layers f2 file i p).zenang.0)

-- With both ends, hour and month in range, and whatever the rest: where the cosine came out beyond
-- 1 in size, `zenang` is NaN,
abbrev pub BeyondNone : Type 0
BeyondNone =
    (f2 file : List ℕ) (i : Inputs) (p : ℕ) → EndsInRange i → HourInRange i → T (is_month i.month) →
    PointThere i p → T (lt (fraction 1 1) (abs_of (sheet_cosine i p))) → (sheet_layers f2 file i p).zenang.0 ≡ nan

-- and nowhere else.
abbrev pub NoneBeyond : Type 0
NoneBeyond =
    (f2 file : List ℕ) (i : Inputs) (p : ℕ) → EndsInRange i → HourInRange i → T (is_month i.month) →
    PointThere i p → (sheet_layers f2 file i p).zenang.0 ≡ nan → T (lt (fraction 1 1) (abs_of (sheet_cosine i p)))

-- It happens at a point that is given: of longitude +0 and latitude -14.83 degrees (times D2R), in
-- April at hour 0, `zenang` is NaN, whatever the rest. That a route has this point is not stated.
abbrev pub ZenangExample : Type 0
ZenangExample =
    (file : List ℕ) (ssn : Float) (psc : Factors) (hmym : List Float)
    (pt : ControlPoint) (mag : MagneticVars) (g : Gammas) →
    pt.lat ≡ radians_of (record { 0 = minus_decimal 1483 2 }) → pt.lon ≡ record { 0 = decimal 0 1 } →
    (layers_of (monthly_of file 4 ssn) ssn (decimal 0 1) psc hmym pt mag g).zenang.0 ≡ nan

-- Of all arguments: where `zenang` is NaN, so is `rat`,
abbrev pub RatNan : Type 0
RatNan =
    (m : Monthly) (ssn gmt : Float) (psc : Factors) (hmym : List Float)
    (pt : ControlPoint) (mag : MagneticVars) (g : Gammas) →
    let l = layers_of m ssn gmt psc hmym pt mag g in l.zenang.0 ≡ nan → l.rat ≡ nan

-- and so is yi[2].
abbrev pub Yi2Nan : Type 0
Yi2Nan =
    (m : Monthly) (ssn gmt : Float) (psc : Factors) (hmym : List Float)
    (pt : ControlPoint) (mag : MagneticVars) (g : Gammas) →
    let l = layers_of m ssn gmt psc hmym pt mag g in l.zenang.0 ≡ nan → get_or l.yi 2 nan ≡ nan

-- Of all arguments: where f2m3 is 2 ^ -60 at least in size, `hpf2` is finite,
abbrev pub Hpf2Finite : Type 0
Hpf2Finite =
    (m : Monthly) (ssn gmt : Float) (psc : Factors) (hmym : List Float)
    (pt : ControlPoint) (mag : MagneticVars) (g : Gammas) →
    let l = layers_of m ssn gmt psc hmym pt mag g in FactorClear l → UpToPower 71 l.hpf2

-- and where f2m3 is a zero, `hpf2` is the infinity of its sign.
abbrev pub Hpf2AtZero : Type 0
Hpf2AtZero =
    (m : Monthly) (ssn gmt : Float) (psc : Factors) (hmym : List Float)
    (pt : ControlPoint) (mag : MagneticVars) (g : Gammas) →
    let l = layers_of m ssn gmt psc hmym pt mag g in (s : Bool) (e : ℤ) → l.f2m3 ≡ fin s 0 e → l.hpf2 ≡ inf s

-- the layers of a month that there is not
pub record NoSun (l : LayerParams) : Type 0 where
  -- no zenith angle, no height ratio, and so no semithickness of F2
  pub zenang : l.zenang.0 ≡ nan
  pub rat : l.rat ≡ nan
  pub yi2 : get_or l.yi 2 nan ≡ nan
  -- no F1 layer: its frequency is 0.0, or that of F2 less 0.2 where this is below, and so never
  -- above 0; its semithickness and height are 0.0
  pub fi1 : get_or l.fi 1 nan ≡ min_of (decimal 0 1) (get_or l.fi 2 nan ⊖ decimal 2 1)
  pub none : lt (decimal 0 1) (get_or l.fi 1 nan) ≡ false
  pub yi1 : get_or l.yi 1 nan ≡ decimal 0 1
  pub hi1 : get_or l.hi 1 nan ≡ decimal 0 1

-- A month out of 1 to 12 gives, of all other arguments, layers whose `zenang`, `rat` and yi[2] are
-- NaN and which have no F1: fi[1] is the lesser of 0.0 and fi[2] - 0.2, yi[1] and hi[1] are 0.0,
abbrev pub NoSunLayers : Type 0
NoSunLayers =
    (file : List ℕ) (month : ℕ) (ssn gmt : Float) (psc : Factors) (hmym : List Float)
    (pt : ControlPoint) (mag : MagneticVars) (g : Gammas) →
    (month ≡ 0) ⊎ (12 < month) → NoSun (layers_of (monthly_of file month ssn) ssn gmt psc hmym pt mag g)

-- and so in the row of every point `zenang`, `rat` and yi[2], numbers 21, 18 and 12, are NaN.
abbrev pub NoSunRow : Type 0
NoSunRow =
    (f2 file : List ℕ) (i : Inputs) (pt : ControlPoint) → (i.month ≡ 0) ⊎ (12 < i.month) →
    let row = point_row (hour_of f2 file i) i pt in
    (get_or row 21 nan ≡ nan) × (get_or row 18 nan ≡ nan) × (get_or row 12 nan ≡ nan)

-- ---- request 10: the words of the files

-- every f32 word of the record and of the month file's tables, used or not, is a finite number
pub record FiniteFiles (f2 file : List ℕ) : Type 0 where
  pub in_record_law : FiniteRecord f2
  pub in_month_law : FiniteMonth file

-- Every accepted showing, of the worksheet or of a desk, on any worksheet and over any source of
-- files, is from files of finite words only.
abbrev pub ShownFinite : Type 0
ShownFinite =
    (source : Source) (w : Worksheet) (n : ℕ) (lent figures : List Float) (count : ℕ) →
    (step source (show n lent) w).answer ≡ shown (Ok count) figures →
    let i = inputs_shown n w in FiniteFiles (source i).f2 (source i).file

-- of what a sheet takes of a month file and does not blend: the land map's 464 numbers and the four of
-- `abmap` are finite, and the sums that `zenmax` and foF1 are made of are no NaN
pub record MonthNumbers (file : List ℕ) (m : Monthly) : Type 0 where
  pub land_map : (k : ℕ) → k < 464 → T (finite (get_or (fakmap_of file) k nan))
  pub land_alf : T (finite m.land_alf)
  pub land_bet : T (finite m.land_bet)
  pub ratio_alf : T (finite m.ratio_alf)
  pub ratio_bet : T (finite m.ratio_bet)
  pub chi0 : T (not (is_nan m.chi0))
  pub chi1 : T (not (is_nan m.chi1))
  pub new0 : T (not (is_nan m.new0))
  pub new1 : T (not (is_nan m.new1))
  pub new2 : T (not (is_nan m.new2))

-- Of a month file whose words are finite, as those of every accepted one are, and with a sunspot number
-- in range, the land map's 464 numbers and the four of `abmap` are finite, and the five sums that
-- `zenmax` and foF1 are made of are no NaN (`MonthNumbers`). Whether these are finite is not said.
abbrev pub MonthNumbersSound : Type 0
MonthNumbersSound =
    (file : List ℕ) (month : ℕ) (ssn : Float) → FiniteMonth file → T (is_to (decimal 0 1) (decimal 300 0) ssn) →
    MonthNumbers file (monthly_of file month ssn)

-- A blended coefficient can still be NaN: of the largest finite number in both planes of the F2 map,
-- at sunspot number 300, the two products overflow to infinities of both signs.
abbrev pub BlendOverflows : Type 0
BlendOverflows =
    let x = of_bits binary32 2139095039 in T (finite x) × (blend_of (f2_weights (decimal 300 0)) x x ≡ nan)

-- ---- left open

-- Whether that cosine can come out above +1: none was found. Whether `abiy` is finite for an E
-- frequency above 56 MHz; what `hpf2` (but at 0), yi[1], yi[2], hi[1] and hi[2] are for an f2m3
-- nearer to 0 than 2 ^ -60, what the last four are for an fi[1] above 0 and below 2 ^ -40, and the
-- best bounds. No ordinary point is exhibited by proof: in the files of `sound_sheets` the numbers
-- that figures read, all but the index table, are zero. No accepted showing with a figure that is NaN
-- is exhibited either: that there are some is run (docs/DIFFERENCES.md).
