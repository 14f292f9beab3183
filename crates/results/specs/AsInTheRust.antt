-- Are the figures the Rust's? By contract every public function is its definition; what is proved
-- of these definitions beside that, as statements, each proved in proofs/AsInTheRust.antt. Assumes
-- nothing.
use Rattle.maps.specs.declared.ionosphere.clocks.HourTimes.{HourTimes}
use Rattle.base.specs.declared.refusal.Refusal.{Refusal}
use Rattle.maps.specs.declared.ionosphere.clocks.Shifted.{Shifted}
use Rattle.std.specs.Prelude.{◌≡◌, ◌⊎◌, Bool, true, false, cond, List, ℕ, suc, ◌+◌, ◌-◌, ◌*◌, ◌^◌, ◌≤◌, ◌<◌, T, length, get_or, set, replicate, Float, Err, Ok, Result}
use Rattle.std.specs.Float.{nan, binary32}
use Rattle.std.specs.Float.Ieee.{neg, lt, le, eq}
use Rattle.std.specs.Borrow.{Bor}
use Rattle.base.specs.declared.angle.Degrees.{Degrees}
use Rattle.base.specs.declared.angle.Radians.{Radians}
use Rattle.base.specs.declared.refusal.Refusal.TheVariants.{Ended, Marker}
use Rattle.base.specs.Single.{◌⊕◌, ◌⊖◌, ◌⊗◌, ◌⊘◌, decimal, minus_decimal}
use Rattle.base.specs.Double.{fraction}
use Rattle.base.specs.Constants.{PI, PI2}
use Rattle.base.specs.Number.{abs_of, sqrt_of}
use Rattle.base.specs.Elementary.{cos32_of}
use Rattle.base.specs.Ranges.{is_to}
use Rattle.base.specs.Words.{word_at, float_at}
use Rattle.base.specs.Fill.{tabulate}
use Rattle.base.specs.MonthFile.{month_file_size, IsPart, month_file_check, MarkedToLast}
use Rattle.base.specs.Tables.{start_of, words_of, plane_of, holding, ikim, fakmap, xpmap, dimension, HasEntry, entry_word, entry_place, part_of, table_check, table_part, table_file, abmap}
use Rattle.base.specs.Index.{index_of, map_word, rows, index_check, Climbs, Reaches}
use Rattle.base.specs.Blend.{IA, IB, IC, blend_of, height_weights, cofion_of, hmym_of, fakmap_of, map_tables, coefficient_of}
use Rattle.maps.specs.declared.inputs.Inputs.{Inputs}
use Rattle.maps.specs.declared.inputs.MagneticPole.{MagneticPole}
use Rattle.maps.specs.declared.geometry.ControlPoint.{ControlPoint}
use Rattle.maps.specs.declared.magnetic.Place.{Place}
use Rattle.maps.specs.declared.magnetic.Field.{Field}
use Rattle.maps.specs.declared.ionosphere.versy.Gammas.{Gammas}
use Rattle.maps.specs.declared.ionosphere.clocks.Direction.{Direction}
use Rattle.maps.specs.Loop.{loop}
use Rattle.maps.specs.Virtim.{GoodTable, StartsRule, hour_wave, daily_of, coefficient_in, virtim_of}
use Rattle.maps.specs.Versy.{harmonic_of, geographic_of, filled_of, top_of, versy_of, gammas_of}
use Rattle.maps.specs.Series.{omega_of}
use Rattle.maps.specs.Ionosphere.{hour_maps_of, gammas_at}
use Rattle.maps.specs.Magnetic.{o, HC, CT, entry, clamped_place, p_of, dp_of, bv_of, bn_of, bphi_of, magfin_of, east_of, magvar_of, at7, placed_of, State, state, degree_of, expansion_of}
use Rattle.maps.specs.Geometry.{absent, nowhere, path_of, sign_of, geomagnetic_of}
use Rattle.maps.specs.Layers.{clock_of}
use Rattle.maps.specs.Figures.{hour_of, sheet_path, figures_of}
use Rattle.maps.specs.Clocks.{theta_of, after_shift, for_loop, wraps, cngtim_of, moved_of, times_of, local_time_of}
use Rattle.worksheet.specs.declared.desks.Worksheet.{Worksheet}
use Rattle.worksheet.specs.Showing.{Source, show_of, show_buffer}
use Rattle.results.specs.KnownPoints.{AllHold, known_points}

-- ---- demand 2: the series of CCIR Report 340

-- Omega of the map k, 0 to 5, from the two files: each U_{s,j} is the blend at the sunspot number
-- of the entries [0][j][s] and [1][j][s] of the map's table, the index is the row k of `ikim`
abbrev pub omega_from : List ℕ → List ℕ → Float → Float → Float → Float → ℕ → Float → Float
omega_from f2 month ssn gmt clg gob k x =
    omega_of (coefficient_of f2 month ssn k) (λ i. word_at month (entry_place ikim i k 0)) gmt x clg gob

-- Of a month file that passes the index check, what `versy` gives for each of the six maps from
-- what `virtim` left of the files at the hour is the map's Omega, the series of CCIR Report 340
-- (crates/maps/specs/Series.antt) over the blended entries of its table.
abbrev pub Report340 : Type 0
Report340 =
    (f2 month : List ℕ) (ssn gmt x clg gob : Float) → index_check month ≡ Ok tt → (k : ℕ) → k < 6 →
    versy_of (hour_maps_of f2 month ssn gmt) (index_of month) (k + 1) x clg gob ≡ omega_from f2 month ssn gmt clg gob k x

-- the six at a place, from each at an angle: the first five at the dip, the sixth, the E map, at
-- the latitude
abbrev pub at_dip_and_latitude : (ℕ → Float → Float) → Float → Float → Gammas
at_dip_and_latitude omega dip lat =
    record {
      g1 = omega 0 dip;
      g2 = omega 1 dip;
      g3 = omega 2 dip;
      g4 = omega 3 dip;
      g5 = omega 4 dip;
      g6 = omega 5 lat;
    }

-- So all six at a place.
abbrev pub SixSeries : Type 0
SixSeries =
    (f2 month : List ℕ) (ssn gmt dip lat clg gob : Float) → index_check month ≡ Ok tt →
    let omega = omega_from f2 month ssn gmt clg gob in
    gammas_of (hour_maps_of f2 month ssn gmt) (index_of month) dip lat clg gob
    ≡
    at_dip_and_latitude omega dip lat

-- So the six map values that the numbers of a control point are worked from, at the point's east
-- longitude and the cosine of its latitude.
abbrev pub PointSeries : Type 0
PointSeries =
    (f2 file : List ℕ) (i : Inputs) → index_check file ≡ Ok tt → (pt : ControlPoint) →
    let h = hour_of f2 file i in
    let mag = magvar_of pt.lat pt.lon in
    let omega = omega_from f2 file i.ssn i.gmt (east_of pt.lon).0 (cos32_of pt.lat.0) in
    let dip = mag.gmdip.0 in
    let lat = pt.lat.0 in
    gammas_at h.ab h.index pt.lat pt.lon mag
    ≡
    at_dip_and_latitude omega dip lat

-- So six figures of a point p that is there. Its fi[0] is the E factor times Omega of the sixth map
-- at the latitude or, where that Omega less 0.36 is below 0, times 0.36 √(1 + 0.0098 s), s being
-- the sunspot number. Its fi[2] is the sum of Omega of the fourth at the dip and half the
-- gyrofrequency that `magvar` gives there, times the F2 factor. Its `f2m3` is Omega of the fifth at
-- the dip, and its fs[0], fs[1] and fs[2] are Omega of the third, second and first at the dip, each
-- times the Es factor.
abbrev pub FigureSeries : Type 0
FigureSeries =
    (f2 file : List ℕ) (i : Inputs) → index_check file ≡ Ok tt → (p : ℕ) → 1 ≤ p → p ≤ (sheet_path i).count →
    let figure : ℕ → Float = λ k. get_or (figures_of f2 file i) (6 + 29 * (p - 1) + k) nan in
    let pt = get_or (sheet_path i).points (p - 1) nowhere in
    let omega = omega_from f2 file i.ssn i.gmt (east_of pt.lon).0 (cos32_of pt.lat.0) in
    let mag = magvar_of pt.lat pt.lon in
    let dip = mag.gmdip.0 in
    let e = omega 5 pt.lat.0 in
    let midnight = decimal 36 2 ⊗ sqrt_of binary32 (decimal 10 1 ⊕ decimal 98 4 ⊗ i.ssn) in
    (figure 7 ≡ cond (lt (e ⊖ decimal 36 2) (decimal 0 1)) midnight e ⊗ i.psc.e)
    × (figure 9 ≡ (omega 3 dip ⊕ decimal 5 1 ⊗ mag.gyz) ⊗ i.psc.f2)
    × (figure 16 ≡ omega 4 dip)
    × (figure 23 ≡ omega 2 dip ⊗ i.psc.es)
    × (figure 24 ≡ omega 1 dip ⊗ i.psc.es)
    × (figure 25 ≡ omega 0 dip ⊗ i.psc.es)

-- Of any coefficients and an index table whose six maps are good, what `versy` gives for each map
-- from what `virtim` left is Omega over the coefficients where they stand in COFION.
abbrev pub MapSeries : Type 0
MapSeries =
    (cof : List Float) (index : List ℕ) (gmt x clg gob : Float) → GoodTable index → (k : ℕ) → k < 6 →
    versy_of (virtim_of cof index gmt) index (k + 1) x clg gob
    ≡
    omega_of (coefficient_in cof k) (map_word index k) gmt x clg gob

-- ---- demand 2: the geographic functions and the hour's 318 numbers

-- Where word 0 is at most 75 and the ladder climbs, the array that is filled along it is the closed
-- form at its 76 places.
abbrev pub FilledClosed : Type 0
FilledClosed =
    (w : ℕ → ℕ) (sx gob clg : Float) → w 0 ≤ 75 → Climbs w 8 0 →
    filled_of w sx gob clg ≡ tabulate (geographic_of w sx gob clg) 76

-- The same, place by place.
abbrev pub FilledAt : Type 0
FilledAt =
    (w : ℕ → ℕ) (sx gob clg : Float) → w 0 ≤ 75 → Climbs w 8 0 → (k : ℕ) → k < 76 →
    get_or (filled_of w sx gob clg) k nan ≡ geographic_of w sx gob clg k

-- Past the last word of a ladder that climbs the functions are 0.
abbrev pub PastEnd : Type 0
PastEnd =
    (w : ℕ → ℕ) (sx gob clg : Float) → Climbs w 8 0 → (k : ℕ) → top_of w < k → geographic_of w sx gob clg k ≡ fraction 0 1

-- Above a word that the ladder reaches and up to the next stand the functions of the next harmonic,
-- in their order.
abbrev pub InHarmonic : Type 0
InHarmonic =
    (w : ℕ → ℕ) (sx gob clg : Float) → Climbs w 8 0 → (j k : ℕ) → j < 8 → Reaches w j → w j < k → k ≤ w (j + 1) →
    geographic_of w sx gob clg k ≡ harmonic_of sx gob clg (j + 1) (k - w j - 1)

-- IA packs the coefficients of the six maps: where the run of a map ends, the next begins,
abbrev pub RunsMeet : Type 0
RunsMeet = (k : ℕ) → k < 5 → get_or IA (k + 1) 0 ≡ get_or IA k 0 + get_or rows k 0 * get_or IB k 0

-- and the last ends where COFION does, counted from 1.
abbrev pub RunsEnd : Type 0
RunsEnd =
    (f2 month : List ℕ) (s : Float) →
    get_or IA 5 0 + get_or rows 5 0 * get_or IB 5 0 ≡ length (cofion_of f2 month s) + 1

-- IC packs their rows: where those of a map end, the next begin,
abbrev pub PartsMeet : Type 0
PartsMeet = (k : ℕ) → k < 5 → get_or IC (k + 1) 0 ≡ get_or IC k 0 + get_or rows k 0

-- and the last end where AB does, what `virtim` leaves, counted from 1.
abbrev pub PartsEnd : Type 0
PartsEnd =
    (cof : List Float) (index : List ℕ) (gmt : Float) →
    get_or IC 5 0 + get_or rows 5 0 ≡ length (virtim_of cof index gmt) + 1

-- Of an index table whose six maps are good, AB holds the daily series of each row of each map up
-- to word 8, from IC on.
abbrev pub HourAt : Type 0
HourAt =
    (cof : List Float) (index : List ℕ) (gmt : Float) → GoodTable index →
    (k j : ℕ) → k < 6 → j ≤ map_word index k 8 →
    get_or (virtim_of cof index gmt) (get_or IC k 0 - 1 + j) nan
    ≡
    daily_of (hour_wave gmt) (λ s. coefficient_in cof k s j) (map_word index k 9)

-- And at each of its 318 places that is no such row it holds 0.
abbrev pub HourElsewhere : Type 0
HourElsewhere =
    (cof : List Float) (index : List ℕ) (gmt : Float) → GoodTable index →
    (p : ℕ) → p < 318 → ((k j : ℕ) → k < 6 → j ≤ map_word index k 8 → get_or IC k 0 - 1 + j ≡ p → ⊥) →
    get_or (virtim_of cof index gmt) p nan ≡ decimal 0 1

-- Document 02's rule of the table of series starts, by IA, IB and IC, is met by one list of 318
-- numbers and by no other of that length.
abbrev pub OneTable : Type 0
OneTable =
    (starts : List ℕ)
    × (length starts ≡ 318)
    × StartsRule starts
    × ((other : List ℕ) → length other ≡ 318 → StartsRule other → other ≡ starts)

-- Of a table that meets the rule and an index table whose six maps are good, AB holds at the place
-- of each row up to word 8 the daily series of the coefficients from the table's entry at that place
-- on.
abbrev pub HourFrom : Type 0
HourFrom =
    (starts : List ℕ) → StartsRule starts → (cof : List Float) (index : List ℕ) (gmt : Float) → GoodTable index →
    (k j : ℕ) → k < 6 → j ≤ map_word index k 8 →
    let p = get_or IC k 0 - 1 + j in
    let start = get_or starts p 0 in
    get_or (virtim_of cof index gmt) p nan ≡ daily_of (hour_wave gmt) (λ s. get_or cof (start + s) nan) (map_word index k 9)

-- ---- demand 2: the words of the tables

-- the word n of the table is an entry [k][j][i] of its array, as the Rust writes it
pub record WordEntry (number n : ℕ) : Type 0 where
  pub i : ℕ
  pub j : ℕ
  pub k : ℕ
  pub there : HasEntry number i j k
  pub place : entry_place number i j k ≡ start_of number + 4 * n

-- Every word of each table is an entry of its array.
abbrev pub EveryWord : Type 0
EveryWord = (number n : ℕ) → n < words_of number → WordEntry number n

-- The four bytes of every entry lie in its table's part of the file.
abbrev pub EntryInside : Type 0
EntryInside =
    (number i j k : ℕ) → HasEntry number i j k →
    ((part_of number).from ≤ entry_place number i j k)
    × (entry_place number i j k + 4 ≤ (part_of number).from + (part_of number).size)

-- Two entries of a table that stand in the same place have the same indices.
abbrev pub EntriesApart : Type 0
EntriesApart =
    (number i j k i' j' k' : ℕ) → HasEntry number i j k → HasEntry number i' j' k' →
    entry_place number i j k ≡ entry_place number i' j' k' → (i ≡ i') × (j ≡ j') × (k ≡ k')

-- Of what an accepted Table hands back the word of an entry is the word of the file that holds the
-- table, at the entry's place.
abbrev pub TableEntry : Type 0
TableEntry =
    (number i j k : ℕ) → HasEntry number i j k →
    (f m x : Bor (List ℕ)) → table_check number f.now m.now ≡ Ok tt →
    IsPart (table_part number f.now m.now) (table_file number f m) x →
    word_at x.now (4 * entry_word number i j k) ≡ word_at (holding number f.now m.now) (entry_place number i j k)

-- COFION holds at the row j and the column i of the map k the blend of the entries [0][j][i] and
-- [1][j][i] of the map's table.
abbrev pub CofionEntry : Type 0
CofionEntry =
    (f2 month : List ℕ) (s : Float) (k i j : ℕ) → k < 6 → i < get_or IB k 0 → j < get_or rows k 0 →
    get_or (cofion_of f2 month s) (get_or IA k 0 - 1 + j * get_or IB k 0 + i) nan ≡ coefficient_of f2 month s k i j

-- The height map holds the blend of the entries [0][j][i] and [1][j][i] of `xpmap`.
abbrev pub HmymEntry : Type 0
HmymEntry =
    (month : List ℕ) (s : Float) (i j : ℕ) → i < 29 → j < 16 →
    get_or (hmym_of month s) (j * 29 + i) nan
    ≡
    blend_of (height_weights s) (float_at month (entry_place xpmap i j 0)) (float_at month (entry_place xpmap i j 1))

-- The land map, which is not blended, holds the entries [j][i] of `fakmap`.
abbrev pub FakmapEntry : Type 0
FakmapEntry =
    (month : List ℕ) (i j : ℕ) → i < 29 → j < 16 →
    get_or (fakmap_of month) (j * 29 + i) nan ≡ float_at month (entry_place fakmap i j 0)

-- The entry [i] of a table of one dimension is its word i,
abbrev pub LineEntry : Type 0
LineEntry = (number i : ℕ) → entry_place number i 0 0 ≡ start_of number + 4 * i

-- and the entry [j][i] of `abmap`, which has rows of two, its word 2 j + i.
abbrev pub AbmapEntry : Type 0
AbmapEntry = (i j : ℕ) → entry_place abmap i j 0 ≡ start_of abmap + 4 * (j * 2 + i)

-- of a map's table: a row has as many words as IB says, a plane as many rows as the map, and there
-- are two planes
pub record MapShaped (k : ℕ) : Type 0 where
  pub columns : dimension (get_or map_tables k 0) 0 ≡ get_or IB k 0
  pub lines : dimension (get_or map_tables k 0) 1 ≡ get_or rows k 0
  pub planes : dimension (get_or map_tables k 0) 2 ≡ 2
  pub plane : plane_of (get_or map_tables k 0) ≡ get_or rows k 0 * get_or IB k 0

-- The tables of the six maps have the shapes that IB and the rows say.
abbrev pub MapsShaped : Type 0
MapsShaped = (k : ℕ) → k < 6 → MapShaped k

-- ---- demand 2: the field

-- t, an array of 7 by 7, holds f for the degrees up to n, and 0 at its other places, those above
-- the diagonal among them
pub record HoldsDegrees (f : ℕ → ℕ → Float) (n : ℕ) (t : List Float) : Type 0 where
  pub size : length t ≡ 49
  pub written : (i m : ℕ) → i ≤ n → m ≤ i → at7 t i m ≡ f i m
  pub never : (i m : ℕ) → i < 7 → m < 7 → (n < i) ⊎ (i < m) → at7 t i m ≡ o

-- p, dp and the sums before the loop over the degrees
abbrev pub field_start : State Field
field_start =
    state (set (replicate 49 o) 0 (decimal 10 1)) (replicate 49 o) (record { bv = o; bn = o; bphi = o })

-- After the degree n the Rust's array p holds Legendre's functions, by their recurrences in (n, m),
-- and 0 at every place that has not been written by then.
abbrev pub PFilled : Type 0
PFilled =
    (x : Place) (n : ℕ) → n ≤ 6 →
    HoldsDegrees (p_of x.c x.s) n (loop 1 (n + 1) (degree_of x) field_start).p

-- And dp what the recurrences of their derivatives give (`dp_of`), and 0 likewise.
abbrev pub DpFilled : Type 0
DpFilled =
    (x : Place) (n : ℕ) → n ≤ 6 →
    HoldsDegrees (dp_of x.c x.s) n (loop 1 (n + 1) (degree_of x) field_start).dp

-- The sums that the loops over the arrays leave are the closed form's.
abbrev pub FieldSums : Type 0
FieldSums =
    (lat east_lon : Radians) (height_m : Float) →
    let x = placed_of lat east_lon height_m in
    let phi = (clamped_place lat east_lon).p2 in
    let ar = HC ⊘ (HC ⊕ height_m) in
    expansion_of x
    ≡
    record { bv = bv_of x.c x.s phi ar; bn = bn_of x.c x.s phi ar; bphi = bphi_of x.c x.s phi ar }

-- The field is made of the sums over the arrays.
abbrev pub MagfinArrays : Type 0
MagfinArrays =
    (lat east_lon : Radians) (height_m : Float) →
    let x = placed_of lat east_lon height_m in
    let v = expansion_of x in
    magfin_of lat east_lon height_m ≡ record { up = neg v.bv; north = v.bn; east = neg v.bphi ⊘ x.s }

-- CT[n][m] is the f32 nearest to a decimal of eight places, which is less than one unit of the
-- eighth from Gauss's factor ((n - 1)² - m²) / ((2 n - 1) (2 n - 3))
pub record GaussFactor (n m : ℕ) : Type 0 where
  pub digits : ℕ
  pub value : entry CT n m ≡ decimal digits 8
  pub low : 10 ^ 8 * ((n - 1) * (n - 1) - m * m) < (digits + 1) * ((2 * n - 1) * (2 * n - 3))
  pub high : digits * ((2 * n - 1) * (2 * n - 3)) < 10 ^ 8 * ((n - 1) * (n - 1) - m * m) + (2 * n - 1) * (2 * n - 3)

-- For every n from 2 to 6 and m below n, CT[n][m] is the f32 nearest to a decimal of eight places
-- that is less than one unit of the eighth from Gauss's factor ((n - 1)² - m²) / ((2 n - 1) (2 n -
-- 3)).
abbrev pub CtGauss : Type 0
CtGauss = (n m : ℕ) → 2 ≤ n → n ≤ 6 → m < n → GaussFactor n m

-- ---- demand 2: the path

-- '`gcd_km` <= 2000.01 (as f32) gives one point, <= 4000 three, else five'
pub data CountRule (km : Float) : ℕ → Type 0 where
  one : le km (decimal 200001 2) ≡ true → CountRule km 1
  three : le km (decimal 200001 2) ≡ false → le km (decimal 40000 1) ≡ true → CountRule km 3
  five : le km (decimal 200001 2) ≡ false → le km (decimal 40000 1) ≡ false → CountRule km 5

-- Every path has as many points as its `gcd_km` gives: '<= 2000.01 (as f32) .. one point, <= 4000
-- three, else five'.
abbrev pub PathCount : Type 0
PathCount =
    (tlat tlong rlat rlong : Degrees) (long : Bool) (pole : MagneticPole) →
    let g = path_of tlat tlong rlat rlong long pole in CountRule g.gcd_km g.count

-- 'A long path always gives five', whatever its ends.
abbrev pub LongFive : Type 0
LongFive =
    (tlat tlong rlat rlong : Degrees) (pole : MagneticPole) → (path_of tlat tlong rlat rlong true pole).count ≡ 5

-- The rows of a path past its count, up to the fifth, are +0.0 in every field.
abbrev pub RowsPast : Type 0
RowsPast =
    (tlat tlong rlat rlong : Degrees) (long : Bool) (pole : MagneticPole) →
    let g = path_of tlat tlong rlat rlong long pole in
    (i : ℕ) → i < 5 → g.count ≤ i → get_or g.points i nowhere ≡ absent

-- The geomagnetic latitude of each point that is there is what `geomagnetic_latitude` gives at its
-- place.
abbrev pub RowGmlat : Type 0
RowGmlat =
    (tlat tlong rlat rlong : Degrees) (long : Bool) (pole : MagneticPole) →
    let g = path_of tlat tlong rlat rlong long pole in
    (i : ℕ) → i < g.count →
    let p = get_or g.points i nowhere in p.gmlat ≡ geomagnetic_of pole p.lat p.lon

-- `sign` with a second operand of minus zero gives the positive size,
abbrev pub SignMinusZero : Type 0
SignMinusZero = (a : Float) → sign_of a (neg (decimal 0 1)) ≡ abs_of a

-- and with a NaN the negative one.
abbrev pub SignNan : Type 0
SignNan = (a : Float) → sign_of a nan ≡ neg (abs_of a)

-- ---- demand 2: TIMVAR's clock

-- 'above 0 and at most 24'
pub record OnClock (c : Float) : Type 0 where
  pub above : T (lt (decimal 0 1) c)
  pub most : T (le c (decimal 240 1))

-- For an hour from 0 to 24 and a longitude of at most half a turn, PI2 less the engine's own PI,
-- the clock is above 0 and at most 24.
abbrev pub ClockRange : Type 0
ClockRange =
    (gmt : Float) (lon : Radians) → T (is_to (decimal 0 1) (decimal 240 1) gmt) →
    T (is_to (neg (PI2 ⊖ PI)) (PI2 ⊖ PI) lon.0) → OnClock (clock_of gmt lon)

-- So, for such an hour, at each of the five rows of a path whose ends are in range.
abbrev pub PointClock : Type 0
PointClock =
    (tlat tlong rlat rlong : Degrees) →
    T (is_to (minus_decimal 900 1) (decimal 900 1) tlat.0) →
    T (is_to (minus_decimal 1800 1) (decimal 1800 1) tlong.0) →
    T (is_to (minus_decimal 900 1) (decimal 900 1) rlat.0) →
    T (is_to (minus_decimal 1800 1) (decimal 1800 1) rlong.0) →
    (long : Bool) (pole : MagneticPole) (gmt : Float) → T (is_to (decimal 0 1) (decimal 240 1) gmt) →
    (i : ℕ) → i < 5 →
    OnClock (clock_of gmt (get_or (path_of tlat tlong rlat rlong long pole).points i nowhere).lon)

-- So in the buffer after every showing that is answered with points, of the worksheet or of a desk,
-- whatever the files: number 20 of each point that is there.
abbrev pub ShownClock : Type 0
ShownClock =
    (source : Source) (n : ℕ) (lent : List Float) (w : Worksheet) (count : ℕ) → show_of source n lent w ≡ Ok count →
    (p : ℕ) → 1 ≤ p → p ≤ count → OnClock (get_or (show_buffer source n lent w) (6 + 29 * (p - 1) + 20) nan)

-- the time before the correction: the hour, and the longitude in hours
abbrev pub uncorrected : Float → Radians → Float
uncorrected gmt lon = gmt ⊕ lon.0 ⊘ decimal 261799387 9

-- '24 stays', for every hour and longitude.
abbrev pub Clock24Stays : Type 0
Clock24Stays = (gmt : Float) (lon : Radians) → uncorrected gmt lon ≡ decimal 240 1 → clock_of gmt lon ≡ decimal 240 1

-- '0 becomes 24', +0.
abbrev pub Clock0Becomes24 : Type 0
Clock0Becomes24 = (gmt : Float) (lon : Radians) → uncorrected gmt lon ≡ decimal 0 1 → clock_of gmt lon ≡ decimal 240 1

-- And -0.
abbrev pub ClockMinus0Becomes24 : Type 0
ClockMinus0Becomes24 =
    (gmt : Float) (lon : Radians) → uncorrected gmt lon ≡ minus_decimal 0 1 → clock_of gmt lon ≡ decimal 240 1

-- ---- demand 2: CNGTIM and GEOTIM

-- a time from 0 to 24, at which neither test of CNGTIM's loop holds
pub record InDay (time : Float) : Type 0 where
  pub from : T (le (decimal 0 1) time)
  pub to : T (le time (decimal 240 1))
  pub not_below : lt time (decimal 0 1) ≡ false
  pub not_above : lt (decimal 240 1) time ≡ false

pub data DayChange (d : Float) : Type 0 where
  yesterday : d ≡ minus_decimal 10 1 → DayChange d
  today : d ≡ decimal 0 1 → DayChange d
  tomorrow : d ≡ decimal 10 1 → DayChange d

-- more turns of CNGTIM's loop than one change nothing, and the answer is a time of the day with a
-- change of day
pub record Settled (time : Float) (x : Degrees) (isw : Direction) : Type 0 where
  pub more :
      (n : ℕ) →
      wraps (suc n) (for_loop (after_shift time (theta_of x) isw) (theta_of x))
      ≡
      wraps 1 (for_loop (after_shift time (theta_of x) isw) (theta_of x))
  pub day : InDay (cngtim_of time x isw).time
  pub change : DayChange (cngtim_of time x isw).day

-- For a time from 0 to 24 and a longitude of at most 181 degrees either way, more turns of CNGTIM's
-- loop than one change nothing, and the answer is a time from 0 to 24 with the day change -1, 0 or
-- 1.
abbrev pub CngtimSettled : Type 0
CngtimSettled =
    (time : Float) (x : Degrees) (isw : Direction) → T (is_to (decimal 0 1) (decimal 240 1) time) →
    T (is_to (minus_decimal 1810 1) (decimal 1810 1) x.0) → Settled time x isw

-- 'longitude 0 leaves the time and gives 0', either zero and any time.
abbrev pub ZeroLeaves : Type 0
ZeroLeaves =
    (time : Float) (x : Degrees) (isw : Direction) → eq x.0 (decimal 0 1) ≡ true →
    cngtim_of time x isw ≡ record { time = time; day = decimal 0 1 }

-- 'otherwise, after the shift, a time of exactly 0 gives -1', either zero.
abbrev pub ExactZero : Type 0
ExactZero =
    (time : Float) (x : Degrees) (isw : Direction) → eq x.0 (decimal 0 1) ≡ false →
    T (eq (after_shift time (theta_of x) isw) (decimal 0 1)) → (cngtim_of time x isw).day ≡ minus_decimal 10 1

abbrev pub MovedInDay : Result Shifted Refusal → Type 0
MovedInDay (Ok s) = InDay s.time × DayChange s.day
MovedInDay (Err why) = Unit

abbrev pub TimesInDay : Result HourTimes Refusal → Type 0
TimesInDay (Ok t) = InDay t.gmt × InDay t.lmt_tx × InDay t.gmtr
TimesInDay (Err why) = Unit

abbrev pub LocalInDay : Result Float Refusal → Type 0
LocalInDay (Ok t) = InDay t
LocalInDay (Err why) = Unit

-- Whatever is asked of `cngtim`: an answer that is no refusal is a time from 0 to 24 with the day
-- change -1, 0 or 1.
abbrev pub EveryMoved : Type 0
EveryMoved = (time : Float) (lon : Degrees) (isw : Direction) → MovedInDay (moved_of time lon isw)

-- Whatever is asked of `geotim`: an answer that is no refusal is three times from 0 to 24.
abbrev pub EveryTimes : Type 0
EveryTimes = (hour : ℕ) (local : Bool) (tlong rlong : Degrees) → TimesInDay (times_of hour local tlong rlong)

-- And of the local time at one longitude.
abbrev pub EveryLocal : Type 0
EveryLocal = (gmt : Float) (lon : Degrees) → LocalInDay (local_time_of gmt lon)

-- ---- demand 2: document 01's known points

-- (a) to (l), each row of the table.
abbrev pub Known : Type 0
Known = AllHold known_points

-- (b) of every file of 38,551 bytes whose first 17 markers are right: 9 at 38,548.
abbrev pub CutShort : Type 0
CutShort = (s : List ℕ) → MarkedToLast s → length s ≡ 38551 → month_file_check s ≡ Err (Ended 38548)

-- (c) of every file that is long enough and whose first 17 markers are right and the last one
-- wrong: 10 at 38,548.
abbrev pub LastWrong : Type 0
LastWrong =
    (s : List ℕ) → MarkedToLast s → month_file_size ≤ length s → (word_at s 38548 ≡ 1584 → ⊥) →
    month_file_check s ≡ Err (Marker 38548)
