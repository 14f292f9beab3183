-- Document 01, Figures: the 151 numbers of a sheet, from its inputs, an F2 record and a month file,
-- and from nothing else. Assumes nothing.
use Rattle.base.specs.declared.refusal.Refusal.{Refusal}
use Rattle.std.specs.Prelude.{ℕ, zero, suc, cond, List, [], ◌∷◌, ◌++◌, replicate, nat_lt, slice_index_or, Float, Err, Ok, Result}
use Rattle.std.specs.Float.{nan}
use Rattle.base.specs.Refusal.{Verdict}
use Rattle.base.specs.Refusal.{unless_refused, written_over}
use Rattle.base.specs.Single.{decimal}
use Rattle.base.specs.Index.{index_of}
use Rattle.base.specs.Blend.{cofion_of, hmym_of, fakmap_of}
use Rattle.base.specs.Files.{files_check}
use Rattle.maps.specs.declared.inputs.Inputs.{Inputs}
use Rattle.maps.specs.declared.figures.Hour.{Hour}
use Rattle.maps.specs.declared.geometry.ControlPoint.{ControlPoint}
use Rattle.maps.specs.declared.geometry.PathGeometry.{PathGeometry}
use Rattle.maps.specs.declared.magnetic.MagneticVars.{MagneticVars}
use Rattle.maps.specs.declared.ionosphere.layers.Monthly.{Monthly}
use Rattle.maps.specs.declared.ionosphere.layers.LayerParams.{LayerParams}
use Rattle.maps.specs.declared.ionosphere.layers.EsParams.{EsParams}
use Rattle.maps.specs.declared.ionosphere.layers.Ground.{Ground}
use Rattle.maps.specs.Inputs.{is_long}
use Rattle.maps.specs.Magnetic.{magvar_of}
use Rattle.maps.specs.Virtim.{virtim_of}
use Rattle.maps.specs.Geometry.{path_of, alatd_of, nowhere}
use Rattle.maps.specs.Layers.{monthly_of, layers_of, esind_of, ground_of}
use Rattle.maps.specs.Ionosphere.{gammas_at}

-- ---- what the points of a sheet share

pub record SheetHour : Type 0 where
  pub ab : List Float
  pub index : List ℕ
  pub monthly : Monthly
  pub hmym : List Float
  pub fakmap : List Float

abbrev pub hour : List Float → List ℕ → Monthly → List Float → List Float → SheetHour
hour ab index m hmym fakmap = record { ab = ab; index = index; monthly = m; hmym = hmym; fakmap = fakmap }

-- as the source has it
abbrev pub shared : Hour → SheetHour
shared h = hour h.maps.ab.now h.maps.index.words.now h.monthly h.hmym.now h.fakmap.now

-- from a month file and the tables that were read
unfoldable pub hour_from : List ℕ → List ℕ → List Float → List Float → List Float → Inputs → SheetHour
hour_from file index cofion hmym fakmap i =
    hour (virtim_of cofion index i.gmt) index (monthly_of file i.month i.ssn) hmym fakmap

unfoldable pub hour_of : List ℕ → List ℕ → Inputs → SheetHour
hour_of f2 file i =
    hour_from file (index_of file) (cofion_of f2 file i.ssn) (hmym_of file i.ssn) (fakmap_of file) i

-- ---- the figures

-- '`gcd`, `gcd_km`, `btr`, `brt`, `rlatd`, `alatd`'
unfoldable pub head_of : PathGeometry → List Float
head_of g = g.gcd.0 ∷ g.gcd_km ∷ g.btr.0 ∷ g.brt.0 ∷ g.rlatd.0 ∷ (alatd_of g).0 ∷ []

-- '`ControlPoint` (4), `MagneticVars` (3), `LayerParams` (16), `EsParams` (4), ground pair (2),
-- fields in the Rust's order'
unfoldable pub numbers_of : ControlPoint → MagneticVars → LayerParams → EsParams → Ground → List Float
numbers_of pt mag l es g =
    pt.rd.0
    ∷ pt.lat.0
    ∷ pt.lon.0
    ∷ pt.gmlat.0
    ∷ mag.gyz
    ∷ mag.gmdip.0
    ∷ mag.east_lon.0
    ∷ slice_index_or l.fi 0 nan
    ∷ slice_index_or l.fi 1 nan
    ∷ slice_index_or l.fi 2 nan
    ∷ slice_index_or l.yi 0 nan
    ∷ slice_index_or l.yi 1 nan
    ∷ slice_index_or l.yi 2 nan
    ∷ slice_index_or l.hi 0 nan
    ∷ slice_index_or l.hi 1 nan
    ∷ slice_index_or l.hi 2 nan
    ∷ l.f2m3
    ∷ l.hpf2
    ∷ l.rat
    ∷ l.abiy
    ∷ l.clck
    ∷ l.zenang.0
    ∷ l.zenmax.0
    ∷ slice_index_or es.fs 0 nan
    ∷ slice_index_or es.fs 1 nan
    ∷ slice_index_or es.fs 2 nan
    ∷ es.hs
    ∷ g.0
    ∷ g.1
    ∷ []

-- the 29 numbers of a point
unfoldable pub point_row : SheetHour → Inputs → ControlPoint → List Float
point_row h i pt =
    let mag = magvar_of pt.lat pt.lon in
    let g = gammas_at h.ab h.index pt.lat pt.lon mag in
    numbers_of pt mag
    (layers_of h.monthly i.ssn i.gmt i.psc h.hmym pt mag g)
    (esind_of g i.psc.es)
    (ground_of h.monthly h.fakmap pt.lat mag.east_lon)

-- 'Rows of absent points are +0.0'
unfoldable pub figure_row : SheetHour → Inputs → PathGeometry → ℕ → List Float
figure_row h i g p = cond (nat_lt p g.count) (point_row h i (slice_index_or g.points p nowhere)) (replicate 29 (decimal 0 1))

-- the six numbers and the first p rows
unfoldable pub figures_to : SheetHour → Inputs → PathGeometry → ℕ → List Float
figures_to h i g zero = head_of g
figures_to h i g (suc p) = figures_to h i g p ++ figure_row h i g p

-- the path of a sheet
unfoldable pub sheet_path : Inputs → PathGeometry
sheet_path i =
    let p = i.route in
    path_of p.tlat p.tlong p.rlat p.rlong (is_long p.long_path) i.pole

-- the 151 figures: '29 numbers for each of five points'
unfoldable pub figures_of : List ℕ → List ℕ → Inputs → List Float
figures_of f2 file i = figures_to (hour_of f2 file i) i (sheet_path i) 5

-- ---- what `figures` answers, and what the buffer holds afterwards

abbrev pub points_or : Verdict → ℕ → Result ℕ Refusal
points_or v count = unless_refused v (Ok count) Err

unfoldable pub shown_of : List ℕ → List ℕ → Inputs → Result ℕ Refusal
shown_of f2 file i = points_or (files_check f2 file) (sheet_path i).count

unfoldable pub figures_buffer : List ℕ → List ℕ → Inputs → List Float → List Float
figures_buffer f2 file i out = written_over (files_check f2 file) (figures_of f2 file i) out
