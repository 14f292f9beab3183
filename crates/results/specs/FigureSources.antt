-- Do the figures come from nothing else? What a sheet's 151 figures are is crates/maps/specs/
-- Figures.antt (`figures_of`, `head_of`, `point_row`); files that agree in their first bytes are
-- LaterBytes.antt's `Alike`, paths and ends that agree SamePaths.antt's. Assumes nothing.
use Rattle.std.specs.Prelude.{List, ◌++◌, Bool, ◌≡◌, ℕ, ◌+◌, ◌*◌, ◌-◌, ◌≤◌, ◌<◌, get_or, take, drop, Float, Err, Ok}
use Rattle.std.specs.Float.{nan}
use Rattle.base.specs.declared.angle.Degrees.{Degrees}
use Rattle.base.specs.declared.refusal.Refusal.{Refusal}
use Rattle.base.specs.Single.{decimal}
use Rattle.base.specs.Files.{files_check}
use Rattle.maps.specs.declared.inputs.Inputs.{Inputs}
use Rattle.maps.specs.declared.inputs.MagneticPole.{MagneticPole}
use Rattle.maps.specs.Geometry.{nudged_of, path_of, nowhere}
use Rattle.maps.specs.Figures.{hour_of, head_of, point_row, figure_row, sheet_path, figures_of, shown_of, figures_buffer}
use Rattle.results.specs.LaterBytes.{Alike}
use Rattle.results.specs.SamePaths.{SamePath, SameEnd, SamePole, SameWork}

-- ---- demand 2: 'a buffer left as lent' fails: accepted, the whole buffer is written. That the
-- figures are neither blank nor always the same is their definition, `figures_of`

-- Where the files pass their checks, the buffer is the figures, whatever it held
abbrev pub AllOverwritten : Type 0
AllOverwritten =
    (f2 file : List ℕ) (i : Inputs) (b : List Float) → files_check f2 file ≡ Ok tt →
    figures_buffer f2 file i b ≡ figures_of f2 file i

-- So two buffers that differed before are alike after, over the same files and inputs
abbrev pub SameFigures : Type 0
SameFigures =
    (f2 file : List ℕ) (i : Inputs) (b c : List Float) → files_check f2 file ≡ Ok tt →
    figures_buffer f2 file i b ≡ figures_buffer f2 file i c

-- ---- demand 1: 'A refusal changes neither worksheet nor lent buffer'

-- Where the files are refused, the buffer stays as it was
abbrev pub NoneWritten : Type 0
NoneWritten =
    (f2 file : List ℕ) (i : Inputs) (b : List Float) (why : Refusal) → files_check f2 file ≡ Err why →
    figures_buffer f2 file i b ≡ b

-- The same by the answer
abbrev pub RefusedLeft : Type 0
RefusedLeft =
    (f2 file : List ℕ) (i : Inputs) (b : List Float) (why : Refusal) → shown_of f2 file i ≡ Err why →
    figures_buffer f2 file i b ≡ b

-- ---- the insurer's question: from the first 7,904 bytes of the record and the first 38,552 of the
-- month file alone; document 01: 'later bytes are ignored'

-- Two pairs of files that have those bytes, and the same ones, give the same figures
abbrev pub LaterFigures : Type 0
LaterFigures =
    (f g s t : List ℕ) → Alike 7904 f g → Alike 38552 s t → (i : Inputs) → figures_of f s i ≡ figures_of g t i

-- the same answer,
abbrev pub LaterAnswer : Type 0
LaterAnswer =
    (f g s t : List ℕ) → Alike 7904 f g → Alike 38552 s t → (i : Inputs) → shown_of f s i ≡ shown_of g t i

-- and leave the same buffer.
abbrev pub LaterBuffer : Type 0
LaterBuffer =
    (f g s t : List ℕ) → Alike 7904 f g → Alike 38552 s t → (i : Inputs) (out : List Float) →
    figures_buffer f s i out ≡ figures_buffer g t i out

-- Two records that have those 7,904 bytes, and the same ones, give the same figures beside any
-- month file,
abbrev pub LaterRecordFigures : Type 0
LaterRecordFigures = (f g : List ℕ) → Alike 7904 f g → (s : List ℕ) (i : Inputs) → figures_of f s i ≡ figures_of g s i

-- and the same answer.
abbrev pub LaterRecordAnswer : Type 0
LaterRecordAnswer = (f g : List ℕ) → Alike 7904 f g → (s : List ℕ) (i : Inputs) → shown_of f s i ≡ shown_of g s i

-- Two month files that have those 38,552 bytes, and the same ones, give the same figures beside any
-- record,
abbrev pub LaterMonthFigures : Type 0
LaterMonthFigures = (s t : List ℕ) → Alike 38552 s t → (f : List ℕ) (i : Inputs) → figures_of f s i ≡ figures_of f t i

-- and the same answer.
abbrev pub LaterMonthAnswer : Type 0
LaterMonthAnswer = (s t : List ℕ) → Alike 38552 s t → (f : List ℕ) (i : Inputs) → shown_of f s i ≡ shown_of f t i

-- ---- demand 2: 'First `gcd`, `gcd_km`, `btr`, `brt`, `rlatd`, `alatd`; then 29 numbers for each
-- of five points'. Places and k are counted from 0, points from 1

-- The path's six figures stand at the places 0 to 5
abbrev pub HeadAt : Type 0
HeadAt =
    (f2 file : List ℕ) (i : Inputs) (k : ℕ) → k < 6 →
    get_or (figures_of f2 file i) k nan ≡ get_or (head_of (sheet_path i)) k nan

-- Number k of point p's row stands at the place 6 + 29 (p - 1) + k
abbrev pub FigureAt : Type 0
FigureAt =
    (f2 file : List ℕ) (i : Inputs) (p k : ℕ) → 1 ≤ p → p ≤ 5 → k < 29 →
    get_or (figures_of f2 file i) (6 + 29 * (p - 1) + k) nan
    ≡ get_or (figure_row (hour_of f2 file i) i (sheet_path i) (p - 1)) k nan

-- Of a point that is there, it is the number k of the 29 of that point of the path
abbrev pub PresentAt : Type 0
PresentAt =
    (f2 file : List ℕ) (i : Inputs) (p k : ℕ) → 1 ≤ p → p ≤ (sheet_path i).count → k < 29 →
    get_or (figures_of f2 file i) (6 + 29 * (p - 1) + k) nan
    ≡ get_or (point_row (hour_of f2 file i) i (get_or (sheet_path i).points (p - 1) nowhere)) k nan

-- 'Rows of absent points are +0.0'
abbrev pub AbsentAt : Type 0
AbsentAt =
    (f2 file : List ℕ) (i : Inputs) (p k : ℕ) → (sheet_path i).count < p → p ≤ 5 → k < 29 →
    get_or (figures_of f2 file i) (6 + 29 * (p - 1) + k) nan ≡ decimal 0 1

-- ---- the insurer's question: what of the inputs the path and the ground come from

-- Two sheets with one route have the same six figures of the path, whatever their other fields, the
-- pole too
abbrev pub SameHead : Type 0
SameHead = (i j : Inputs) → i.route ≡ j.route → head_of (sheet_path i) ≡ head_of (sheet_path j)

-- of a row of 29 numbers the point (4), the field there (3) and the ground (2)
abbrev pub place_and_ground : List Float → List Float
place_and_ground row = take 7 row ++ drop 27 row

-- Two sheets with one route, one pole and one month file have the same point, field and ground in
-- every row, whatever their other fields and their records
abbrev pub PathAndPole : Type 0
PathAndPole =
    (f2 f2' file : List ℕ) (i j : Inputs) → i.route ≡ j.route → i.pole ≡ j.pole → (p : ℕ) →
    place_and_ground (figure_row (hour_of f2 file i) i (sheet_path i) p)
    ≡ place_and_ground (figure_row (hour_of f2' file j) j (sheet_path j) p)

-- Two paths that differ in the pole alone differ in nothing but the points' geomagnetic latitudes
abbrev pub PoleOnly : Type 0
PoleOnly =
    (tlat tlong rlat rlong : Degrees) (long : Bool) (p q : MagneticPole) →
    SamePath (path_of tlat tlong rlat rlong long p) (path_of tlat tlong rlat rlong long q)

-- ---- demand 2: 'Degrees as typed and radians as worked meet only through D2R and R2D'

-- Two routes that go the same way round, whose ends are the same in radians and in the test at 89.9
-- degrees, the receiver taken where it was moved off its transmitter, with poles the same in
-- radians, have the same path but for `rlatd`, which is typed
abbrev pub OnlyRadians : Type 0
OnlyRadians =
    (tlat tlong rlat rlong tlat' tlong' rlat' rlong' : Degrees) (long : Bool) (p q : MagneticPole) →
    SameEnd tlat tlong tlat' tlong' →
    SameEnd (nudged_of tlat tlong rlat rlong) rlong (nudged_of tlat' tlong' rlat' rlong') rlong' → SamePole p q →
    SameWork (path_of tlat tlong rlat rlong long p) (path_of tlat' tlong' rlat' rlong' long q)
