-- What of a year file? Document 02, request 01: which directories are accepted and what 19 names,
-- where the parts lie, what a showing refuses and what it takes, that there are such showings, that
-- `sheet` is as before, and demand 3 and the insurer's sentence with one year file lent throughout.
-- The words stand in crates/base/specs/Year.antt (`year_check`, `pair_part`),
-- crates/packing/specs/Pack.antt (`packed`) and crates/worksheet/specs/Showing.antt (`year_files`,
-- `yearly`). Pairs and parts are counted from 0 here, but those that a refusal names, which are
-- counted from 1. Where the library's calls are named, the numbers of their changes are values of an
-- f32 (`CallsSingles`), as every number that crosses is. Assumes nothing.
use Rattle.std.specs.Prelude.{List, [], ◌∷◌, ◌++◌, map, ◌⊎◌, ◌≡◌, ℕ, ◌+◌, ◌-◌, ◌*◌, ◌≤◌, ◌<◌, T, leb, length, get_or, take, drop, replicate, Float, Err, Ok}
use Rattle.base.specs.declared.refusal.Refusal.TheVariants.{Record, Year}
use Rattle.base.specs.Refusal.{Verdict}
use Rattle.base.specs.Refusal.{refuse_unless, ◌then◌}
use Rattle.base.specs.Ranges.{is_month, is_bit}
use Rattle.base.specs.Finite.{record_words_check, table_words_check, FiniteRecord}
use Rattle.base.specs.Index.{index_check}
use Rattle.base.specs.Files.{file_check}
use Rattle.base.specs.MonthFile.{record_size, month_start, month_file_check}
use Rattle.base.specs.Year.{directory_size, offset_at, length_at, end_at, floor_at, year_check, pair_part, part_bytes}
use Rattle.packing.specs.Pack.{part_check, packed}
use Rattle.maps.specs.declared.inputs.Inputs.{Inputs}
use Rattle.maps.specs.Figures.{sheet_path, figures_of}
use Rattle.worksheet.specs.declared.inputs.Edit.TheVariants.{Month, Model}
use Rattle.worksheet.specs.declared.desks.Worksheet.{Worksheet}
use Rattle.worksheet.specs.Inputs.{inputs_check, edited}
use Rattle.worksheet.specs.Desks.{open_of, opened_of, sheet_opened_of}
use Rattle.worksheet.specs.Showing.{year_files_check, yearly, inputs_shown, asked_check, buffer_check, show_check}
use Rattle.worksheet.specs.Journal.{Call, begin, change, commit, show, told, shown, Entry, step, run, Demand3}
use Rattle.worksheet.specs.InForce.{changed, Insured}
use Rattle.jutetrowel.specs.declared.answers.Showing.{Showing}
use Rattle.jutetrowel.specs.Words.{worksheet_of, words_after}
use Rattle.jutetrowel.specs.Calls.{CallsSingles, Shows, entries_over, words_over, Demand3Over}
use Rattle.results.specs.Insurer.{accepted_showing}
use Rattle.results.specs.ExhibitedFiles.{good_month_file, Below}

-- ---- request 01: the directory's rule

-- the rule as document 02 has it, of whole numbers: no sum wraps
pub record GoodYear (s : List ℕ) : Type 0 where
  -- '14 pairs of offset and length, u32 little-endian, 112 bytes'
  pub whole : directory_size ≤ length s
  -- 'The first offset is at least 112'
  pub first : directory_size ≤ offset_at s 0
  -- 'each part starts at or after the end of the one before'
  pub ordered : (k : ℕ) → k < 13 → end_at s k ≤ offset_at s (k + 1)
  -- 'and the last ends within the file'
  pub last : end_at s 13 ≤ length s

-- The check accepts exactly the files whose directory keeps the rule.
abbrev pub YearGood : Type 0
YearGood = (s : List ℕ) → (year_check s ≡ Ok tt → GoodYear s) × (GoodYear s → year_check s ≡ Ok tt)

-- the pair p, counted from 1, 'is not wholly there or breaks a rule'
pub data BrokenPair (s : List ℕ) (p : ℕ) : Type 0 where
  cut : length s < 8 * p → BrokenPair s p
  early : offset_at s (p - 1) < floor_at s (p - 1) → BrokenPair s p
  beyond : p ≡ 14 → length s < end_at s 13 → BrokenPair s p

-- 'the lowest such pair from 1 to 14'
pub record LowestBroken (s : List ℕ) (p : ℕ) : Type 0 where
  pub low : 1 ≤ p
  pub high : p ≤ 14
  pub broken : BrokenPair s p
  pub before : (q : ℕ) → 1 ≤ q → q < p → BrokenPair s q → ⊥

-- 19 names p exactly where p is the lowest pair that is not wholly there or breaks a rule.
abbrev pub YearRefused : Type 0
YearRefused =
    (s : List ℕ) (p : ℕ) →
    (year_check s ≡ Err (Year p) → LowestBroken s p)
    × (LowestBroken s p → year_check s ≡ Err (Year p))

pub data YearAnswer : Verdict → Type 0 where
  taken : YearAnswer (Ok tt)
  broken : (p : ℕ) → YearAnswer (Err (Year p))

-- Accepted and 19 are all the answers that there are.
abbrev pub YearAnswers : Type 0
YearAnswers = (s : List ℕ) → YearAnswer (year_check s)

-- ---- request 01: the parts of an accepted year

-- Each of the fourteen parts is where its pair says, behind the directory and within the file.
abbrev pub PartsInside : Type 0
PartsInside =
    (s : List ℕ) → year_check s ≡ Ok tt → (k : ℕ) → k < 14 →
    (pair_part s k ≡ record { from = offset_at s k; size = length_at s k })
    × (directory_size ≤ offset_at s k) × (end_at s k ≤ length s)

-- No two of them overlap: each ends at or before the start of every later one.
abbrev pub PartsApart : Type 0
PartsApart =
    (s : List ℕ) → year_check s ≡ Ok tt → (j k : ℕ) → j < k → k < 14 → end_at s j ≤ offset_at s k

-- Any fourteen files, put one after the other behind their directory (`packed`; `seal` makes it up to
-- 1,048,576 bytes), are an accepted year. From 2^32 - 112 bytes together on its pairs need not be
-- bytes any more.
abbrev pub PackedAccepted : Type 0
PackedAccepted = (parts : List (List ℕ)) → length parts ≡ 14 → year_check (packed parts) ≡ Ok tt

-- And each is handed back as it was put in.
abbrev pub PackedParts : Type 0
PackedParts =
    (parts : List (List ℕ)) → length parts ≡ 14 → (k : ℕ) → k < 14 →
    part_bytes (packed parts) (pair_part (packed parts) k) ≡ get_or parts k []

-- ---- request 01: what a year file refuses

-- the bytes that the pair k says
abbrev pub part_at : List ℕ → ℕ → List ℕ
part_at s k = take (length_at s k) (drop (offset_at s k) s)

-- '8 is given when the chosen model's part has under month × 7,904 bytes'
abbrev pub record_check : List ℕ → ℕ → ℕ → Verdict
record_check s month model = refuse_unless (leb (month * record_size) (length (part_at s (12 + model)))) Record

-- the month's record in the part of the model
abbrev pub record_at : List ℕ → ℕ → ℕ → List ℕ
record_at s month model = take record_size (drop (month_start month) (part_at s (12 + model)))

-- what is refused of the two, 'after 10 and before 11' by the words of the record and then of the part
abbrev pub picked_check : List ℕ → ℕ → ℕ → Verdict
picked_check s month model =
    let part = part_at s (month - 1) in
    month_file_check part then record_words_check (record_at s month model) 1 then table_words_check part then index_check part

-- Of a month from 1 to 12 and a model of 0 or 1 a year file refuses exactly this: by 19 where its
-- directory is refused, else by 8 where the model's own part has under month × 7,904 bytes, else by
-- 9 or 10 what is refused in the month's own part, else by 23 a word of the month's record in the
-- model's part, then one of the month's part, else by 11; so that no other part refuses anything.
abbrev pub YearFilesExactly : Type 0
YearFilesExactly =
    (s : List ℕ) (month model : ℕ) → T (is_month month) → T (is_bit model) →
    year_files_check s month model
    ≡ (year_check s then record_check s month model then picked_check s month model)

-- A showing over a year file, of the worksheet or of a desk, on any worksheet, refuses exactly this,
-- of which the first decides: 14 and 16, the 15 fields of the inputs shown, 12, 19, then 8 by the
-- part of the inputs' own model, 9 and 10 by that of their own month, 23 by the month's record and by
-- that part, and 11; the places of 9, 10 and the part's 23 count from the part's start, those of the
-- record's 23 from the record's.
abbrev pub YearShowingExactly : Type 0
YearShowingExactly =
    (s : List ℕ) (n size : ℕ) (w : Worksheet) →
    let i = inputs_shown n w in
    show_check (yearly s) n size w
    ≡
    (asked_check n w
    then inputs_check i
    then buffer_check size
    then year_check s
    then record_check s i.month i.model
    then picked_check s i.month i.model)

-- ---- request 01: 'Showing picks its parts by these two'

-- the figures are those of one month, one model and their own two parts: of the inputs i, over the
-- record of their month in the part of their model, and the part of their month
pub record OwnParts (s : List ℕ) (i : Inputs) (count : ℕ) (figures : List Float) : Type 0 where
  pub month_low : 1 ≤ i.month
  pub month_high : i.month ≤ 12
  -- '(0 CCIR, 1 URSI)', the parts 12 and 13
  pub model : (i.model ≡ 0) ⊎ (i.model ≡ 1)
  pub directory : GoodYear s
  pub room : i.month * record_size ≤ length (part_at s (12 + i.model))
  pub words : FiniteRecord (record_at s i.month i.model)
  pub file : file_check (part_at s (i.month - 1)) ≡ Ok tt
  pub points : count ≡ (sheet_path i).count
  pub whole : figures ≡ figures_of (record_at s i.month i.model) (part_at s (i.month - 1)) i

-- Every accepted showing over a year file, of the worksheet or of a desk, on any worksheet, is of
-- one month, one model and their own two parts: those of the inputs shown.
abbrev pub OneMonthOneModel : Type 0
OneMonthOneModel =
    (s : List ℕ) (w : Worksheet) (n : ℕ) (lent figures : List Float) (count : ℕ) →
    (step (yearly s) (show n lent) w).answer ≡ shown (Ok count) figures →
    OwnParts s (inputs_shown n w) count figures

-- ---- demand 3 and the insurer's question, 'with the year file lent throughout', whatever months
-- and models the changes carry

-- Of every list of calls on a worksheet that opens, with one year file lent throughout: run on the
-- same worksheet, the shorter list of document 01 answers call by call as in the full list, and
-- inputs, month and model among them, and earlier set end the same.
abbrev pub DemandThreeYear : Type 0
DemandThreeYear =
    (s : List ℕ) (i : Inputs) → (open_of i).answer ≡ Ok tt → (cs : List Call) →
    Demand3 (yearly s) (open_of i).sheet cs

-- The same of the library's calls, whose showings are by `jt_show_year`, each on the words that the
-- one before it left, from all words that open.
abbrev pub DemandThreeYearOver : Type 0
DemandThreeYearOver =
    (s words lent : List ℕ) → (opened_of words).answer ≡ Ok tt → (cs : List Call) → CallsSingles cs →
    Demand3Over (yearly s) (words_after (opened_of words) lent) cs

-- a showing is insured, and of one month, one model and their own two parts
pub record InsuredInYear
    (s : List ℕ) (start : Inputs) (entries : List Entry) (count : ℕ) (figures : List Float) : Type 0
  where
    pub insured : Insured (yearly s) start entries count figures
    pub own_parts : OwnParts s (changed start insured.edits) count figures

-- Of every list of calls on a worksheet that opens, with one year file lent throughout: each
-- accepted showing of the worksheet gave the number of points and all figures of ONE set of inputs:
-- the opened inputs with the changes of exactly those commits before the showing that were accepted
-- and not taken back before it, in their order; each of these changes, as a value, was made in a
-- draft that was committed and never cancelled; and the figures are from that set's own month and
-- model: the month's part of the file, and the month's record in the model's part.
abbrev pub InsurersSentenceYear : Type 0
InsurersSentenceYear =
    (s : List ℕ) (opened : Inputs) → (open_of opened).answer ≡ Ok tt →
    (cs : List Call) (before later : List Entry) (lent figures : List Float) (count : ℕ) →
    (run (yearly s) cs (open_of opened).sheet).entries ≡ before ++ (accepted_showing lent count figures ∷ later) →
    InsuredInYear s opened before count figures

-- The same of the library's calls, whose showings are by `jt_show_year`, each on the words that the
-- one before it left, whatever words were lent to the open.
abbrev pub InsurersSentenceYearOver : Type 0
InsurersSentenceYearOver =
    (s words lent : List ℕ) → (opened_of words).answer ≡ Ok tt → (cs : List Call) → CallsSingles cs →
    (before later : List Entry) (buffer figures : List Float) (count : ℕ) →
    entries_over (yearly s) cs (words_after (opened_of words) lent)
    ≡ before ++ (accepted_showing buffer count figures ∷ later) →
    InsuredInYear s (opened_of words).sheet.inputs before count figures

-- The same by what the caller sees: after an open that is accepted and any list of the library's
-- calls, `jt_show_year` of the worksheet hands back r and leaves `figures` in the buffer; where r's
-- number is 0, the figures and r's points are so insured.
abbrev pub InsurersSentenceYearHanded : Type 0
InsurersSentenceYearHanded =
    (s words lent : List ℕ) → (opened_of words).answer ≡ Ok tt → (cs : List Call) → CallsSingles cs →
    (buffer figures : List Float) (r : Showing) →
    let l = words_after (opened_of words) lent in
    Shows (step (yearly s) (show 0 buffer) (worksheet_of (words_over (yearly s) cs l))).answer r figures →
    r.number ≡ 0 →
    InsuredInYear s (opened_of words).sheet.inputs (entries_over (yearly s) cs l) r.points figures

-- ---- and there are such showings

-- After every list of calls on a worksheet that opens, a showing of the worksheet in a buffer of 151
-- numbers is accepted where the year file refuses nothing of the month and model that the inputs
-- have then: with the number of points and the figures of these inputs, from their own two parts.
abbrev pub YearAlwaysShown : Type 0
YearAlwaysShown =
    (s : List ℕ) (opened : Inputs) → (open_of opened).answer ≡ Ok tt →
    (cs : List Call) (lent : List Float) → length lent ≡ 151 →
    let w = (run (yearly s) cs (open_of opened).sheet).sheet in
    let i = w.inputs in
    year_files_check s i.month i.model ≡ Ok tt →
    (step (yearly s) (show 0 lent) w).answer
    ≡
    shown (Ok (sheet_path i).count)
    (figures_of (record_at s i.month i.model) (part_at s (i.month - 1)) i)

-- every month and model of the year file can be shown
abbrev pub AllShown : List ℕ → Type 0
AllShown s =
    (month model : ℕ) → T (is_month month) → T (is_bit model) → year_files_check s month model ≡ Ok tt

-- Of fourteen files, put together, all months and models can be shown exactly where each file passes
-- the check that the program `year` makes of it (`part_check`).
abbrev pub PackedShown : Type 0
PackedShown =
    (parts : List (List ℕ)) → length parts ≡ 14 →
    (((k : ℕ) → k < 14 → part_check k (get_or parts k []) ≡ Ok tt) → AllShown (packed parts))
    × (AllShown (packed parts) → (k : ℕ) → k < 14 → part_check k (get_or parts k []) ≡ Ok tt)

-- a year file that is written out: twelve good month files, and two `.daw` files of zeros
abbrev pub good_year : List ℕ
good_year = packed (replicate 12 good_month_file ++ replicate 2 (replicate (12 * record_size) 0))

-- There is a year file all of whose months and models can be shown,
abbrev pub GoodYearShown : Type 0
GoodYearShown = AllShown good_year

-- and it is made of bytes.
abbrev pub GoodYearBytes : Type 0
GoodYearBytes = Below 256 good_year

-- desk 1 changes month and model, and commits: December, URSI
abbrev pub to_december : List Float → List Call
to_december lent = begin 1 ∷ change 1 (Month 12) ∷ change 1 (Model 1) ∷ commit 1 ∷ show 0 lent ∷ []

-- Over every year file that refuses nothing of month 12 and URSI, so over that one, on every
-- worksheet that opens, desk 1's begin, its changes to month 12 and to URSI and its commit are all
-- accepted, and the showing of the worksheet after them in every buffer of 151 numbers is of the
-- opened inputs with month 12 and model 1, from December's part and December's record in URSI's.
abbrev pub DecemberShown : Type 0
DecemberShown =
    (s : List ℕ) → year_files_check s 12 1 ≡ Ok tt →
    (opened : Inputs) → (open_of opened).answer ≡ Ok tt → (lent : List Float) → length lent ≡ 151 →
    let i = edited (Model 1) (edited (Month 12) opened) in
    map (λ (e : Entry). e.answer) (run (yearly s) (to_december lent) (open_of opened).sheet).entries
    ≡
    told (Ok tt)
    ∷ told (Ok tt)
    ∷ told (Ok tt)
    ∷ told (Ok tt)
    ∷ shown (Ok (sheet_path i).count) (figures_of (record_at s 12 1) (part_at s 11) i)
    ∷ []

-- ---- '`sheet` keeps its 14 words and two files, with model 0'

-- What a sheet's words open is what the first 56 bytes of them open, the model of which, not being
-- there, counts as 0: whatever comes after does not count.
abbrev pub SheetOpenedFirst : Type 0
SheetOpenedFirst = (s : List ℕ) → sheet_opened_of s ≡ opened_of (take 56 s)

-- The figures of inputs over a record and a month file, and their path, are the same whatever word
-- the model is; which words are refused, the check of the fields says.
abbrev pub ModelOnlyPicks : Type 0
ModelOnlyPicks =
    (f2 file : List ℕ) (i : Inputs) (m : ℕ) →
    (sheet_path (edited (Model m) i) ≡ sheet_path i) × (figures_of f2 file (edited (Model m) i) ≡ figures_of f2 file i)
