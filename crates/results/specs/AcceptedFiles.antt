-- What of the files? Which files and index tables are accepted, what each refusal names, where the
-- tables stand and what is handed back, as statements, each proved in proofs/AcceptedFiles.antt.
-- Assumes nothing.
use Rattle.std.specs.Prelude.{◌≡◌, List, [], ◌∷◌, ℕ, ◌+◌, ◌-◌, ◌*◌, ◌/◌, ◌≤◌, ◌<◌, T, length, get_or, take, drop, Float, Err, Ok}
use Rattle.std.specs.Float.Ieee.Scale.{finite}
use Rattle.std.specs.Borrow.{Bor}
use Rattle.base.specs.declared.refusal.Refusal.TheVariants.{Ended, Marker, RecordWord, MonthWord, Index}
use Rattle.base.specs.Refusal.{Verdict}
use Rattle.base.specs.Refusal.{verdict_report}
use Rattle.base.specs.Words.{word_at, float_at}
use Rattle.base.specs.MonthFile.{record_size, month_file_size, month_record_check, month_part, sizes, month_file_check, WellMarked}
use Rattle.base.specs.Tables.{tables_by_record, tables, start_of, words_of, xf2cof, PackedRecords, part_of, table_check, table_part, table_file}
use Rattle.base.specs.Index.{index_of, map_word, rows, harmonics, index_check, GoodIndex, Reaches}
use Rattle.base.specs.Blend.{IA, IB, IC}
use Rattle.base.specs.Finite.{record_words_check, table_words_check, FiniteRecord, FiniteMonth}
use Rattle.base.specs.Files.{file_check, files_check}
use Rattle.maps.specs.declared.inputs.Inputs.{Inputs}
use Rattle.maps.specs.Figures.{sheet_path, figures_of, shown_of, figures_buffer}
use Rattle.results.specs.LaterBytes.{Alike}
use Rattle.results.specs.ExhibitedFiles.{good_record, good_month_file, Below}

-- ---- demand 1: the month file's check does its work or refuses by number, and names who earns it

-- The check accepts exactly the files that have 38,552 bytes or more and the 18 markers right.
abbrev pub MonthFileGood : Type 0
MonthFileGood =
    (s : List ℕ) →
    (month_file_check s ≡ Ok tt → WellMarked s) × (WellMarked s → month_file_check s ≡ Ok tt)

-- the bytes of records of these sizes, with their markers
abbrev pub with_markers : List ℕ → ℕ
with_markers [] = 0
with_markers (n ∷ ns) = n + 8 + with_markers ns

-- the markers of records of the sizes ns from `at` on are right, as far as the file goes
abbrev pub RightSoFar : List ℕ → ℕ → List ℕ → Type 0
RightSoFar s at [] = Unit
RightSoFar s at (n ∷ ns) =
    (at + 4 ≤ length s → word_at s at ≡ n)
    × (at + n + 8 ≤ length s → word_at s (at + n + 4) ≡ n)
    × RightSoFar s (at + n + 8) ns

-- the file ends before the records of the sizes ns from `at` on do, the markers that it has are
-- right, and the first four bytes that are not all there are at p
pub record EndsAt (s : List ℕ) (at : ℕ) (ns : List ℕ) (p : ℕ) : Type 0 where
  pub short : length s < at + with_markers ns
  pub place : p ≡ length s / 4 * 4
  pub right : RightSoFar s at ns

-- 'each refusal names the only inputs that earn it': 9 at p exactly where the file is short, the
-- markers that it has are right, and the first four bytes that are not all there are at p.
abbrev pub EndedRefused : Type 0
EndedRefused =
    (s : List ℕ) (p : ℕ) →
    (month_file_check s ≡ Err (Ended p) → EndsAt s 0 sizes p)
    × (EndsAt s 0 sizes p → month_file_check s ≡ Err (Ended p))

-- of the markers of records of the sizes ns from `at` on, the first wrong one is at p
pub data FirstWrong (s : List ℕ) : ℕ → List ℕ → ℕ → Type 0 where
  opening : {at n : ℕ} {ns : List ℕ} → (word_at s at ≡ n → ⊥) → FirstWrong s at (n ∷ ns) at
  closing :
      {at n : ℕ} {ns : List ℕ} → word_at s at ≡ n → (word_at s (at + n + 4) ≡ n → ⊥) →
      FirstWrong s at (n ∷ ns) (at + n + 4)
  beyond :
      {at n p : ℕ} {ns : List ℕ} → word_at s at ≡ n → word_at s (at + n + 4) ≡ n → FirstWrong s (at + n + 8) ns p →
      FirstWrong s at (n ∷ ns) p

-- the first wrong marker is at p, and its four bytes are there
pub record WrongMarker (s : List ℕ) (at : ℕ) (ns : List ℕ) (p : ℕ) : Type 0 where
  pub there : p + 4 ≤ length s
  pub first : FirstWrong s at ns p

-- 10 at p exactly where the first wrong marker is at p, its four bytes being there.
abbrev pub MarkerRefused : Type 0
MarkerRefused =
    (s : List ℕ) (p : ℕ) →
    (month_file_check s ≡ Err (Marker p) → WrongMarker s 0 sizes p)
    × (WrongMarker s 0 sizes p → month_file_check s ≡ Err (Marker p))

pub data FileAnswer : Verdict → Type 0 where
  taken : FileAnswer (Ok tt)
  ended : (p : ℕ) → FileAnswer (Err (Ended p))
  wrong : (p : ℕ) → FileAnswer (Err (Marker p))

-- Accepted, 9 and 10 are all the answers that there are.
abbrev pub FileAnswers : Type 0
FileAnswers = (s : List ℕ) → FileAnswer (month_file_check s)

-- A good file cut to n bytes, fewer than 38,552, is refused by 9 at the last multiple of four up to
-- n, where the walk stops.
abbrev pub CutAnywhere : Type 0
CutAnywhere =
    (s : List ℕ) (n : ℕ) → WellMarked s → n < month_file_size → month_file_check (take n s) ≡ Err (Ended (n / 4 * 4))

-- ---- demand 1: the index check

-- the words of the map k, counted from 0, are good
abbrev pub GoodWords : List ℕ → ℕ → Type 0
GoodWords month k = GoodIndex (map_word (index_of month) k) (get_or rows k 0) (get_or harmonics k 0)

-- The check accepts exactly where the words of all six maps are good.
abbrev pub IndexGood : Type 0
IndexGood =
    (month : List ℕ) →
    (index_check month ≡ Ok tt → (k : ℕ) → k < 6 → GoodWords month k)
    × (((k : ℕ) → k < 6 → GoodWords month k) → index_check month ≡ Ok tt)

-- the map `place`, counted from 1, is bad and those before it are good
pub record LowestBad (month : List ℕ) (place : ℕ) : Type 0 where
  pub low : 1 ≤ place
  pub high : place ≤ 6
  pub bad : GoodWords month (place - 1) → ⊥
  pub before : (k : ℕ) → k < place - 1 → GoodWords month k

-- '11, place the lowest bad map 1 to 6': exactly there.
abbrev pub IndexRefused : Type 0
IndexRefused =
    (month : List ℕ) (place : ℕ) →
    (index_check month ≡ Err (Index place) → LowestBad month place)
    × (LowestBad month place → index_check month ≡ Err (Index place))

-- `virtim` reads the row j of the map k up to the harmonic h: the last of them, `cof[isubc]` or for
-- h = 0 `cof[isubb - 1]`, lies in the map's own run of COFION and so in COFION; and `ab[isuba - 1]`
-- lies in the map's own part of AB and so in AB
pub record RowInside (k j h : ℕ) : Type 0 where
  pub own : get_or IA k 0 - 1 + j * get_or IB k 0 + 2 * h < get_or IA k 0 - 1 + get_or rows k 0 * get_or IB k 0
  pub all : get_or IA k 0 - 1 + j * get_or IB k 0 + 2 * h < 2604
  pub own_result : get_or IC k 0 - 1 + j < get_or IC k 0 - 1 + get_or rows k 0
  pub result : get_or IC k 0 - 1 + j < 318

-- Of a table that passes, for every row up to word 8 and every harmonic up to word 9, what `virtim`
-- reads lies in the map's own run of COFION and what it writes in the map's own part of AB.
abbrev pub VirtimInside : Type 0
VirtimInside =
    (month : List ℕ) → index_check month ≡ Ok tt → (k : ℕ) → k < 6 →
    (j h : ℕ) → j ≤ map_word (index_of month) k 8 → h ≤ map_word (index_of month) k 9 → RowInside k j h

-- And every word that the ladder reaches is below 76, up to which `versy` writes its basis of 76
-- numbers, and so is word 8, up to which it reads it.
abbrev pub VersyInside : Type 0
VersyInside =
    (month : List ℕ) → index_check month ≡ Ok tt → (k : ℕ) → k < 6 →
    let w = map_word (index_of month) k in ((j : ℕ) → j ≤ 8 → Reaches w j → w j < 76) × (w 8 < 76)

-- ---- request 10: the words of the tables

-- The check of a record's words accepts exactly where each of its 1,976 words is a finite number,
abbrev pub RecordWordsGood : Type 0
RecordWordsGood =
    (f2 : List ℕ) →
    (record_words_check f2 1 ≡ Ok tt → FiniteRecord f2) × (FiniteRecord f2 → record_words_check f2 1 ≡ Ok tt)

-- and that of a month file's words exactly where each word of its tables but `ikim` is.
abbrev pub MonthWordsGood : Type 0
MonthWordsGood =
    (month : List ℕ) →
    (table_words_check month ≡ Ok tt → FiniteMonth month) × (FiniteMonth month → table_words_check month ≡ Ok tt)

-- the first word of the record that is no finite number is at the byte p
pub record FirstInRecord (f2 : List ℕ) (p : ℕ) : Type 0 where
  pub word : ℕ
  pub inside : word < words_of xf2cof
  pub place : p ≡ 4 * word
  pub bad : T (finite (float_at f2 p)) → ⊥
  pub before : (i : ℕ) → i < word → T (finite (float_at f2 (4 * i)))

-- the record is whole, the month file passes its walk, and p is the record's first such byte
pub record RecordRefused (f2 month : List ℕ) (p : ℕ) : Type 0 where
  pub whole : record_size ≤ length f2
  pub walked : month_file_check month ≡ Ok tt
  pub first : FirstInRecord f2 p

-- '23, place the first such word's byte within record or month file, the record first, after 10 and
-- before 11': it is given of the record at p exactly where the record is whole, the month file passes
-- its walk, and the record's first word that is no finite number is at p, whatever the index table,
abbrev pub RecordWordRefused : Type 0
RecordWordRefused =
    (f2 month : List ℕ) (p : ℕ) →
    (files_check f2 month ≡ Err (RecordWord p) → RecordRefused f2 month p)
    × (RecordRefused f2 month p → files_check f2 month ≡ Err (RecordWord p))

-- the first word of the month file's tables, `ikim` left out, that is no finite number is at the byte
-- p, tables coming in the order of the file
pub record FirstInMonth (month : List ℕ) (p : ℕ) : Type 0 where
  pub table : ℕ
  pub word : ℕ
  pub low : 2 ≤ table
  pub high : table ≤ 20
  pub inside : word < words_of table
  pub place : p ≡ start_of table + 4 * word
  pub bad : T (finite (float_at month p)) → ⊥
  pub earlier :
      (t i : ℕ) → 2 ≤ t → t < table → i < words_of t → T (finite (float_at month (start_of t + 4 * i)))
  pub before : (i : ℕ) → i < word → T (finite (float_at month (start_of table + 4 * i)))

-- the record is whole and of finite numbers, the month file passes its walk, and p is its first such
-- byte
pub record MonthRefused (f2 month : List ℕ) (p : ℕ) : Type 0 where
  pub whole : record_size ≤ length f2
  pub walked : month_file_check month ≡ Ok tt
  pub record_finite : FiniteRecord f2
  pub first : FirstInMonth month p

-- and of the month file at p exactly where the record is whole and of finite numbers, the month file
-- passes its walk, and the first word of its tables but `ikim` that is no finite number is at p.
abbrev pub MonthWordRefused : Type 0
MonthWordRefused =
    (f2 month : List ℕ) (p : ℕ) →
    (files_check f2 month ≡ Err (MonthWord p) → MonthRefused f2 month p)
    × (MonthRefused f2 month p → files_check f2 month ≡ Err (MonthWord p))

-- the month file passes its walk, and p is its first such byte
pub record FileRefused (month : List ℕ) (p : ℕ) : Type 0 where
  pub walked : month_file_check month ≡ Ok tt
  pub first : FirstInMonth month p

-- Of a month file by itself 23 is given at p exactly where it passes its walk and the first word of its
-- tables but `ikim` that is no finite number is at p.
abbrev pub FileWordRefused : Type 0
FileWordRefused =
    (month : List ℕ) (p : ℕ) →
    (file_check month ≡ Err (MonthWord p) → FileRefused month p)
    × (FileRefused month p → file_check month ≡ Err (MonthWord p))

-- the record is whole, the month file passes its walk, all words are finite, and the lowest bad map of
-- the index table is `place`
pub record IndexLast (f2 month : List ℕ) (place : ℕ) : Type 0 where
  pub whole : record_size ≤ length f2
  pub walked : month_file_check month ≡ Ok tt
  pub record_finite : FiniteRecord f2
  pub month_finite : FiniteMonth month
  pub lowest : LowestBad month place

-- 11 of both files is given exactly where the record is whole, the month file passes its walk, each
-- word of the record and of the tables but `ikim` is a finite number, and the place is the lowest bad
-- map.
abbrev pub IndexRefusedLast : Type 0
IndexRefusedLast =
    (f2 month : List ℕ) (place : ℕ) →
    (files_check f2 month ≡ Err (Index place) → IndexLast f2 month place)
    × (IndexLast f2 month place → files_check f2 month ≡ Err (Index place))

-- the record is whole, the month file passes its walk, all words are finite and the index table is
-- good
pub record GoodFiles (f2 month : List ℕ) : Type 0 where
  pub whole : record_size ≤ length f2
  pub walked : month_file_check month ≡ Ok tt
  pub record_finite : FiniteRecord f2
  pub month_finite : FiniteMonth month
  pub index : index_check month ≡ Ok tt

-- Both files are accepted exactly where the record is whole, the month file passes its walk, each word
-- of the record and of the tables but `ikim` is a finite number, and the index table is good.
abbrev pub FilesGood : Type 0
FilesGood =
    (f2 month : List ℕ) →
    (files_check f2 month ≡ Ok tt → GoodFiles f2 month) × (GoodFiles f2 month → files_check f2 month ≡ Ok tt)

-- ---- demand 1: 'refusing always is shut out': files that are accepted

-- A month file that is written out passes the walk.
abbrev pub MonthFileAccepted : Type 0
MonthFileAccepted = month_file_check good_month_file ≡ Ok tt

-- And the index check.
abbrev pub IndexAccepted : Type 0
IndexAccepted = index_check good_month_file ≡ Ok tt

-- With a record beside it both files are accepted.
abbrev pub FilesAccepted : Type 0
FilesAccepted = files_check good_record good_month_file ≡ Ok tt

-- The month file is made of bytes.
abbrev pub FileOfBytes : Type 0
FileOfBytes = Below 256 good_month_file

-- Over these files `figures`, which judges no field, answers any inputs with the number of their
-- points.
abbrev pub SheetShown : Type 0
SheetShown = (x : Inputs) → shown_of good_record good_month_file x ≡ Ok (sheet_path x).count

-- And writes their figures, whatever the buffer held.
abbrev pub SheetWritten : Type 0
SheetWritten =
    (x : Inputs) (out : List Float) →
    figures_buffer good_record good_month_file x out ≡ figures_of good_record good_month_file x

-- ---- demand 2: the tables' places

-- In each of the nine records the tables make up its bytes and stand one after the other with
-- nothing between, and the last record ends at 38,552.
abbrev pub TablesPacked : Type 0
TablesPacked = PackedRecords 0 month_file_size sizes tables_by_record

-- There are 20 of them.
abbrev pub TwentyTables : Type 0
TwentyTables = length tables ≡ 20

-- An F2 record is its planes and nothing else.
abbrev pub PlanesFill : Type 0
PlanesFill = part_of xf2cof ≡ record { from = 0; size = record_size }

-- ---- demand 1: Table and Month record

-- The part of an accepted Table has 8 bytes or more, all of them inside the file that holds it.
abbrev pub TableInside : Type 0
TableInside =
    (number : ℕ) (f m : Bor (List ℕ)) → table_check number f.now m.now ≡ Ok tt →
    let part = table_part number f.now m.now in
    (8 ≤ part.size) × (part.from + part.size ≤ length (table_file number f m).now)

-- The part of an accepted month record has 7,904 bytes, all of them inside the file.
abbrev pub MonthInside : Type 0
MonthInside =
    (s : List ℕ) (m : ℕ) → month_record_check s m ≡ Ok tt →
    ((month_part s m).size ≡ record_size) × ((month_part s m).from + (month_part s m).size ≤ length s)

-- nothing is refused: the number is at most 20, and both files are good
pub record TableGood (number : ℕ) (f m : List ℕ) : Type 0 where
  pub known : number ≤ 20
  pub planes : record_size ≤ length f
  pub walked : month_file_check m ≡ Ok tt

-- 'it gives 0 and 0 exactly when nothing is refused': of a table the one way.
abbrev pub ZeroThere : Type 0
ZeroThere = (number : ℕ) (f m : List ℕ) → verdict_report (table_check number f m) ≡ (0, 0) → TableGood number f m

-- And the other.
abbrev pub ThereZero : Type 0
ThereZero = (number : ℕ) (f m : List ℕ) → TableGood number f m → verdict_report (table_check number f m) ≡ (0, 0)

-- there is such a month, and the file reaches to the end of its record
pub record MonthGood (s : List ℕ) (m : ℕ) : Type 0 where
  pub low : 1 ≤ m
  pub high : m ≤ 12
  pub room : m * record_size ≤ length s

-- The record of a month 1 to 12, to whose end the file reaches, is accepted.
abbrev pub MonthAccepted : Type 0
MonthAccepted = (s : List ℕ) (m : ℕ) → MonthGood s m → month_record_check s m ≡ Ok tt

-- 'it gives 0 and 0 exactly when nothing is refused', of a month's record.
abbrev pub MonthZero : Type 0
MonthZero =
    (s : List ℕ) (m : ℕ) →
    (verdict_report (month_record_check s m) ≡ (0, 0) → MonthGood s m)
    × (MonthGood s m → verdict_report (month_record_check s m) ≡ (0, 0))

-- ---- demand 1: 'later bytes are ignored'

-- Files that agree in the bytes that are needed, 7,904 of the record and 38,552 of the month file,
-- have the same check of Table.
abbrev pub TableCheckLater : Type 0
TableCheckLater =
    (number : ℕ) (f g s t : List ℕ) → Alike record_size f g → Alike month_file_size s t →
    table_check number f s ≡ table_check number g t

-- The part that is handed back lies in the same place,
abbrev pub TablePartLater : Type 0
TablePartLater =
    (number : ℕ) (f g s t : Bor (List ℕ)) → Alike record_size f.now g.now → Alike month_file_size s.now t.now →
    table_part number f.now s.now ≡ table_part number g.now t.now

-- and has the same bytes.
abbrev pub TableBytesLater : Type 0
TableBytesLater =
    (number : ℕ) (f g s t : Bor (List ℕ)) → Alike record_size f.now g.now → Alike month_file_size s.now t.now →
    let p = table_part number f.now s.now in
    let q = table_part number g.now t.now in
    take p.size (drop p.from (table_file number f s).now)
    ≡
    take q.size (drop q.from (table_file number g t).now)

-- Files that agree up to the end of the month's record have the same check of Month record.
abbrev pub MonthCheckLater : Type 0
MonthCheckLater = (s t : List ℕ) (m : ℕ) → Alike (m * record_size) s t → month_record_check s m ≡ month_record_check t m

-- Its part lies in the same place,
abbrev pub MonthPartLater : Type 0
MonthPartLater = (s t : List ℕ) (m : ℕ) → Alike (m * record_size) s t → month_part s m ≡ month_part t m

-- and has the same bytes.
abbrev pub MonthBytesLater : Type 0
MonthBytesLater =
    (s t : List ℕ) (m : ℕ) → Alike (m * record_size) s t →
    let p = month_part s m in
    let q = month_part t m in
    take p.size (drop p.from s) ≡ take q.size (drop q.from t)
