-- The 20 tables of the month file and, as number 0, the planes of the F2 record: where each stands,
-- from the records' sizes and the shapes of the Rust's arrays, and where each entry of its array;
-- and document 01's Table. Assumes nothing.
use Rattle.std.specs.Prelude.{◌≡◌, ℕ, ◌+◌, ◌*◌, ◌/◌, ◌<◌, ◌≤◌, cond, List, [], ◌∷◌, ◌++◌, length, ◌==◌, nat_le, slice_index_or, Err}
use Rattle.std.specs.Borrow.{Bor}
use Rattle.base.specs.declared.refusal.Refusal.TheVariants.{Record, Table as NoTable}
use Rattle.base.specs.Refusal.{Verdict}
use Rattle.base.specs.Refusal.{is_accepted}
use Rattle.base.specs.MonthFile.{Part, empty_part, record_size, sizes, month_file_check}

-- ---- shapes

-- the arrays of each record, in `parse_month_file`'s order; of each its dimensions, the innermost
-- first
abbrev pub shapes : List (List (List ℕ))
shapes =
    -- ikim
    ((10 ∷ 6 ∷ []) ∷ [])
    -- fakp, fakabp
    ∷ ((29 ∷ 16 ∷ 6 ∷ []) ∷ (2 ∷ 6 ∷ []) ∷ [])
    -- dud, fam, sys
    ∷ ((5 ∷ 12 ∷ 5 ∷ []) ∷ (14 ∷ 12 ∷ []) ∷ (9 ∷ 16 ∷ 6 ∷ []) ∷ [])
    -- xfm3cf
    ∷ ((9 ∷ 49 ∷ 2 ∷ []) ∷ [])
    -- f2d, perr
    ∷ ((16 ∷ 6 ∷ 6 ∷ []) ∷ (9 ∷ 4 ∷ 6 ∷ []) ∷ [])
    -- anew, bnew, achi, bchi, fakmap, abmap
    ∷ ((3 ∷ []) ∷ (3 ∷ []) ∷ (2 ∷ []) ∷ (2 ∷ []) ∷ (29 ∷ 16 ∷ []) ∷ (2 ∷ 3 ∷ []) ∷ [])
    -- xesmcf, xpmap
    ∷ ((7 ∷ 61 ∷ 2 ∷ []) ∷ (29 ∷ 16 ∷ 2 ∷ []) ∷ [])
    -- xeslcf, xesucf
    ∷ ((5 ∷ 55 ∷ 2 ∷ []) ∷ (5 ∷ 55 ∷ 2 ∷ []) ∷ [])
    -- xercof
    ∷ ((9 ∷ 22 ∷ 2 ∷ []) ∷ [])
    ∷ []

-- the F2 record is `XF2COF(13,76,2)` and nothing else
abbrev pub f2_shape : List ℕ
f2_shape = 13 ∷ 76 ∷ 2 ∷ []

-- ---- places

-- a table: its first byte in its file, and the dimensions of its array, the innermost first
pub record Table : Type 0 where
  pub from : ℕ
  pub shape : List ℕ

abbrev pub product : List ℕ → ℕ
product [] = 1
product (n ∷ ns) = n * product ns

abbrev pub words_in : Table → ℕ
words_in t = product t.shape

-- the tables of a record whose body starts at `at`, one after the other
abbrev pub in_record : ℕ → List (List ℕ) → List Table
in_record at [] = []
in_record at (d ∷ ds) = record { from = at; shape = d } ∷ in_record (at + 4 * product d) ds

-- those of each record, the first one's marker being at `at`: a record's body stands between two
-- markers
abbrev pub in_records : ℕ → List ℕ → List (List (List ℕ)) → List (List Table)
in_records at [] rs = []
in_records at (n ∷ ns) [] = []
in_records at (n ∷ ns) (r ∷ rs) = in_record (at + 4) r ∷ in_records (at + n + 8) ns rs

abbrev pub tables_by_record : List (List Table)
tables_by_record = in_records 0 sizes shapes

abbrev pub joined : List (List Table) → List Table
joined [] = []
joined (ts ∷ rs) = ts ++ joined rs

abbrev pub tables : List Table
tables = joined tables_by_record

-- ---- by number

-- 'number 0 (F2 planes)', then '1 to 20 (`ikim` to `xercof` in file order)'
abbrev pub numbered : List Table
numbered = record { from = 0; shape = f2_shape } ∷ tables

-- a number above 20 has no words
abbrev pub no_such_table : Table
no_such_table = record { from = 0; shape = 0 ∷ [] }

abbrev pub table_of : ℕ → Table
table_of number = slice_index_or numbered number no_such_table

abbrev pub start_of : ℕ → ℕ
start_of number = (table_of number).from

abbrev pub words_of : ℕ → ℕ
words_of number = words_in (table_of number)

-- the words of one plane of a table that has two, one at each sunspot number
abbrev pub plane_of : ℕ → ℕ
plane_of number = words_of number / 2

-- the file that holds the table of a number
abbrev pub holding : {A : Type 0} → ℕ → A → A → A
holding number f2 month = cond (number == 0) f2 month

-- the numbers of the tables that are used
abbrev pub xf2cof : ℕ
xf2cof = 0

abbrev pub ikim : ℕ
ikim = 1

abbrev pub xfm3cf : ℕ
xfm3cf = 7

abbrev pub anew : ℕ
anew = 10

abbrev pub bnew : ℕ
bnew = 11

abbrev pub achi : ℕ
achi = 12

abbrev pub bchi : ℕ
bchi = 13

abbrev pub fakmap : ℕ
fakmap = 14

abbrev pub abmap : ℕ
abmap = 15

abbrev pub xesmcf : ℕ
xesmcf = 16

abbrev pub xpmap : ℕ
xpmap = 17

abbrev pub xeslcf : ℕ
xeslcf = 18

abbrev pub xesucf : ℕ
xesucf = 19

abbrev pub xercof : ℕ
xercof = 20

-- ---- by entry

-- the dimension n of a table's array, the innermost being 0; an array of one or two has 1 for the
-- others
unfoldable pub dimension : ℕ → ℕ → ℕ
dimension number n = slice_index_or (table_of number).shape n 1

-- the array has an entry [k][j][i], as the Rust writes it; of one or two dimensions [i] and [j][i],
-- the other indices being 0
pub record HasEntry (number i j k : ℕ) : Type 0 where
  pub column : i < dimension number 0
  pub row : j < dimension number 1
  pub plane : k < dimension number 2

-- how many of the table's words stand before it: the last index of the Rust runs fastest
abbrev pub entry_word : ℕ → ℕ → ℕ → ℕ → ℕ
entry_word number i j k = (k * dimension number 1 + j) * dimension number 0 + i

-- its first byte in the file that holds the table
unfoldable pub entry_place : ℕ → ℕ → ℕ → ℕ → ℕ
entry_place number i j k = start_of number + 4 * entry_word number i j k

-- ---- what the tables and the records' sizes must agree in

abbrev pub table_end : Table → ℕ
table_end t = t.from + 4 * words_in t

-- from `at` on each table starts where the one before ends, ends by `end`, and the last ends there
abbrev pub Packed : ℕ → ℕ → List Table → Type 0
Packed at end [] = at ≡ end
Packed at end (t ∷ ts) = (t.from ≡ at) × (table_end t ≤ end) × Packed (table_end t) end ts

abbrev pub bytes_of : List Table → ℕ
bytes_of [] = 0
bytes_of (t ∷ ts) = 4 * words_in t + bytes_of ts

-- in each record of n bytes, whose marker is at `at`, the tables make up the n bytes and stand
-- packed in them; the last record ends at `end`
abbrev pub PackedRecords : ℕ → ℕ → List ℕ → List (List Table) → Type 0
PackedRecords at end [] [] = at ≡ end
PackedRecords at end [] (ts ∷ rs) = ⊥
PackedRecords at end (n ∷ ns) [] = ⊥
PackedRecords at end (n ∷ ns) (ts ∷ rs) =
    (bytes_of ts ≡ n) × Packed (at + 4) (at + 4 + n) ts × PackedRecords (at + n + 8) end ns rs

-- ---- Table

abbrev pub bytes_in : Table → Part
bytes_in t = record { from = t.from; size = 4 * words_in t }

-- the part of a number in the file that holds it; of no bytes above 20
unfoldable pub part_of : ℕ → Part
part_of number = bytes_in (table_of number)

-- 'It refuses 13 (number above 20), 8, 9, 10, both files being checked for every number'; of the F2
-- record 'bytes after 7,904 ignored'
unfoldable pub table_check : ℕ → List ℕ → List ℕ → Verdict
table_check number f2 month =
    cond (nat_le number 20)
    (cond (nat_le record_size (length f2)) (month_file_check month) (Err Record))
    (Err NoTable)

-- 'Where this or Table refuses, the part handed back is empty'
unfoldable pub table_part : ℕ → List ℕ → List ℕ → Part
table_part number f2 month = cond (is_accepted (table_check number f2 month)) (part_of number) empty_part

-- 'a part of the lent file that holds them'; refused, 'at the start of the first file lent'
unfoldable pub table_file : ℕ → Bor (List ℕ) → Bor (List ℕ) → Bor (List ℕ)
table_file number f2 month =
    cond (is_accepted (table_check number f2.now month.now)) (holding number f2 month) f2
