-- The tables stand packed in the nine records: one test that antt computes over the whole list,
-- turned into the statement. Assumes nothing.
use Rattle.std.proofs.Common.{◌≡◌, refl, Bool, false, List, [], ◌∷◌, ℕ, ◌+◌, T, leb, eqb, leb→le, eqb→eq, length}
use Rattle.base.specs.MonthFile.{record_size, month_file_size, sizes}
use Rattle.base.specs.Tables.{Table, tables, tables_by_record, xf2cof, part_of, table_end, bytes_of, Packed, PackedRecords}
use Rattle.base.proofs.lists.Entries.{both, both_left, both_right}

abbrev packed : ℕ → ℕ → List Table → Bool
packed at end [] = eqb at end
packed at end (t ∷ ts) = both (eqb t.from at) (both (leb (table_end t) end) (packed (table_end t) end ts))

packed_of : (at end : ℕ) (ts : List Table) → T (packed at end ts) → Packed at end ts
packed_of at end [] p = eqb→eq at end p
packed_of at end (t ∷ ts) p =
    let q = both_right (eqb t.from at) _ p in (
      eqb→eq t.from at (both_left (eqb t.from at) _ p),
      leb→le (table_end t) end (both_left (leb (table_end t) end) _ q),
      packed_of (table_end t) end ts (both_right (leb (table_end t) end) _ q),
    )

abbrev packed_records : ℕ → ℕ → List ℕ → List (List Table) → Bool
packed_records at end [] [] = eqb at end
packed_records at end [] (ts ∷ rs) = false
packed_records at end (n ∷ ns) [] = false
packed_records at end (n ∷ ns) (ts ∷ rs) =
    both (eqb (bytes_of ts) n) (both (packed (at + 4) (at + 4 + n) ts) (packed_records (at + n + 8) end ns rs))

records_of : (at end : ℕ) (ns : List ℕ) (rs : List (List Table)) → T (packed_records at end ns rs) → PackedRecords at end ns rs
records_of at end [] [] p = eqb→eq at end p
records_of at end [] (ts ∷ rs) p = p
records_of at end (n ∷ ns) [] p = p
records_of at end (n ∷ ns) (ts ∷ rs) p =
    let q = both_right (eqb (bytes_of ts) n) _ p in (
      eqb→eq (bytes_of ts) n (both_left (eqb (bytes_of ts) n) _ p),
      packed_of (at + 4) (at + 4 + n) ts (both_left (packed (at + 4) (at + 4 + n) ts) _ q),
      records_of (at + n + 8) end ns rs (both_right (packed (at + 4) (at + 4 + n) ts) _ q),
    )

-- the theorem: 'in all 38,552 bytes'
pub tables_packed : PackedRecords 0 month_file_size sizes tables_by_record
tables_packed = records_of 0 month_file_size sizes tables_by_record tt

pub twenty_tables : length tables ≡ 20
twenty_tables = refl

-- an F2 record is its planes and nothing else
pub planes_fill : part_of xf2cof ≡ record { from = 0; size = record_size }
unfolding part_of
planes_fill = refl
