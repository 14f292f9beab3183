-- The lent files as a whole: the checks before they are used. Assumes nothing.
use Rattle.std.specs.Prelude.{ℕ, cond, List, length, nat_le, Err}
use Rattle.base.specs.Refusal.{Verdict}
use Rattle.base.specs.declared.refusal.Refusal.TheVariants.{Record}
use Rattle.base.specs.Refusal.{◌then◌}
use Rattle.base.specs.MonthFile.{record_size, month_record_check, month_file_check}
use Rattle.base.specs.Finite.{record_words_check, table_words_check}
use Rattle.base.specs.Index.{index_check}

-- of the index table by itself, which has no f32: '9, 10, 11'
unfoldable pub index_file_check : List ℕ → Verdict
index_file_check month = month_file_check month then index_check month

-- '9, 10, 11', and 23 'after 10 and before 11'
unfoldable pub file_check : List ℕ → Verdict
file_check month = month_file_check month then table_words_check month then index_check month

-- '8 (F2 record under 7,904 bytes), 9, 10, 11', and 23 between the last two, 'the record first'
unfoldable pub files_check : List ℕ → List ℕ → Verdict
files_check f2 month =
    cond (nat_le record_size (length f2))
    (month_file_check month then record_words_check f2 1 then table_words_check month then index_check month)
    (Err Record)

-- of a `.daw` file that is to have the records of all months: 8, and 23 by any of their words, the
-- place counting from the file's start
unfoldable pub daw_check : List ℕ → Verdict
daw_check daw = month_record_check daw 12 then record_words_check daw 12
