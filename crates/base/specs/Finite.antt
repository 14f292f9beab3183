-- Document 02, request 10: which words of the tables count, and the first that is no finite number.
-- Assumes nothing.
use Rattle.std.specs.Prelude.{ℕ, zero, suc, ◌+◌, ◌*◌, ◌≤◌, Bool, true, cond, ◌&&◌, List, [], ◌∷◌, drop, Err, Ok}
use Rattle.std.specs.Float.Ieee.Scale.{finite}
use Rattle.base.specs.declared.refusal.Refusal.{Refusal}
use Rattle.base.specs.declared.refusal.Refusal.TheVariants.{RecordWord, MonthWord}
use Rattle.base.specs.Refusal.{Verdict}
use Rattle.base.specs.Refusal.{◌then◌}
use Rattle.base.specs.Words.{float_at, FiniteRun}
use Rattle.base.specs.Tables.{Table, words_in, tables, start_of, words_of, xf2cof}

-- ---- the check

-- '23, place the first such word's byte': of n words from the byte `at` on, refused as `why` says of
-- that byte
unfoldable pub words_check : (ℕ → Refusal) → List ℕ → ℕ → ℕ → Verdict
words_check why s at zero = Ok tt
words_check why s at (suc n) = cond (finite (float_at s at)) (words_check why s (at + 4) n) (Err (why at))

-- 'every f32 word of the record': of so many records, one after the other
unfoldable pub record_words_check : List ℕ → ℕ → Verdict
record_words_check daw months = words_check RecordWord daw (start_of xf2cof) (months * words_of xf2cof)

-- the tables of the month file that are of f32: all but the first, `ikim`, whose words are whole
-- numbers
abbrev pub float_tables : List Table
float_tables = drop 1 tables

unfoldable pub each_check : List ℕ → List Table → Verdict
each_check month [] = Ok tt
each_check month (t ∷ ts) = words_check MonthWord month t.from (words_in t) then each_check month ts

-- 'and of the month file's tables, used or not': table after table, so that no marker counts
unfoldable pub table_words_check : List ℕ → Verdict
table_words_check month = each_check month float_tables

-- ---- what an accepted check says (`record_finite`, `tables_finite`)

-- every word of the record is a finite number
pub record FiniteRecord (f2 : List ℕ) : Type 0 where
  pub words : FiniteRun f2 (start_of xf2cof) (words_of xf2cof)

-- every word of the tables 2 to 20 of the month file is
pub record FiniteMonth (month : List ℕ) : Type 0 where
  pub words : (number : ℕ) → 2 ≤ number → number ≤ 20 → FiniteRun month (start_of number) (words_of number)

-- ---- on the way: nothing below need be believed

-- the byte of the first of n words from `at` on that is no finite number; the byte behind them where
-- all are
unfoldable pub first_other : List ℕ → ℕ → ℕ → ℕ
first_other s at zero = at
first_other s at (suc n) = cond (finite (float_at s at)) (first_other s (at + 4) n) at

-- whether all n words from `at` on are finite, the last one being looked at last
unfoldable pub all_finite : List ℕ → ℕ → ℕ → Bool
all_finite s at zero = true
all_finite s at (suc n) = all_finite s at n && finite (float_at s (at + 4 * n))
