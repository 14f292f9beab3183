-- Document 02, request 01: a year file's directory of 14 pairs, its rules, and its parts. Assumes
-- nothing.
use Rattle.std.specs.Prelude.{ℕ, zero, suc, ◌+◌, ◌-◌, ◌*◌, Bool, cond, ◌&&◌, ◌||◌, List, length, take, drop, ◌==◌, nat_le, nat_lt, Err, Ok}
use Rattle.base.specs.declared.refusal.Refusal.TheVariants.{Year}
use Rattle.base.specs.Refusal.{Verdict}
use Rattle.base.specs.Refusal.{◌then◌}
use Rattle.base.specs.Ranges.{is_month, is_bit, month_check, model_check}
use Rattle.base.specs.Words.{word_at}
use Rattle.base.specs.MonthFile.{Part, empty_part}

-- ---- the directory: 'starts with 14 pairs of offset and length, u32 little-endian, 112 bytes'.
-- Pairs are counted from 0 here; a refusal names them from 1

abbrev pub directory_size : ℕ
directory_size = 112

unfoldable pub offset_at : List ℕ → ℕ → ℕ
offset_at s k = word_at s (8 * k)

unfoldable pub length_at : List ℕ → ℕ → ℕ
length_at s k = word_at s (8 * k + 4)

-- where the part ends, a whole number that need fit no word
unfoldable pub end_at : List ℕ → ℕ → ℕ
end_at s k = offset_at s k + length_at s k

-- ---- the rules

-- 'a pair is .. wholly there'
abbrev pub is_there : List ℕ → ℕ → Bool
is_there s k = nat_le (8 * k + 8) (length s)

-- 'The first offset is at least 112, each part starts at or after the end of the one before'
unfoldable pub floor_at : List ℕ → ℕ → ℕ
floor_at s k = cond (k == 0) directory_size (end_at s (k - 1))

abbrev pub is_after : List ℕ → ℕ → Bool
is_after s k = nat_le (floor_at s k) (offset_at s k)

-- 'the last ends within the file'
abbrev pub is_within : List ℕ → ℕ → Bool
is_within s k = nat_lt k 13 || nat_le (end_at s k) (length s)

unfoldable pub keeps_rules : List ℕ → ℕ → Bool
keeps_rules s k = is_there s k && (is_after s k && is_within s k)

-- '19, a pair is not wholly there or breaks a rule, place the lowest such pair from 1 to 14': of n
-- pairs from k on
unfoldable pub pairs_check : List ℕ → ℕ → ℕ → Verdict
pairs_check s k zero = Ok tt
pairs_check s k (suc n) = cond (keeps_rules s k) (pairs_check s (k + 1) n) (Err (Year (k + 1)))

unfoldable pub year_check : List ℕ → Verdict
year_check s = pairs_check s 0 14

-- ---- the parts: 'months 1 to 12, then CCIR, then URSI'

-- the part of pair k; where it does not lie in the file, the empty part at the start
unfoldable pub pair_part : List ℕ → ℕ → Part
pair_part s k =
    cond (is_there s k && nat_le (end_at s k) (length s)) (record { from = offset_at s k; size = length_at s k }) empty_part

-- a month's, and a model's; no other word has one
unfoldable pub year_month : List ℕ → ℕ → Part
year_month s month = cond (is_month month) (pair_part s (month - 1)) empty_part

unfoldable pub year_model : List ℕ → ℕ → Part
year_model s model = cond (is_bit model) (pair_part s (12 + model)) empty_part

-- '19 ..', after the fields
unfoldable pub year_month_check : List ℕ → ℕ → Verdict
year_month_check s month = month_check month then year_check s

unfoldable pub year_model_check : List ℕ → ℕ → Verdict
year_model_check s model = model_check model then year_check s

-- the bytes of a part
abbrev pub part_bytes : List ℕ → Part → List ℕ
part_bytes s p = take p.size (drop p.from s)
