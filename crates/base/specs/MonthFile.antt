-- Document 01, Files: the month record of the `.daw` file, and the month file's walk. Assumes
-- nothing.
use Rattle.std.specs.Prelude.{◌≡◌, ℕ, ◌+◌, ◌-◌, ◌*◌, ◌/◌, ◌%◌, ◌≤◌, Bool, true, cond, List, [], ◌∷◌, ◌++◌, length, take, drop, replicate, ◌==◌, nat_le, slice_index, Err, Ok}
use Rattle.std.specs.Borrow.{Bor}
use Rattle.base.specs.declared.refusal.Refusal.TheVariants.{Record, Ended, Marker}
use Rattle.base.specs.Refusal.{Verdict}
use Rattle.base.specs.Refusal.{refuse_unless, ◌then◌, is_accepted}
use Rattle.base.specs.Ranges.{month_check}
use Rattle.base.specs.Words.{word_at}

-- ---- lengths

-- the bytes of an F2 record, which are those of its planes (`planes_fill`)
abbrev pub record_size : ℕ
record_size = 7904

-- 'in all 38,552 bytes': the nine records with their markers (`tables_packed`)
abbrev pub month_file_size : ℕ
month_file_size = 38552

-- ---- a part of a lent file

pub record Part : Type 0 where
  pub from : ℕ
  pub size : ℕ

-- 'the part handed back is empty, at the start'
abbrev pub empty_part : Part
empty_part = record { from = 0; size = 0 }

-- x is the part p of the lent file s: its bytes, and where they lie
pub record IsPart (p : Part) (s x : Bor (List ℕ)) : Type 0 where
  pub bytes : x.now ≡ take p.size (drop p.from s.now)
  pub block : x.ref_ptr.0 ≡ s.ref_ptr.0
  pub start : x.ref_ptr.1 ≡ s.ref_ptr.1 + p.from

-- ---- Month record

-- 'refuses 1 (place 1), then 8 if the file has under month × 7,904 bytes'
unfoldable pub month_record_check : List ℕ → ℕ → Verdict
month_record_check s month = month_check month then refuse_unless (nat_le (month * record_size) (length s)) Record

abbrev pub month_start : ℕ → ℕ
month_start month = (month - 1) * record_size

-- 'It hands back those 7,904 bytes from (month - 1) × 7,904'
unfoldable pub month_part : List ℕ → ℕ → Part
month_part s month =
    cond (is_accepted (month_record_check s month)) (record { from = month_start month; size = record_size }) empty_part

-- ---- Month file

-- 'nine records, each between two u32 markers of its size'
abbrev pub sizes : List ℕ
sizes = 240 ∷ 11184 ∷ 5328 ∷ 3528 ∷ 3168 ∷ 1920 ∷ 7128 ∷ 4400 ∷ 1584 ∷ []

-- what four bytes must be: a marker of this size, or anything
pub data Four : Type 0 where
  marker : ℕ → Four
  anything : Four

unfoldable pub layout : List ℕ → List Four
layout [] = []
layout (n ∷ ns) = marker n ∷ (replicate (n / 4) anything ++ (marker n ∷ layout ns))

abbrev pub is_right : List ℕ → ℕ → Four → Bool
is_right s at (marker n) = word_at s at == n
is_right s at anything = true

-- 'The walk goes in fours: 9 if four bytes are not there, 10 at a wrong marker, whichever comes
-- first, with its byte place'
unfoldable pub walk : List ℕ → ℕ → List Four → Verdict
walk s at [] = Ok tt
walk s at (f ∷ fs) =
    cond (nat_le (at + 4) (length s))
    (cond (is_right s at f) (walk s (at + 4) fs) (Err (Marker at)))
    (Err (Ended at))

-- 'later bytes are ignored'
unfoldable pub month_file_check : List ℕ → Verdict
month_file_check s = walk s 0 (layout sizes)

-- ---- the same check without the walk (`month_file_good`)

-- from `at` on stand records of the sizes ns, each between two markers of its size
abbrev pub Marked : List ℕ → ℕ → List ℕ → Type 0
Marked s at [] = Unit
Marked s at (n ∷ ns) = (word_at s at ≡ n) × (word_at s (at + n + 4) ≡ n) × Marked s (at + n + 8) ns

-- all 38,552 bytes are there, and the 18 markers are right
pub record WellMarked (s : List ℕ) : Type 0 where
  pub whole : month_file_size ≤ length s
  pub marks : Marked s 0 sizes

-- the first 17 markers are right: those of eight records, and the one that opens the ninth
pub record MarkedToLast (s : List ℕ) : Type 0 where
  pub eight : Marked s 0 (take 8 sizes)
  pub ninth : word_at s 36960 ≡ 1584

-- ---- on the way: nothing below need be believed

-- what the code's table of sizes says of the size n of the record k
pub record RecordSize (k n : ℕ) : Type 0 where
  pub is : n ≡ slice_index sizes k
  pub fours : n % 4 ≡ 0
  pub most : n ≤ 11184
