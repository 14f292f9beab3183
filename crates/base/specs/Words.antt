-- The words of a file. Document 01: 'Words are little-endian'; a byte that is not there counts as
-- 0. Document 02, request 10: what a word of a table is. Assumes nothing.
use Rattle.std.specs.Prelude.{ℕ, ◌+◌, ◌*◌, ◌/◌, ◌%◌, ◌<◌, cond, T, List, [], ◌∷◌, ℤ, from_bits, slice_index, Float, None, Option, Some}
use Rattle.std.specs.Float.{binary32}
use Rattle.std.specs.Float.Ieee.Scale.{finite}
use Rattle.base.specs.Number.{signed_of}

-- four bytes, the lowest first
abbrev pub word_of : ℕ → ℕ → ℕ → ℕ → ℕ
word_of a b c d = a + b * 256 + c * 65536 + d * 16777216

-- the word of the four bytes at `at`, as an unsigned number, as an `i32` and as an `f32`; a NaN's
-- pattern is a NaN
unfoldable pub word_at : List ℕ → ℕ → ℕ
word_at s at = word_of (slice_index s at) (slice_index s (at + 1)) (slice_index s (at + 2)) (slice_index s (at + 3))

unfoldable pub integer_at : List ℕ → ℕ → ℤ
integer_at s at = signed_of (word_at s at)

unfoldable pub float_at : List ℕ → ℕ → Float
float_at s at = from_bits binary32 (word_at s at)

-- 'Reading an f32 table word must now tell a finite number from any other'
unfoldable pub table_word_at : List ℕ → ℕ → Option Float
table_word_at s at = cond (finite (float_at s at)) (Some (float_at s at)) None

-- each of the n words from the byte `at` on is a finite number
abbrev pub FiniteRun : List ℕ → ℕ → ℕ → Type 0
FiniteRun s at n = (i : ℕ) → i < n → T (finite (float_at s (at + 4 * i)))

-- a number below 2 ^ 32 as four bytes, the lowest first
abbrev pub four_bytes : ℕ → List ℕ
four_bytes n = n % 256 ∷ n / 256 % 256 ∷ n / 65536 % 256 ∷ n / 16777216 ∷ []
