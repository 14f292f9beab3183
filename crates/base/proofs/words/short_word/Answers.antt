-- `short_word` is `word_at`: from the file's end on each of the four bytes is 0.
use Rattle.std.proofs.Common.{◌≡◌, ℕ, ◌+◌, ◌≤◌, List, length, arith}
use lib.ListN.{get_or-eq_default}
use Rattle.base.specs.Words.{word_at}
use Rattle.base.proofs.words.short_word.Goals as goal

past : (s : List ℕ) (at : ℕ) → length s ≤ at → 0 ≡ word_at s at
unfolding word_at
past s at h =
    omega (
      arith,
      get_or-eq_default s 0 h,
      get_or-eq_default s 0 {n = at + 1} (omega arith),
      get_or-eq_default s 0 {n = at + 2} (omega arith),
      get_or-eq_default s 0 {n = at + 3} (omega arith),
    )

pub returns-then-at-s : goal.returns-then-at-s
unfolding word_at
returns-then-at-s c = omega arith

pub returns-else-at-s : goal.returns-else-at-s
returns-else-at-s c = past c.args.s.now c.args.at c.if-at-s.false
