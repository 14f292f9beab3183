-- `monthly_of` reads each number at its place, which computes from the tables' shapes.
use Rattle.std.proofs.Common.{ℕ, ◌+◌, ◌*◌, ◌<◌, ◌≤◌, T, List, lit<, lit≤}
use lib.Ieee.Scale.{finite}
use Rattle.base.specs.Words.{float_at}
use Rattle.base.specs.Tables.{start_of, words_of, anew, bnew, achi, bchi, abmap}
use Rattle.base.specs.Finite.{FiniteMonth}
use Rattle.maps.specs.Layers.{term_of, abmap_at, monthly_of}
use Rattle.maps.proofs.ionosphere.layers.monthly_of.Goals as goal

-- a word of a table, by what the file's words are
word :
    {file : List ℕ} → FiniteMonth file → (table i : ℕ) → 2 ≤ table → table ≤ 20 → i < words_of table →
    T (finite (float_at file (start_of table + 4 * i)))
word f table i l h n = f.words table l h i n

pub term-requires : goal.term-requires
term-requires c = let f = c.requires in (word f achi 0 (lit≤ tt) (lit≤ tt) (lit< tt), word f bchi 0 (lit≤ tt) (lit≤ tt) (lit< tt))

pub term-requires-2 : goal.term-requires-2
term-requires-2 c = let f = c.requires in (word f achi 1 (lit≤ tt) (lit≤ tt) (lit< tt), word f bchi 1 (lit≤ tt) (lit≤ tt) (lit< tt))

pub term-requires-3 : goal.term-requires-3
term-requires-3 c = let f = c.requires in (word f anew 0 (lit≤ tt) (lit≤ tt) (lit< tt), word f bnew 0 (lit≤ tt) (lit≤ tt) (lit< tt))

pub term-requires-4 : goal.term-requires-4
term-requires-4 c = let f = c.requires in (word f anew 1 (lit≤ tt) (lit≤ tt) (lit< tt), word f bnew 1 (lit≤ tt) (lit≤ tt) (lit< tt))

pub term-requires-5 : goal.term-requires-5
term-requires-5 c = let f = c.requires in (word f anew 2 (lit≤ tt) (lit≤ tt) (lit< tt), word f bnew 2 (lit≤ tt) (lit≤ tt) (lit< tt))

pub number_at-requires : goal.number_at-requires
number_at-requires c = word c.requires abmap 0 (lit≤ tt) (lit≤ tt) (lit< tt)

pub number_at-requires-2 : goal.number_at-requires-2
number_at-requires-2 c = word c.requires abmap 1 (lit≤ tt) (lit≤ tt) (lit< tt)

pub number_at-requires-3 : goal.number_at-requires-3
number_at-requires-3 c = word c.requires abmap 2 (lit≤ tt) (lit≤ tt) (lit< tt)

pub number_at-requires-4 : goal.number_at-requires-4
number_at-requires-4 c = word c.requires abmap 3 (lit≤ tt) (lit≤ tt) (lit< tt)

pub returns : goal.returns
unfolding monthly_of term_of abmap_at
returns c =
    rw (
      c.number_at-4.ensures,
      c.number_at-3.ensures,
      c.number_at-2.ensures,
      c.number_at.ensures,
      c.term-5.ensures,
      c.term-4.ensures,
      c.term-3.ensures,
      c.term-2.ensures,
      c.term.ensures,
      c.sun_of.ensures,
    )
