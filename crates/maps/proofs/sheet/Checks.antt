-- What accepted files give: a table that was read is the file's own, every word is finite, and the
-- index table is good in every map. Assumes nothing.
use Rattle.std.proofs.Common.{◌≡◌, ℕ, List, sym, ap, ◌∙◌, subst, Ok}
use Rattle.base.specs.Refusal.{Verdict}
use Rattle.base.specs.Refusal.{written_over}
use Rattle.base.specs.Ranges.{month_check}
use Rattle.base.specs.Index.{index_of, index_check}
use Rattle.base.specs.Finite.{FiniteMonth}
use Rattle.base.specs.Files.{file_check}
use Rattle.base.proofs.ladder.Indexing.{good_index}
use Rattle.base.proofs.verdicts.Refusals.{then_both}
use Rattle.base.proofs.layout.Readers.{file_index, file_finite}
use Rattle.maps.specs.Virtim.{GoodTable}
use Rattle.maps.specs.Ionosphere.{layers_check}

-- what a reader that accepts leaves
pub written_is : {A : Type 0} {v : Verdict} {out : A} (new old : A) → v ≡ Ok tt → out ≡ written_over v new old → out ≡ new
written_is new old e p = p ∙ ap (λ (v : Verdict). written_over v new old) e

-- the index table of an accepted file is good in every map
good_table : (file : List ℕ) → index_check file ≡ Ok tt → GoodTable (index_of file)
good_table file e k h = good_index file e k h

-- so is the same table
pub good_same : {index : List ℕ} (file : List ℕ) → index_check file ≡ Ok tt → index ≡ index_of file → GoodTable index
good_same file e q = subst GoodTable (sym q) (good_table file e)

pub layers_index : (month : ℕ) (file : List ℕ) → layers_check month file ≡ Ok tt → index_check file ≡ Ok tt
unfolding layers_check
layers_index month file e = file_index file (then_both (month_check month) (file_check file) e).1

pub layers_finite : (month : ℕ) (file : List ℕ) → layers_check month file ≡ Ok tt → FiniteMonth file
unfolding layers_check
layers_finite month file e = file_finite file (then_both (month_check month) (file_check file) e).1
