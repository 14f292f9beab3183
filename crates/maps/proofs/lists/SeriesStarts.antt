-- The table of series starts: its rule is one test that is computed over all 318 entries (`ruled`),
-- and one law carries it to each (`carried`). Assumes nothing.
use Rattle.std.proofs.Common.{ℕ, ◌+◌, ◌-◌, ◌*◌, Bool, T, eqb, List, get_or, arith, eqb→eq}
use Rattle.base.specs.Index.{rows}
use Rattle.base.specs.Blend.{IA, IB, IC}
use Rattle.base.proofs.lists.Entries.{up_to, at_each}
use Rattle.maps.specs.Virtim.{StartsRule}

-- the entry of the row j of the map k is where its series starts
abbrev starts_at : List ℕ → ℕ → ℕ → Bool
starts_at starts k j = eqb (get_or starts (get_or IC k 0 - 1 + j) 0) (get_or IA k 0 - 1 + j * get_or IB k 0)

-- of every row of a map
abbrev map_ruled : List ℕ → ℕ → Bool
map_ruled starts k = up_to (starts_at starts k) (get_or rows k 0 - 1)

-- of every map
abbrev pub ruled : List ℕ → Bool
ruled starts = up_to (map_ruled starts) 5

pub carried : (starts : List ℕ) → T (ruled starts) → StartsRule starts
carried starts t =
    record {
      at = λ k j h l. eqb→eq _ _ (at_each (starts_at starts k) (get_or rows k 0 - 1) (at_each (map_ruled starts) 5 t k (omega arith)) j (omega arith));
    }
