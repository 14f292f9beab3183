-- That the index table is good has one proof at most, which a ghost field needs. Assumes nothing.
use Rattle.std.specs.Prelude.{ℕ, zero, suc, ◌+◌, List}
use Rattle.std.specs.Coded.{le_prop}
use Rattle.std.proofs.Common.{arith, refl, ap}
use Rattle.std.proofs.Math.Nat.{ℕ_set}
use Rattle.base.specs.Index.{Climbs, top, level, up, GoodIndex}
use Rattle.maps.specs.Virtim.{GoodTable}

climbs_prop : (w : ℕ → ℕ) (n j : ℕ) → IsProp (Climbs w n j)
climbs_prop w zero j top top = refl
climbs_prop w (suc n) j (level p) (level q) = ap level (ℕ_set _ _ p q)
climbs_prop w (suc n) j (level p) (up a b c d) = absurd (omega arith)
climbs_prop w (suc n) j (up a b c d) (level p) = absurd (omega arith)
climbs_prop w (suc n) j (up a b c d) (up e f g h) =
    λ i. up (le_prop a e i) (ℕ_set _ _ b f i) (le_prop c g i) (climbs_prop w n (j + 1) d h i)

good_index_prop : (w : ℕ → ℕ) (r h : ℕ) → IsProp (GoodIndex w r h)
good_index_prop w r h x y = λ i. record {
  low = le_prop x.low y.low i;
  high = le_prop x.high y.high i;
  climbing = climbs_prop w 8 0 x.climbing y.climbing i;
  terms = le_prop x.terms y.terms i;
  waves = le_prop x.waves y.waves i;
}

pub good_prop : (index : List ℕ) → IsProp (GoodTable index)
good_prop index x y = λ i k h. good_index_prop _ _ _ (x k h) (y k h) i
