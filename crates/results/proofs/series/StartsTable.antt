-- The table of series starts: one list of 318 meets its rule, by computation over its entries, and no
-- other of that length, since every place of AB is a row of some map; and what AB holds by it. Assumes
-- nothing.
use Rattle.std.proofs.Common.{◌≡◌, refl, sym, ap, ◌∙◌, List, ◌++◌, ℕ, ◌+◌, ◌-◌, ◌*◌, ◌≤◌, ◌<◌, arith, lit<, ext_get_or, length, get_or, Float}
use native.Mathlib.Decide.{dec_lt}
use lib.Ieee.{nan}
use Rattle.base.specs.Fill.{tabulate}
use Rattle.base.specs.Index.{map_word, rows}
use Rattle.base.specs.Blend.{IA, IB, IC}
use Rattle.maps.specs.Virtim.{GoodTable, StartsRule, hour_wave, daily_of, virtim_of}
use Rattle.maps.proofs.lists.SeriesStarts.{carried}
use Rattle.results.proofs.series.DailySeries.{ab_at}

-- ---- there is one

-- where the rows of the map k start
abbrev map_starts : ℕ → List ℕ
map_starts k = tabulate (λ j. get_or IA k 0 - 1 + j * get_or IB k 0) (get_or rows k 0)

abbrev all_starts : List ℕ
all_starts = map_starts 0 ++ (map_starts 1 ++ (map_starts 2 ++ (map_starts 3 ++ (map_starts 4 ++ map_starts 5))))

all_long : length all_starts ≡ 318
unfolding tabulate
all_long = refl

all_ruled : StartsRule all_starts
unfolding tabulate
all_ruled = carried all_starts tt

-- ---- and no other

-- the row that a place of AB is
record RowAt (p : ℕ) : Type 0 where
  pub k : ℕ
  pub j : ℕ
  pub map : k < 6
  pub inside : j < get_or rows k 0
  pub place : get_or IC k 0 - 1 + j ≡ p

row_of : (p : ℕ) → p < 318 → RowAt p
row_of p h = elim (dec_lt p 55) [
  | yes a ↦ record { k = 0; j = p; map = lit< tt; inside = a; place = omega arith }
  | no a ↦ elim (dec_lt p 116) [
    | yes b ↦ record { k = 1; j = p - 55; map = lit< tt; inside = omega arith; place = omega arith }
    | no b ↦ elim (dec_lt p 171) [
      | yes c ↦ record { k = 2; j = p - 116; map = lit< tt; inside = omega arith; place = omega arith }
      | no c ↦ elim (dec_lt p 247) [
        | yes d ↦ record { k = 3; j = p - 171; map = lit< tt; inside = omega arith; place = omega arith }
        | no d ↦ elim (dec_lt p 296) [
          | yes e ↦ record { k = 4; j = p - 247; map = lit< tt; inside = omega arith; place = omega arith }
          | no e ↦ record { k = 5; j = p - 296; map = lit< tt; inside = omega arith; place = omega arith }
        ]
      ]
    ]
  ]
]

same_at : (a b : List ℕ) → StartsRule a → StartsRule b → (p : ℕ) → p < 318 → get_or a p 0 ≡ get_or b p 0
same_at a b f g p h =
    let r = row_of p h in
    ap (λ (i : ℕ). get_or a i 0) (sym r.place)
    ∙ f.at r.k r.j r.map r.inside
    ∙ sym (g.at r.k r.j r.map r.inside)
    ∙ ap (λ (i : ℕ). get_or b i 0) r.place

same : (a b : List ℕ) → length a ≡ 318 → length b ≡ 318 → StartsRule a → StartsRule b → a ≡ b
same a b l m f g = ext_get_or 0 a b (l ∙ sym m) (λ p h. same_at a b f g p (omega arith))

pub one_table :
    (starts : List ℕ)
    × (length starts ≡ 318)
    × StartsRule starts
    × ((other : List ℕ) → length other ≡ 318 → StartsRule other → other ≡ starts)
one_table = (all_starts, all_long, all_ruled, λ other l f. same other all_starts l all_long f all_ruled)

-- ---- AB by such a table

pub hour_from_law :
    (starts : List ℕ) → StartsRule starts → (cof : List Float) (index : List ℕ) (gmt : Float) → GoodTable index →
    (k j : ℕ) → k < 6 → j ≤ map_word index k 8 →
    get_or (virtim_of cof index gmt) (get_or IC k 0 - 1 + j) nan
    ≡
    daily_of (hour_wave gmt) (λ s. get_or cof (get_or starts (get_or IC k 0 - 1 + j) 0 + s) nan) (map_word index k 9)
hour_from_law starts rule cof index gmt good k j h l =
    let g = good k h in
    ab_at cof index gmt good k j h l
    ∙ ap (λ (i : ℕ). daily_of (hour_wave gmt) (λ s. get_or cof (i + s) nan) (map_word index k 9)) (sym (rule.at k j h (omega arith)))
