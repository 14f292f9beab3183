-- `time_map` is `time_map_of`. The loop's invariant: that many pairs of rows are filled in. By its rule
-- the table has the place where the definition has the row's series start.
use Rattle.std.proofs.Common.{◌≡◌, ℕ, ◌+◌, ◌-◌, ◌*◌, ◌<◌, ◌≤◌, List, get_or, set, sym, refl, ap, ◌∙◌, arith, Float}
use Rattle.base.specs.Fill.{fill}
use Rattle.base.specs.Index.{map_word}
use Rattle.base.specs.Blend.{IA, IB, IC}
use Rattle.base.proofs.ladder.Ladders.{limits}
use Rattle.base.proofs.ladder.Indexing.{VirtimInside, reads_inside}
use Rattle.base.proofs.lists.Fills.{fill_next}
use Rattle.maps.specs.Virtim.{GoodTable, StartsRule, Wave, value_of, wave_in, row_value, time_map_of}
use Rattle.maps.proofs.ionosphere.virtim.time_map.Goals.{After-word-n}
use Rattle.maps.proofs.ionosphere.virtim.time_map.Goals as goal

-- what is known of the row j of the map, at the place `row` of AB: it lies inside both arrays, and where
-- its series starts
record RowKnown (starts : List ℕ) (k j row n : ℕ) : Type 0 where
  pub few : n ≤ 8
  pub inside : VirtimInside k j n
  pub start : get_or starts row 0 ≡ get_or IA k 0 - 1 + j * get_or IB k 0

known :
    (index starts : List ℕ) (k : ℕ) {first word8 n : ℕ} (j row : ℕ) → GoodTable index → StartsRule starts × (k < 6) →
    first ≡ get_or IC k 0 - 1 → word8 ≡ map_word index k 8 → n ≡ map_word index k 9 → row ≡ first + j → j ≤ word8 → RowKnown starts k j row n
known index starts k j row good (rule, h) f w e at b =
    let g = good k h in
    let l = limits k h in
    let from : row ≡ get_or IC k 0 - 1 + j = omega arith in
    record {
      few = omega arith;
      inside = reads_inside k h j _ (omega arith) (omega arith);
      start = ap (λ (i : ℕ). get_or starts i 0) from ∙ rule.at k j h (omega arith);
    }

-- one row more
row_next :
    (v : ℕ → Wave) (cof : List Float) (index : List ℕ) (first : ℕ) (ab₀ : List Float) {starts : List ℕ} {k j row n : ℕ} {ab : List Float} {x : Float} →
    RowKnown starts k j row n → n ≡ map_word index k 9 → row ≡ first + j → x ≡ value_of v cof (get_or starts row 0) n →
    ab ≡ fill (row_value v cof index k) first ab₀ j → set ab row x ≡ fill (row_value v cof index k) first ab₀ (j + 1)
unfolding row_value
row_next v cof index first ab₀ {starts} {k} {j} r e at p is =
    let f = row_value v cof index k in
    (λ t. set (is t) (at t) ((p ∙ (λ u. value_of v cof (r.start u) (e u))) t)) ∙ sym (fill_next f first ab₀ j)

all_rows :
    (v : ℕ → Wave) (cof : List Float) (index : List ℕ) (k : ℕ) (ab₀ : List Float) {first n : ℕ} →
    first ≡ get_or IC k 0 - 1 → n ≡ map_word index k 8 + 1 → fill (row_value v cof index k) first ab₀ n ≡ time_map_of v cof index k ab₀
unfolding time_map_of
all_rows v cof index k ab₀ p q = λ t. fill (row_value v cof index k) (p t) ab₀ (q t)

pub loop-pair-init : goal.loop-pair-init
unfolding fill
loop-pair-init c = refl

row_at :
    (c : After-word-n) (j row : ℕ) → row ≡ c.first_row-first.result + j → j ≤ c.word-rows.result → RowKnown c.args.starts.now c.args.k j row c.word-n.result
row_at c j row = known c.args.index.words.now c.args.starts.now c.args.k j row c.args.index.good c.requires c.first_row-first.ensures c.word-rows.ensures c.word-n.ensures

pub two_values-requires : goal.two_values-requires
two_values-requires c =
    let at = (goal.at.two_values-requires c).After-word-n in
    let j = 2 * c.loop-pair.pair in
    let r = row_at at j (c.first_row-first.result + j) refl (omega arith) in
    let s = row_at at (j + 1) (c.first_row-first.result + j + 1) (omega arith) (omega arith) in
    (r.few, omega (arith, r.inside.all, r.start), omega (arith, s.inside.all, s.start))

pub loop-pair-preserved : goal.loop-pair-preserved
loop-pair-preserved c =
    let a = c.args in
    let at = (goal.at.loop-pair-preserved c).After-word-n in
    let first = c.first_row-first.result in
    let j = 2 * c.loop-pair.pair in
    let r = row_at at j (first + j) refl (omega arith) in
    let s = row_at at (j + 1) (first + j + 1) (omega arith) (omega arith) in
    let v = wave_in a.c.now a.s.now in
    let e : j + 1 + 1 ≡ 2 * (c.loop-pair.pair + 1) = omega arith in
    row_next v a.cof.now a.index.words.now first a.ab.now s c.word-n.ensures (omega arith) c.two_values.ensures.second
    (row_next v a.cof.now a.index.words.now first a.ab.now r c.word-n.ensures refl c.two_values.ensures.first c.loop-pair.invariant)
    ∙ ap (fill (row_value v a.cof.now a.index.words.now a.k) first a.ab.now) e

pub two_values-requires-then-rows-eq1 : goal.two_values-requires-then-rows-eq1
two_values-requires-then-rows-eq1 c =
    let at = (goal.at.two_values-requires-then-rows-eq1 c).After-word-n in
    let r = row_at at c.word-rows.result (c.first_row-first.result + (c.word-rows.result + 1) - 1) (omega arith) (omega arith) in
    (r.few, omega (arith, r.inside.all, r.start), omega (arith, r.inside.all, r.start))

pub returns-then-rows-eq1 : goal.returns-then-rows-eq1
returns-then-rows-eq1 c =
    let a = c.args in
    let at = (goal.at.returns-then-rows-eq1 c).After-word-n in
    let v = wave_in a.c.now a.s.now in
    let first = c.first_row-first.result in
    let place : first + (c.word-rows.result + 1) - 1 ≡ first + c.word-rows.result = omega arith in
    let r = row_at at c.word-rows.result (first + (c.word-rows.result + 1) - 1) place (omega arith) in
    let odd = c.if-rows-eq1.true in
    let e : 2 * c.loop-pair.pair ≡ c.word-rows.result = omega arith in
    row_next v a.cof.now a.index.words.now first a.ab.now r c.word-n.ensures place c.two_values-then-rows-eq1.ensures.first
    (c.loop-pair.invariant ∙ ap (fill (row_value v a.cof.now a.index.words.now a.k) first a.ab.now) e)
    ∙ all_rows v a.cof.now a.index.words.now a.k a.ab.now c.first_row-first.ensures (ap (λ (i : ℕ). i + 1) c.word-rows.ensures)

pub returns-else-rows-eq1 : goal.returns-else-rows-eq1
returns-else-rows-eq1 c =
    let a = c.args in
    let even = c.if-rows-eq1.false in
    let w = c.word-rows.ensures in
    let e : 2 * c.loop-pair.pair ≡ map_word a.index.words.now a.k 8 + 1 = omega arith in
    c.loop-pair.invariant ∙ all_rows (wave_in a.c.now a.s.now) a.cof.now a.index.words.now a.k a.ab.now c.first_row-first.ensures e
