-- `virtim` is `virtim_of`. The loop's invariant: AB is what the loop of the definition has at k, and
-- the table that is lent keeps its rule, which is computed here over all of its entries. The arrays
-- of cosines and sines hold the waves that the definition takes, as far as a map's harmonics go.
use Rattle.std.proofs.Common.{◌≡◌, ℕ, zero, suc, ◌+◌, ◌-◌, ◌*◌, ◌<◌, List, get_or, refl, ap, ◌∙◌, arith, rules, Float}
use lib.Ieee.{nan, round, of_bits}
use Rattle.base.specs.Single.{◌⊕◌, ◌⊗◌, decimal}
use Rattle.base.specs.Fill.{fill}
use Rattle.base.specs.Index.{map_word}
use Rattle.base.specs.Blend.{IA, IB, IC}
use Rattle.base.proofs.lists.Fills.{run_at}
use Rattle.base.proofs.ladder.Ladders.{limits}
use Rattle.maps.specs.declared.ionosphere.virtim.Waves.{Waves}
use Rattle.maps.specs.Virtim.{GoodTable, Wave, hour_wave, hour_waves, wave_in, value_of, row_value, time_map_of, virtim_of}
use Rattle.maps.proofs.lists.Loops.{loop_start, loop_turn}
use Rattle.maps.proofs.lists.SeriesStarts.{carried}
use Rattle.maps.proofs.ionosphere.virtim.virtim.Goals as goal

wave_in_law : (gmt : Float) (i : ℕ) → i < 8 → wave_in (hour_waves gmt).c (hour_waves gmt).s i ≡ hour_wave gmt i
unfolding hour_waves wave_in
wave_in_law gmt i h =
    λ t. record { c = run_at (λ j. (hour_wave gmt j).c) 8 i nan h t; s = run_at (λ j. (hour_wave gmt j).s) 8 i nan h t }

-- a series of n harmonics takes n waves
value_same : (v u : ℕ → Wave) (cof : List Float) (at n : ℕ) → ((i : ℕ) → i < n → v i ≡ u i) → value_of v cof at n ≡ value_of u cof at n
unfolding value_of
value_same v u cof at zero f = refl
value_same v u cof at (suc n) f =
    let p = value_same v u cof at n (λ i h. f i (omega arith)) in
    let q = f n (omega arith) in
    λ t. p t ⊕ (q t).s ⊗ get_or cof (at + 2 * n + 1) nan ⊕ (q t).c ⊗ get_or cof (at + 2 * n + 2) nan

map_same :
    (cof : List Float) (index : List ℕ) (gmt : Float) (w : Waves) (k : ℕ) (ab : List Float) → GoodTable index → k < 6 → w ≡ hour_waves gmt →
    time_map_of (wave_in w.c w.s) cof index k ab ≡ time_map_of (hour_wave gmt) cof index k ab
unfolding row_value time_map_of
map_same cof index gmt w k ab good h e =
    let g = good k h in
    let l = limits k h in
    ap (λ (v : Waves). time_map_of (wave_in v.c v.s) cof index k ab) e
    ∙ ap (λ (f : ℕ → Float). fill f (get_or IC k 0 - 1) ab (map_word index k 8 + 1))
    (λ t j. value_same (wave_in (hour_waves gmt).c (hour_waves gmt).s) (hour_wave gmt) cof (get_or IA k 0 - 1 + j * get_or IB k 0) (map_word index k 9)
    (λ i q. wave_in_law gmt i (omega arith)) t)

pub loop-k-init : goal.loop-k-init
loop-k-init c = (search rules, loop_start 0 _ _)

pub loop-k-preserved : goal.loop-k-preserved
loop-k-preserved c =
    let k = c in
    let w = k in
    let s = w in
    let f = time_map_of (hour_wave s.args.gmt) s.args.cof.now s.args.index.words.now in (
      search rules,
      loop_turn 0 f _ k.loop-k.k (omega arith) k.loop-k.invariant.1
          (c.time_map.ensures
          ∙ map_same s.args.cof.now s.args.index.words.now s.args.gmt w.hour_waves.result k.loop-k.k _ s.args.index.good
          c.loop-k-test.true w.hour_waves.ensures),
    )

pub returns : goal.returns
unfolding virtim_of decimal round of_bits
returns c = let e : c.loop-k.k ≡ 6 = omega arith in rw e at c.loop-k.invariant.1

pub time_map-requires : goal.time_map-requires
time_map-requires c = let k = c in
    (carried _ tt, k.loop-k-test.true)
