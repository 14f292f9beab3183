-- `three` is `three_at`: each array is filled with its map's geographic functions, and the series
-- read them up to their last terms.
use Rattle.std.proofs.Common.{◌≡◌, ℕ, ◌-◌, ◌<◌, List, get_or, refl, ◌∙◌, arith, Float}
use lib.Ieee.{round, of_bits}
use Rattle.base.specs.Double.{fraction}
use Rattle.base.specs.Fill.{tabulate}
use Rattle.base.specs.Index.{map_word}
use Rattle.base.specs.Blend.{IC}
use Rattle.base.proofs.lists.Fills.{run_at}
use Rattle.base.proofs.ladder.Ladders.{limits}
use Rattle.maps.specs.Virtim.{GoodTable}
use Rattle.maps.specs.Versy.{zeros, elements, gamma_of, series_of, three_at}
use Rattle.maps.proofs.sums.MapSeries.{gamma_same}
use Rattle.maps.proofs.ionosphere.versy.HourMaps.three.Goals as goal

pub basis-requires : goal.basis-requires
unfolding zeros fraction round of_bits
basis-requires c = (omega arith, refl)

pub basis-requires-2 : goal.basis-requires-2
unfolding zeros fraction round of_bits
basis-requires-2 c = (omega arith, refl)

pub basis-requires-3 : goal.basis-requires-3
unfolding zeros fraction round of_bits
basis-requires-3 c = (omega arith, refl)

-- the value of a map is its series, over an array that holds its functions
value :
    (ab : List Float) (index : List ℕ) (k : ℕ) (f : ℕ → Float) {ab' g g' : List Float} {start last : ℕ} {x : Float} → GoodTable index → k < 6 →
    ab' ≡ ab → g' ≡ g → start ≡ get_or IC k 0 - 1 → last ≡ map_word index k 8 → g ≡ tabulate f 76 →
    x ≡ gamma_of ab' start (elements g') last → x ≡ series_of ab index k f
unfolding series_of
value ab index k f good h p q r l m e =
    let t = (good k h).terms in
    let room = limits k h in
    e
    ∙ (λ i. gamma_of (p i) (r i) (elements ((q ∙ m) i)) (l i))
    ∙ gamma_same ab _ (elements (tabulate f 76)) f (map_word index k 8) (λ i b. run_at f 76 i _ (omega arith))

pub returns : goal.returns
unfolding three_at
returns c =
    λ gob clg w.
    let a = c.args.self in
    let e = c.three_series.ensures in
    let m = c.of_map.ensures in
    let m2 = c.of_map-2.ensures in
    let m3 = c.of_map-3.ensures in
    let x = value a.ab.now a.index.words.now _ _ a.index.good (omega arith) m.coefficients m.functions m.start m.last (c.basis.ensures gob clg w) e.first in
    let y = value a.ab.now a.index.words.now _ _ a.index.good (omega arith) m2.coefficients m2.functions m2.start m2.last (c.basis-2.ensures gob clg w) e.second in
    let z = value a.ab.now a.index.words.now _ _ a.index.good (omega arith) m3.coefficients m3.functions m3.start m3.last (c.basis-3.ensures gob clg w) e.third in
    λ t. (x t, y t, z t)
