-- `is_good` is `good_map`: each test that fails makes the map bad, as the unsigned tests are the
-- signed ones, and where all pass the ladder decides.
use Rattle.std.proofs.Common.{◌≡◌, ltb, leb, ◌&&◌, true, false, sym, ◌∙◌, slice_index, arith, rules, leb-true, leb-false, le-ltb}
use Rattle.base.specs.Index.{rows, harmonics}
use Rattle.base.proofs.ladder.Ladders.{fails_terms, fails_waves, fails_first, ladder_decides, in_first}
use Rattle.base.proofs.verdicts.Picks.{never}
use Rattle.base.proofs.index.is_good.Goals.{then-ikim_word-k, else-ikim_word-k, then-ikim_word-k-2, else-ikim_word-k-2}
use Rattle.base.proofs.index.is_good.Goals as goal

pub returns-then-contains : goal.returns-then-contains
returns-then-contains c =
    elim c.if-ikim_word-k-2.branch [
      | then-ikim_word-k-2 w ↦ elim c.if-ikim_word-k.branch [
        | then-ikim_word-k v ↦ (
            let waves : leb v.ikim_word-then-ikim_word-k.result (slice_index harmonics c.args.k) ≡ true = sym v.value-is ∙ w.if-ikim_word-k-2.true in
            let u = w.ikim_word-then-ikim_word-k-2.result in
            let e : w.contains.result ≡ (leb 1 u && leb u 75) = search rules in
            let first = in_first u (sym e ∙ sym w.value-is ∙ c.if-contains.true) in
            c.is_ladder.ensures
            ∙ ladder_decides _ _ c.requires (omega (arith, c.ikim_word.ensures, v.if-ikim_word-k.true))
            (omega (arith, v.ikim_word-then-ikim_word-k.ensures, leb-true _ _ waves))
            (omega (arith, w.ikim_word-then-ikim_word-k-2.ensures, first.0))
            (omega (arith, w.ikim_word-then-ikim_word-k-2.ensures, first.1)))
        | else-ikim_word-k v ↦ (
            let e : ltb c.ikim_word.result (slice_index rows c.args.k) ≡ true = sym v.value-is ∙ w.if-ikim_word-k-2.true in
            never (sym (le-ltb _ _ v.if-ikim_word-k.false) ∙ e))
      ]
      | else-ikim_word-k-2 w ↦ never (sym w.if-ikim_word-k-2.false ∙ sym w.value-is ∙ c.if-contains.true)
    ]

pub returns-else-contains : goal.returns-else-contains
returns-else-contains c =
    elim c.if-ikim_word-k-2.branch [
      | then-ikim_word-k-2 w ↦ (
          let u = w.ikim_word-then-ikim_word-k-2.result in
          let e : w.contains.result ≡ (leb 1 u && leb u 75) = search rules in
          c.if-contains.false ∙ fails_first _ _ c.requires u w.ikim_word-then-ikim_word-k-2.ensures (sym e ∙ sym w.value-is ∙ c.if-contains.false))
      | else-ikim_word-k-2 w ↦ w.value-is ∙ w.if-ikim_word-k-2.false ∙ elim c.if-ikim_word-k.branch [
        | then-ikim_word-k v ↦ (
            let waves : leb v.ikim_word-then-ikim_word-k.result (slice_index harmonics c.args.k) ≡ false = sym v.value-is ∙ w.if-ikim_word-k-2.false in
            fails_waves _ _ c.requires _ v.ikim_word-then-ikim_word-k.ensures (leb-false _ _ waves))
        | else-ikim_word-k v ↦ fails_terms _ _ c.requires _ c.ikim_word.ensures v.if-ikim_word-k.false
      ]
    ]
