-- `first_other` is `first_other`: where all words are finite it is behind them, and else it is looked
-- for, by the loop's invariant that from the word i on it is that of the whole run.
use Rattle.std.proofs.Common.{sym, ◌∙◌}
use Rattle.base.proofs.layout.FirstWords.{none_other, all_run, sought_on, sought_here, sought_none}
use Rattle.base.proofs.finite.first_other.Goals as goal

pub returns-then-are_finite : goal.returns-then-are_finite
returns-then-are_finite c =
    sym (none_other _ _ _ (all_run _ _ _ (sym c.are_finite.ensures ∙ c.if-are_finite.true)))

pub returns-then-not-is_finite : goal.returns-then-not-is_finite
returns-then-not-is_finite c =
    let f = c in
    sought_here _ _ _ _ f.loop-i-test.true f.loop-i.invariant (sym f.is_finite.ensures ∙ c.if-not-is_finite.true)

pub loop-i-preserved : goal.loop-i-preserved
loop-i-preserved c =
    let f = c in
    sought_on _ _ _ _ f.loop-i-test.true f.loop-i.invariant (sym f.is_finite.ensures ∙ c.if-not-is_finite.false)

pub returns : goal.returns
returns c =
    let l = c.loop-i in
    sought_none _ _ _ _ l.auto.i-end c.loop-i-test.false l.invariant
