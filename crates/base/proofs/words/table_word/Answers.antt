-- `table_word` is `table_word_at`, by std's test of a finite number (`finite_is`).
use Rattle.std.proofs.Common.{sym, ap, ◌∙◌, rules}
use Rattle.std.specs.Float.Ieee.Scale.{finite}
use Rattle.base.specs.Words.{table_word_at}
use Rattle.base.proofs.rounding.Signs.{finite_is}
use Rattle.base.proofs.words.table_word.Goals as goal

pub returns : goal.returns
unfolding table_word_at
returns c =
    let tested = ap finite (sym c.float-x.ensures) ∙ sym (finite_is _) ∙ sym c.is_finite.ensures.value in
    search rules
