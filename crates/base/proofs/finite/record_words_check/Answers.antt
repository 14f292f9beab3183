-- `record_words_check` is `record_words_check`: the first word that is no finite number, or none.
use Rattle.std.proofs.Common.{◌*◌, ◌∙◌, arith}
use Rattle.base.specs.declared.refusal.Refusal.TheVariants.{RecordWord}
use Rattle.base.specs.Finite.{record_words_check}
use Rattle.base.proofs.layout.FirstWords.{first_most, by_found}
use Rattle.base.proofs.finite.record_words_check.Goals as goal

pub overflow_cast-at : goal.overflow_cast-at
overflow_cast-at c =
    let a = c in
    let months = a.requires.0 in
    omega (arith, c.first_other-at.ensures, first_most a.args.daw.now 0 (a.args.months * 1976))

pub returns : goal.returns
unfolding record_words_check
returns c = c.refuse_unless.ensures ∙ by_found _ RecordWord 0 _ _ _ (omega arith) c.first_other-at.ensures
