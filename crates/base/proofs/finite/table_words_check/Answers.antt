-- `table_words_check` is `table_words_check`: of a file that was walked the first word that is no finite number
-- is the first between the first table after `ikim` and the end of the last.
use Rattle.std.proofs.Common.{refl, ◌∙◌, arith, rules}
use Rattle.base.specs.declared.refusal.Refusal.TheVariants.{MonthWord}
use Rattle.base.proofs.layout.Walks.{accepted_length}
use Rattle.base.proofs.layout.FirstWords.{first_most, by_found, walked_words}
use Rattle.base.proofs.finite.table_words_check.Goals as goal

pub first_other-at-requires : goal.first_other-at-requires
first_other-at-requires c = let l = accepted_length _ c.requires in (search rules, search rules, omega arith)

pub overflow_cast-at : goal.overflow_cast-at
overflow_cast-at c = omega (arith, c.first_other-at.ensures, first_most c.args.month.now 252 9574)

pub returns : goal.returns
returns c =
    c.refuse_unless.ensures
    ∙ by_found _ MonthWord 252 9574 _ _ refl c.first_other-at.ensures
    ∙ walked_words _ c.requires
