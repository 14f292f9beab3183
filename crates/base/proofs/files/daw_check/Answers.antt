-- `daw_check` is `daw_check`: where month 12's record is there, so are all, and their words are judged.
use Rattle.std.proofs.Common.{rules, sym, ◌∙◌, lit≤}
use Rattle.base.specs.Files.{daw_check}
use Rattle.base.proofs.layout.Records.{month_known}
use Rattle.base.proofs.files.daw_check.Goals as goal

pub record_words_check-requires : goal.record_words_check-requires
record_words_check-requires c = (lit≤ tt, (month_known _ 12 (sym c.month_record_check.ensures ∙ c.in_ok-month_record_check.was)).room)

pub returns-in_err-month_record_check : goal.returns-in_err-month_record_check
unfolding daw_check
returns-in_err-month_record_check c = search rules

pub returns : goal.returns
unfolding daw_check
returns c = search rules
