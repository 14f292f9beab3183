-- `files_check` is `files_check`: a short record is refused first, and each check answers where those before it accept.
use Rattle.std.proofs.Common.{rules, arith}
use Rattle.base.specs.Files.{files_check}
use Rattle.base.proofs.files.files_check.Goals as goal

pub returns-then-f2-lt-RECORD : goal.returns-then-f2-lt-RECORD
unfolding files_check
returns-then-f2-lt-RECORD c = grind (arith, rules)

pub returns-in_err-month_file_check : goal.returns-in_err-month_file_check
unfolding files_check
returns-in_err-month_file_check c = grind (arith, rules)

pub returns-in_err-record_words_check : goal.returns-in_err-record_words_check
unfolding files_check
returns-in_err-record_words_check c = grind (arith, rules)

pub returns-in_err-table_words_check : goal.returns-in_err-table_words_check
unfolding files_check
returns-in_err-table_words_check c = grind (arith, rules)

pub returns : goal.returns
unfolding files_check
returns c = grind (arith, rules)
