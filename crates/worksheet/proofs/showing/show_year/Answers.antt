-- `show_year`: each way out, by its definition.
use Rattle.std.proofs.Common.{rules}
use Rattle.worksheet.specs.Showing.{show_of, show_buffer, show_check, drawn_of, drawn_buffer}
use Rattle.worksheet.proofs.showing.show_year.Goals as goal

pub returns-in_err-judged_check-clause-answer : goal.returns-in_err-judged_check-clause-answer
unfolding show_of show_buffer show_check drawn_of drawn_buffer
returns-in_err-judged_check-clause-answer c = search rules

pub returns-in_err-judged_check-clause-buffer : goal.returns-in_err-judged_check-clause-buffer
unfolding show_of show_buffer show_check drawn_of drawn_buffer
returns-in_err-judged_check-clause-buffer c = search rules

pub returns-clause-answer : goal.returns-clause-answer
unfolding show_of show_buffer show_check drawn_of drawn_buffer
returns-clause-answer c = search rules

pub returns-clause-buffer : goal.returns-clause-buffer
unfolding show_of show_buffer show_check drawn_of drawn_buffer
returns-clause-buffer c = search rules
