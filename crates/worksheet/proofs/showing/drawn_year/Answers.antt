-- `drawn_year`: each way out, by its definition.
use Rattle.std.proofs.Common.{rules}
use Rattle.worksheet.specs.Showing.{drawn_of, drawn_buffer, buffer_check, drawn_check, year_files}
use Rattle.worksheet.proofs.showing.drawn_year.Goals as goal

pub returns-then-out-ne-FIGURES-clause-answer : goal.returns-then-out-ne-FIGURES-clause-answer
unfolding drawn_of drawn_buffer drawn_check buffer_check
returns-then-out-ne-FIGURES-clause-answer c = search rules

pub returns-then-out-ne-FIGURES-clause-buffer : goal.returns-then-out-ne-FIGURES-clause-buffer
unfolding drawn_of drawn_buffer drawn_check buffer_check
returns-then-out-ne-FIGURES-clause-buffer c = search rules

pub returns-in_err-year_check-clause-answer : goal.returns-in_err-year_check-clause-answer
unfolding drawn_of drawn_buffer drawn_check buffer_check year_files
returns-in_err-year_check-clause-answer c = search rules

pub returns-in_err-year_check-clause-buffer : goal.returns-in_err-year_check-clause-buffer
unfolding drawn_of drawn_buffer drawn_check buffer_check year_files
returns-in_err-year_check-clause-buffer c = search rules

pub returns-clause-answer : goal.returns-clause-answer
unfolding drawn_of drawn_buffer drawn_check buffer_check year_files
returns-clause-answer c = search rules

pub returns-clause-buffer : goal.returns-clause-buffer
unfolding drawn_of drawn_buffer drawn_check buffer_check year_files
returns-clause-buffer c = search rules

pub returns-in_err-month_record_check-clause-answer : goal.returns-in_err-month_record_check-clause-answer
unfolding drawn_of drawn_buffer drawn_check buffer_check year_files
returns-in_err-month_record_check-clause-answer c = search rules

pub returns-in_err-month_record_check-clause-buffer : goal.returns-in_err-month_record_check-clause-buffer
unfolding drawn_of drawn_buffer drawn_check buffer_check year_files
returns-in_err-month_record_check-clause-buffer c = search rules
