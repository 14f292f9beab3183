-- `record_place` is the place of `month_part`, by the check: an accepted month has its part from the
-- first byte of its record.
use Rattle.std.proofs.Common.{rules, sym, ap, ◌∙◌, cond}
use Rattle.base.specs.Refusal.{Verdict, is_accepted}
use Rattle.base.specs.MonthFile.{empty_part, month_start, month_part}
use Rattle.base.proofs.layout.Records.{month_known}
use Rattle.jutetrowel.specs.Answers.{span_of, placed}
use Rattle.jutetrowel.proofs.files.record_place.Goals as goal

pub returns-in_err-month_record_check : goal.returns-in_err-month_record_check
unfolding placed span_of month_part
returns-in_err-month_record_check c = search rules

pub overflow_sub-result : goal.overflow_sub-result
overflow_sub-result c =
    (month_known _ _ (sym c.month_record_check.ensures ∙ c.in_ok-month_record_check.was)).low

pub returns : goal.returns
unfolding placed span_of month_part
returns c =
    let there = sym c.month_record_check.ensures ∙ c.in_ok-month_record_check.was in
    sym (ap (λ (v : Verdict). span_of v (cond (is_accepted v) (record { from = month_start c.args.month; size = 7904 }) empty_part)) there)
