-- `month_record` is the part `month_part` of the file, by the verdict: an accepted record lies
-- within the file, and a refused one gives no bytes at 0.
use Rattle.std.proofs.Common.{sym, refl, ◌∙◌, arith}
use Rattle.base.proofs.layout.Records.{MonthThere, month_known, month_part_law, month_none, part_of}
use Rattle.base.proofs.month_file.month_record.Goals.{In-Ok}
use Rattle.base.proofs.month_file.month_record.Goals as goal

there : (c : In-Ok) → let a = c.args in MonthThere a.s.now a.month
there c = month_known _ _ (sym c.month_record_check-verdict.ensures ∙ c.in-Ok.is)

pub overflow_sub-a : goal.overflow_sub-a
overflow_sub-a c = let t = there (goal.at.overflow_sub-a c).In-Ok in omega arith

pub slice_bounds-result-end : goal.slice_bounds-result-end
slice_bounds-result-end c = let t = there (goal.at.slice_bounds-result-end c).In-Ok in omega arith

pub returns-in-Ok : goal.returns-in-Ok
returns-in-Ok c =
    rw (month_part_law _ _ c.month_record_check-verdict.ensures c.in-Ok.is)
    (part_of _ _ _ _ refl (omega arith))

pub returns-in-Err : goal.returns-in-Err
returns-in-Err c =
    rw (month_none _ _ c.month_record_check-verdict.ensures c.in-Err.is)
    (part_of _ 0 0 _ refl refl)
