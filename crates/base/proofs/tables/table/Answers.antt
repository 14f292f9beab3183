-- `table` is the part `table_part` of the file that holds it, by the verdict: an accepted table lies
-- within that file, and a refused one gives no bytes at 0.
use Rattle.std.proofs.Common.{sym, refl, ◌∙◌, arith}
use Rattle.base.proofs.layout.Records.{part_of}
use Rattle.base.proofs.layout.Walks.{accepted_length}
use Rattle.base.proofs.layout.Parts.{TableThere, Placed, placed, table_known, table_part_law, table_none, file_none, file_f2, file_month}
use Rattle.base.proofs.tables.table.Goals.{In-Ok}
use Rattle.base.proofs.tables.table.Goals.{In-Ok}
use Rattle.base.proofs.tables.table.Goals as goal

there : (c : In-Ok) → let a = c.args in TableThere a.number a.f2.now a.month.now
there c = table_known _ _ _ (sym c.table_check-verdict.ensures ∙ c.in-Ok.is)

place : (c : In-Ok) → Placed c.args.number
place c = placed _ (there c).known

pub overflow_add-e : goal.overflow_add-e
overflow_add-e c = let p = place (goal.at.overflow_add-e c).In-Ok in let t = c.table_place-place.ensures in omega arith

pub slice_bounds-result-end : goal.slice_bounds-result-end
slice_bounds-result-end c =
    let s = c in
    let p = place (goal.at.slice_bounds-result-end c).In-Ok in
    let q = p.planes c.if-number-eq0.true in
    let f = (there (goal.at.slice_bounds-result-end c).In-Ok).planes in
    let t = c.table_place-place.ensures in omega arith

pub slice_bounds-result-end-else-number-eq0 : goal.slice_bounds-result-end-else-number-eq0
slice_bounds-result-end-else-number-eq0 c =
    let s = c in
    let p = place (goal.at.slice_bounds-result-end-else-number-eq0 c).In-Ok in
    let f = accepted_length _ (there (goal.at.slice_bounds-result-end-else-number-eq0 c).In-Ok).walked in
    let t = c.table_place-place.ensures in omega arith

pub returns-then-number-eq0 : goal.returns-then-number-eq0
returns-then-number-eq0 c =
    let b = c in
    let a = b.args in
    let e = b.table_check-verdict.ensures in
    let z = b.in-Ok.is in
    let t = c.table_place-place.ensures in
    rw (table_part_law _ _ _ e z, file_f2 a.number a.f2 a.month e z c.if-number-eq0.true)
    (part_of _ _ _ _ (sym t.start) (omega arith))

pub returns-else-number-eq0 : goal.returns-else-number-eq0
returns-else-number-eq0 c =
    let b = c in
    let a = b.args in
    let e = b.table_check-verdict.ensures in
    let z = b.in-Ok.is in
    let t = c.table_place-place.ensures in
    rw (table_part_law _ _ _ e z, file_month a.number a.f2 a.month e z c.if-number-eq0.false)
    (part_of _ _ _ _ (sym t.start) (omega arith))

pub returns-in-Err : goal.returns-in-Err
returns-in-Err c =
    let b = c in
    let a = b.args in
    let e = b.table_check-verdict.ensures in
    let z = b.in-Err.is in
    rw (table_none _ _ _ e z, file_none a.number a.f2 a.month e z)
    (part_of _ 0 0 _ refl refl)
