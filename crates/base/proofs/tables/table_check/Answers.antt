-- `table_check` is `table_check`, by the number, the record's length and the walk, in this order.
use Rattle.std.proofs.Common.{sym, ◌∙◌}
use Rattle.base.proofs.layout.Parts.{table_high, table_short, table_walk}
use Rattle.base.proofs.tables.table_check.Goals as goal

pub returns-then-number-gt20 : goal.returns-then-number-gt20
returns-then-number-gt20 c = sym (table_high _ _ _ c.if-number-gt20.true)

pub returns-then-f2-lt-RECORD : goal.returns-then-f2-lt-RECORD
returns-then-f2-lt-RECORD c = sym (table_short _ _ _ c.if-number-gt20.false c.if-f2-lt-RECORD.true)

pub returns : goal.returns
returns c = c.month_file_check.ensures ∙ sym (table_walk _ _ _ c.if-number-gt20.false c.if-f2-lt-RECORD.false)
