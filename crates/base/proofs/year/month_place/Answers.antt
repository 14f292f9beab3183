-- `month_place` is the part `year_month`: that of a pair, by what `pair_place` ensures, or none.
use Rattle.std.proofs.Common.{ℕ, sym, ap, ◌∙◌, arith}
use Rattle.base.specs.MonthFile.{Part}
use Rattle.base.proofs.layout.Directories.{month_part_is, no_month}
use Rattle.base.proofs.year.month_place.Goals as goal

abbrev from_of : Part → ℕ
from_of p = p.from

abbrev size_of : Part → ℕ
size_of p = p.size

pub returns-then-is_month : goal.returns-then-is_month
returns-then-is_month c =
    let p = month_part_is _ _ (sym c.is_month.ensures ∙ c.if-is_month.true) in
    let e = c.pair_place.ensures in
    record { start = e.start ∙ sym (ap from_of p); size = e.size ∙ sym (ap size_of p); within = e.within }

pub returns-else-is_month : goal.returns-else-is_month
returns-else-is_month c =
    let p = no_month _ _ (sym c.is_month.ensures ∙ c.if-is_month.false) in
    record { start = sym (ap from_of p); size = sym (ap size_of p); within = omega arith }
