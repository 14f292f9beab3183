-- `model_place` is the part `year_model`: that of a pair, by what `pair_place` ensures, or none.
use Rattle.std.proofs.Common.{ℕ, sym, ap, ◌∙◌, arith}
use Rattle.base.specs.MonthFile.{Part}
use Rattle.base.proofs.layout.Directories.{model_part_is, no_model}
use Rattle.base.proofs.year.model_place.Goals as goal

abbrev from_of : Part → ℕ
from_of p = p.from

abbrev size_of : Part → ℕ
size_of p = p.size

pub returns-then-is_bit : goal.returns-then-is_bit
returns-then-is_bit c =
    let p = model_part_is _ _ (sym c.is_bit.ensures ∙ c.if-is_bit.true) in
    let e = c.pair_place.ensures in
    record { start = e.start ∙ sym (ap from_of p); size = e.size ∙ sym (ap size_of p); within = e.within }

pub returns-else-is_bit : goal.returns-else-is_bit
returns-else-is_bit c =
    let p = no_model _ _ (sym c.is_bit.ensures ∙ c.if-is_bit.false) in
    record { start = sym (ap from_of p); size = sym (ap size_of p); within = omega arith }
