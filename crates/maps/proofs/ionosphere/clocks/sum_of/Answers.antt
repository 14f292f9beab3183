-- `sum_of` is the `f32` nearest to the sum: the sum fits an `i64` (`sum_fits`), and its `f64`,
-- narrowed, is its `f32` (`sum_narrow`).
use Rattle.std.proofs.Common.{ap, ◌∙◌}
use Rattle.base.specs.Number.{narrow_of}
use Rattle.maps.proofs.sums.WholeSums.{wide, sum_fits, sum_narrow}
use Rattle.maps.proofs.ionosphere.clocks.sum_of.Goals as goal

pub returns : goal.returns
returns c = c.narrow.ensures ∙ ap narrow_of c.nearest_i64_to_f64.ensures ∙ sum_narrow _ _ c.ranges.a c.ranges.b

pub overflow_cast-a : goal.overflow_cast-a
overflow_cast-a c = wide _ c.ranges.a

pub overflow_cast-b : goal.overflow_cast-b
overflow_cast-b c = wide _ c.ranges.b

pub overflow_add-a : goal.overflow_add-a
overflow_add-a c = sum_fits _ _ c.ranges.a c.ranges.b
