-- `first_row` is the table's number less one: none of the six is 0.
use Rattle.std.proofs.Common.{◌≤◌, get_or, lit≤}
use Rattle.base.specs.Blend.{IC}
use Rattle.base.proofs.ladder.Ladders.{six}
use Rattle.maps.proofs.ionosphere.virtim.first_row.Goals as goal

pub overflow_sub-result : goal.overflow_sub-result
overflow_sub-result c = six (λ k. 1 ≤ get_or IC k 0) (lit≤ tt) (lit≤ tt) (lit≤ tt) (lit≤ tt) (lit≤ tt) (lit≤ tt) c.args.k c.requires
