-- `first` is `sum_of` at 0: its one product.
use Rattle.std.proofs.Common.{ap, Float}
use Rattle.base.specs.Double.{◌⊗◌}
use Rattle.maps.specs.Versy.{elements, sum_of}
use Rattle.maps.proofs.ionosphere.versy.Series.first.Goals as goal

pub returns : goal.returns
unfolding sum_of
returns c = ap (λ (x : Float). elements c.args.self.g.now 0 ⊗ x) c.widen.ensures
