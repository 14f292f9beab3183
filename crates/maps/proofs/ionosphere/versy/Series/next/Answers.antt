-- `next` is `sum_of` with one term more.
use Rattle.maps.specs.Versy.{elements}
use Rattle.maps.proofs.sums.MapSeries.{sum_next}
use Rattle.maps.proofs.ionosphere.versy.Series.next.Goals as goal

pub returns : goal.returns
returns c =
    let s = c.args.self in
    sum_next s.ab.now s.start (elements s.g.now) c.args.k c.requires.0 c.requires.2 c.narrowed.ensures c.widen.ensures
