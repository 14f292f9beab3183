-- `degree` is `degree_of`: the sums of its orders are those of `orders_of`.
use Rattle.maps.specs.Magnetic.{degree_of}
use Rattle.maps.proofs.magnetic.degree.Goals as goal

pub returns : goal.returns
unfolding degree_of
returns c =
    let k = c in
    rw (k.whole-fn_.ensures, ← k.orders-v.ensures)
