-- `rows` is the list of its five rows.
use Rattle.maps.specs.Geometry.{control_row, rows_of}
use Rattle.maps.proofs.geometry.rows.Goals as goal

pub returns : goal.returns
unfolding control_row rows_of
returns c =
    rw (
      c.row-p5.ensures,
      c.row-p4.ensures,
      c.row-p3.ensures,
      c.row-p2.ensures,
      c.row-p1.ensures,
      c.distances-rd.ensures,
    )
