-- `row_of` is `table_row`: the source's three tables are the digits of specs/Magnetic.antt, by
-- computation over each whole table.
use Rattle.std.proofs.Common.{refl}
use lib.Ieee.{round, of_bits}
use Rattle.base.specs.Single.{decimal, minus_decimal}
use Rattle.maps.specs.Magnetic.{o, CT, G, H, table_row}
use Rattle.maps.proofs.magnetic.row_of.Goals as goal

pub returns : goal.returns
unfolding table_row CT G H o decimal minus_decimal round of_bits
returns c = refl
