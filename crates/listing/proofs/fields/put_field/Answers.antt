-- `put_field` puts `field_text`: name, value and unit, which fit.
use Rattle.std.proofs.Common.{◌-◌, length, ap, arith}
use Rattle.listing.proofs.pieces.Named.{length_field_value, length_field_unit}
use Rattle.listing.proofs.fields.put_field.Goals as goal

pub put-requires-2 : goal.put-requires-2
put-requires-2 c =
    omega (arith, length_field_value c.args.i c.args.k, length_field_unit (c.args.k - 1) (omega arith), ap length c.field_unit.ensures)
