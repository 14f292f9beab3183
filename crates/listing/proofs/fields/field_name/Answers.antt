-- The source's names are those of the rows of specs/Fields.antt, by computation over the whole table.
use Rattle.std.proofs.Common.{◌-◌, arith}
use Rattle.listing.specs.Fields.{field_name}
use Rattle.listing.proofs.pieces.Named.{name_of}
use Rattle.listing.proofs.fields.field_name.Goals as goal

pub returns : goal.returns
unfolding field_name
returns c = name_of (c.args.k - 1) (omega arith)
