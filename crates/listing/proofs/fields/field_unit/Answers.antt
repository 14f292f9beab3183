-- The source's units are those of the rows of specs/Fields.antt, by computation over the whole table.
use Rattle.std.proofs.Common.{◌-◌, refl, ap, ◌∙◌, arith}
use Rattle.listing.specs.declared.fields.TheConstants.{FIELD_UNITS}
use Rattle.listing.specs.declared.unit.Unit.TheVariants.{Bare}
use Rattle.listing.specs.Fields.{field_rows}
use Rattle.listing.specs.Page.{unit_text}
use Rattle.listing.proofs.pieces.Rows.{unit_at}
use Rattle.listing.proofs.fields.field_unit.Goals as goal

pub returns : goal.returns
returns c = c.words.ensures ∙ ap unit_text (unit_at FIELD_UNITS field_rows (c.args.k - 1) Bare refl (omega arith))
