-- The source's units are those of the rows of specs/Page.antt, by computation over the whole table.
use Rattle.std.proofs.Common.{refl, ap, ◌∙◌}
use Rattle.listing.specs.declared.page.TheConstants.{UNITS}
use Rattle.listing.specs.declared.unit.Unit.TheVariants.{Bare}
use Rattle.listing.specs.Page.{page_rows, unit_text}
use Rattle.listing.proofs.pieces.Rows.{unit_at}
use Rattle.listing.proofs.page.unit.Goals as goal

pub returns : goal.returns
returns c = c.words.ensures ∙ ap unit_text (unit_at UNITS page_rows c.args.k Bare refl c.requires)
