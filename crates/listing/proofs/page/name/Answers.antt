-- The source's names are those of the rows of specs/Page.antt, by computation over the whole table.
use Rattle.listing.specs.Page.{name_text}
use Rattle.listing.proofs.pieces.Rows.{name_at}
use Rattle.listing.proofs.page.name.Goals as goal

pub returns : goal.returns
unfolding name_text
returns c = name_at c.args.k c.requires
