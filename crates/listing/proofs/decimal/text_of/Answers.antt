-- `text_of` is `text_of`, place by place.
use Rattle.listing.specs.Decimal.{text_of}
use Rattle.listing.proofs.decimal.text_of.Goals as goal

pub returns : goal.returns
unfolding text_of
returns c = cc
