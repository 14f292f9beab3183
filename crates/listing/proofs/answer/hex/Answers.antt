-- `hex` is `hex_of`, digit by digit.
use Rattle.listing.specs.Answer.{hex_of}
use Rattle.listing.proofs.answer.hex.Goals as goal

pub returns : goal.returns
unfolding hex_of
returns c = cc
