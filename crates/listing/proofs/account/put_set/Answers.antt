-- `put_set` puts `came_words`: word, desk, line and the line of the commit, joined.
use Rattle.listing.specs.Account.{came_words}
use Rattle.listing.proofs.pieces.Puts.{joined}
use Rattle.listing.proofs.account.put_set.Goals as goal

pub returns : goal.returns
unfolding came_words
returns c = joined c.put.ensures (joined c.put_number.ensures (joined c.put_at_line.ensures c.put_done.ensures))
