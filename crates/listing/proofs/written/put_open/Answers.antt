-- `put_open` puts `open_text`: its words, joined.
use Rattle.listing.specs.Written.{open_text}
use Rattle.listing.proofs.pieces.Puts.{joined}
use Rattle.listing.proofs.written.put_open.Goals as goal

pub returns-clause-text : goal.returns-clause-text
unfolding open_text
returns-clause-text c =
    joined c.put.ensures
    (joined c.put_count.ensures.text
    (joined c.put-2.ensures
    (joined c.put_decimal.ensures.text
    (joined c.put-3.ensures
    (joined c.put_decimal-2.ensures.text
    (joined c.put-4.ensures
    (joined c.put_route.ensures.text
    (joined c.put-5.ensures
    (joined c.put_factors.ensures.text
    (joined c.put-6.ensures (joined c.put_pole.ensures.text (joined c.put-7.ensures c.put_model.ensures.text))))))))))))
