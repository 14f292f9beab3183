-- `put_float` puts `decimal_text`: the fields are those of the float's bits, which are read back as
-- the float.
use Rattle.std.proofs.Common.{ℕ, ap, ◌∙◌}
use lib.Ieee.{binary32, of_bits}
use Rattle.base.proofs.rounding.Patterns.{read_back}
use Rattle.listing.specs.Decimal.{decimal_text}
use Rattle.listing.proofs.pieces.Puts.{put_as}
use Rattle.listing.proofs.decimal.put_float.Goals as goal

pub returns : goal.returns
unfolding of_bits
returns c =
    put_as c.put_parts.ensures
    (ap (λ (w : ℕ). decimal_text (of_bits binary32 w)) c.bits32-w.ensures ∙ ap decimal_text (read_back binary32 c.args.x c.well_formed.1.0.1))
