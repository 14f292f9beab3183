-- `glyph` is `glyph_of`, by whether the digit is below 10.
use Rattle.std.proofs.Common.{lt-ltb, le-ltb, sym}
use Rattle.base.proofs.verdicts.Picks.{cond_true, cond_false}
use Rattle.listing.specs.Answer.{glyph_of}
use Rattle.listing.proofs.answer.glyph.Goals as goal

pub returns-then-d-lt10 : goal.returns-then-d-lt10
unfolding glyph_of
returns-then-d-lt10 c = sym (cond_true _ _ (lt-ltb _ _ c.if-d-lt10.true))

pub returns-else-d-lt10 : goal.returns-else-d-lt10
unfolding glyph_of
returns-else-d-lt10 c = sym (cond_false _ _ (le-ltb _ _ c.if-d-lt10.false))
