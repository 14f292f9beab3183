-- `sign` is `sign_text`, by the flag.
use Rattle.std.proofs.Common.{sym}
use Rattle.base.proofs.verdicts.Picks.{cond_true, cond_false}
use Rattle.listing.specs.Decimal.{sign_text}
use Rattle.listing.proofs.decimal.sign.Goals as goal

pub returns-then-negative : goal.returns-then-negative
unfolding sign_text
returns-then-negative c = sym (cond_true _ _ c.if-negative.true)

pub returns-else-negative : goal.returns-else-negative
unfolding sign_text
returns-else-negative c = sym (cond_false _ _ c.if-negative.false)
