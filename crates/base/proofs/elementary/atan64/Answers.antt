-- `atan64` is `atan_of`: the sign is put back.
use Rattle.std.proofs.Common.{sym, ap, ◌∙◌}
use lib.Ieee.{neg}
use Rattle.base.specs.Number.{with_sign}
use Rattle.base.specs.Elementary.{atan_from, atan_of}
use Rattle.base.proofs.verdicts.Picks.{cond_true, cond_false}
use Rattle.base.proofs.elementary.atan64.Goals as goal

pub returns-then-is_negative : goal.returns-then-is_negative
unfolding atan_of with_sign
returns-then-is_negative c = ap neg (c.atan_from-t.ensures ∙ ap atan_from c.abs64.ensures) ∙ sym (cond_true _ _ (sym c.is_negative.ensures ∙ c.if-is_negative.true))

pub returns-else-is_negative : goal.returns-else-is_negative
unfolding atan_of with_sign
returns-else-is_negative c = c.atan_from-t.ensures ∙ ap atan_from c.abs64.ensures ∙ sym (cond_false _ _ (sym c.is_negative.ensures ∙ c.if-is_negative.false))
