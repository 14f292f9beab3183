-- `power` is `power_of_two`, by the sign.
use Rattle.std.proofs.Common.{◌≡◌, ℕ, ◌^◌, sym, ap, ◌∙◌}
use lib.Ieee.{to_unsigned}
use Rattle.base.specs.Double.{fraction}
use Rattle.base.specs.Number.{abs_of}
use Rattle.base.specs.Elementary.{power_of_two}
use Rattle.base.proofs.verdicts.Picks.{cond_true, cond_false}
use Rattle.base.proofs.elementary.power.Goals as goal

pub returns-then-is_negative : goal.returns-then-is_negative
unfolding power_of_two
returns-then-is_negative c =
    let w = c in
    let k : w.to_u64-k.result ≡ to_unsigned 64 (abs_of w.args.n) = w.to_u64-k.ensures ∙ ap (to_unsigned 64) w.abs64.ensures in
    c.power_down.ensures ∙ ap (λ (u : ℕ). fraction 1 (2 ^ u)) k ∙ sym (cond_true _ _ (sym c.is_negative.ensures ∙ c.if-is_negative.true))

pub returns-else-is_negative : goal.returns-else-is_negative
unfolding power_of_two
returns-else-is_negative c =
    let w = c in
    let k : w.to_u64-k.result ≡ to_unsigned 64 (abs_of w.args.n) = w.to_u64-k.ensures ∙ ap (to_unsigned 64) w.abs64.ensures in
    c.power_up.ensures ∙ ap (λ (u : ℕ). fraction (2 ^ u) 1) k ∙ sym (cond_false _ _ (sym c.is_negative.ensures ∙ c.if-is_negative.false))
