-- `divided` is n over b^k: after each turn the quotient is n over b to the power of the turns made.
use Rattle.std.proofs.Common.{ℕ, ◌/◌, sym, ap, ◌∙◌}
use Rattle.listing.proofs.digits.Quotients.{by_none, by_one_more}
use Rattle.listing.proofs.text.divided.Goals as goal

pub loop-init : goal.loop-init
loop-init c = sym (by_none c.args.n c.args.b)

pub loop-preserved : goal.loop-preserved
loop-preserved c = ap (λ (x : ℕ). x / c.args.b) c.loop.invariant ∙ by_one_more c.args.n c.args.b c.loop.counter
