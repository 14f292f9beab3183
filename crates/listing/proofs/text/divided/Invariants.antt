-- `divided` is n over b^k: after each turn the quotient is n over b to the power of the turns made.
use Rattle.std.proofs.Common.{◌≡◌, ◌/◌, ◌^◌}
use Rattle.listing.proofs.text.divided.Given as goal

abbrev pub invariant-loop : goal.invariant-loop
invariant-loop l = l.quotient ≡ l.n / l.b ^ l.counter
