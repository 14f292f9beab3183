-- `are_finite` is `all_finite`, by the loop's invariant that the sums gathered so far stay below the
-- sign's bit exactly where the words so far are finite.
use Rattle.std.proofs.Common.{◌≡◌, ltb}
use Rattle.base.specs.Finite.{all_finite}
use Rattle.base.proofs.finite.are_finite.Given as goal

abbrev pub invariant-loop-i : goal.invariant-loop-i
invariant-loop-i l = (ltb l.seen 2147483648 ≡ all_finite l.s l.at l.i)
