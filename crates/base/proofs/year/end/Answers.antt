-- `end` is `end_at`: the sum of two numbers below 2^32, by what `offset` and `size` ensure.
use Rattle.std.proofs.Common.{ℕ, ◌+◌, ap₂}
use Rattle.base.specs.Year.{end_at}
use Rattle.base.proofs.year.end.Goals as goal

pub returns : goal.returns
unfolding end_at
returns c = ap₂ (λ (a b : ℕ). a + b) c.offset.ensures.answer c.size.ensures.answer
