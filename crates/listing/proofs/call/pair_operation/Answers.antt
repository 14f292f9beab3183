-- `pair_operation` is `pair_operation`, by its test.
use Rattle.std.proofs.Common.{lt-ltb, le-ltb, sym}
use Rattle.base.proofs.verdicts.Picks.{cond_true, cond_false}
use Rattle.listing.specs.Calls.{pair_operation}
use Rattle.listing.proofs.call.pair_operation.Goals as goal

pub returns-then-operation-gt10 : goal.returns-then-operation-gt10
unfolding pair_operation
returns-then-operation-gt10 c = sym (cond_true _ _ (lt-ltb _ _ c.if-operation-gt10.true))

pub returns-else-operation-gt10 : goal.returns-else-operation-gt10
unfolding pair_operation
returns-else-operation-gt10 c = sym (cond_false _ _ (le-ltb _ _ c.if-operation-gt10.false))
