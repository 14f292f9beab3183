-- The source's sizes are those of the table of calls, by computation over the whole table; so is
-- that none is above 24.
use Rattle.std.proofs.Common.{sym, ap, Bool, List, map, ℕ, ◌*◌, arith, leb, leb→le, get_or}
use lib.ListN.{get_or-map, get_or-eq_default}
use Rattle.base.proofs.lists.Entries.{at as entry}
use Rattle.listing.specs.Calls.{Operation, unknown, operations, size_of}
use Rattle.listing.proofs.call.size_of.Goals as goal

abbrev bytes : Operation → ℕ
bytes o = 4 * o.words

abbrev sizes : List ℕ
sizes = map bytes operations

is_most : ℕ → ℕ → Bool
is_most k n = leb n 24

pub returns-then-operation-gt12 : goal.returns-then-operation-gt12
unfolding size_of
returns-then-operation-gt12 c =
    let n = c.args.operation in
    record { answer = sym (ap bytes (get_or-eq_default operations unknown {n = n} (omega arith))); bound = omega arith }

pub returns : goal.returns
unfolding size_of is_most
returns c =
    let n = c.args.operation in
    record { answer = get_or-map bytes operations n unknown; bound = leb→le (get_or sizes n 0) 24 (entry is_most sizes tt n (omega arith)) }
