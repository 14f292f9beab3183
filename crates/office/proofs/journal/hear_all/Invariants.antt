-- `hear_all`: each turn adds one line at most, and no more bytes than the buffer has.
use Rattle.std.proofs.Common.{◌+◌, ◌*◌, ◌≤◌}
use Rattle.office.proofs.journal.hear_all.Given as goal

abbrev pub invariant-loop : goal.invariant-loop
invariant-loop g l = (l.ran.lines ≤ l.counter) × (l.ran.bytes ≤ 65536 * l.counter) × (l.counter ≤ 1099511627776)
