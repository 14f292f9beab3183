-- `walk_lines`: each of the lines so far has a newline, so that they are no more than the bytes that
-- are not left.
use Rattle.std.proofs.Common.{◌+◌, ◌≤◌, length}
use Rattle.office.proofs.audit.walk_lines.Given as goal

abbrev pub invariant-loop-lines : goal.invariant-loop-lines
invariant-loop-lines l = l.lines + length l.rest ≤ length l.text
