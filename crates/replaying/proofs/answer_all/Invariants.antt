-- `answer_all` leaves the worksheet that a run of the calls read so far leaves: each call adds
-- itself to the run, and has at most 28 bytes, so that `at` stays small.
use Rattle.std.proofs.Common.{◌≡◌, ◌+◌, ◌*◌, ◌≤◌, List}
use Rattle.worksheet.specs.declared.desks.Worksheet.{Worksheet}
use Rattle.worksheet.specs.Showing.{Source, lent_as}
use Rattle.worksheet.specs.Journal.{Call, run}
use Rattle.replaying.proofs.answer_all.Given as goal

-- v is what some calls on w leave
abbrev pub LeftBy : Source → Worksheet → Worksheet → Type 0
LeftBy source w v = (cs : List Call) × (v ≡ (run source cs w).sheet)

abbrev pub invariant-loop-turn : goal.invariant-loop-turn
invariant-loop-turn l = (l.at ≤ 4294967296 + 28 * l._turn) × LeftBy (lent_as l.lent l.a l.b) l.initial.w l.w
