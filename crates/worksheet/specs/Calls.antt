-- The calls that a program makes as demand 3's, and what a program is handed back of a step.
-- Assumes nothing.
use Rattle.std.specs.Prelude.{List, Float}
use Rattle.worksheet.specs.declared.journal.Call.{Call as ProgramCall}
use Rattle.worksheet.specs.declared.journal.Call.TheVariants.{Begin, Change, Commit, Cancel, TakeBack, Show}
use Rattle.worksheet.specs.declared.journal.Answer.{Answer as Handed}
use Rattle.worksheet.specs.declared.journal.Answer.TheVariants.{Told, Shown}
use Rattle.worksheet.specs.declared.journal.Next.{Next}
use Rattle.worksheet.specs.Journal.{Call, begin, change, commit, cancel, take_back, show, Answer, told, shown, Step}

-- a program's call, with the buffer that it lends
abbrev pub called : ProgramCall → List Float → Call
called (Begin n) lent = begin n
called (Change n e) lent = change n e
called (Commit n) lent = commit n
called (Cancel n) lent = cancel n
called TakeBack lent = take_back
called (Show n) lent = show n lent

-- an answer, as it is handed back beside the buffer
abbrev pub handed : Answer → Handed
handed (told v) = Told v
handed (shown s after) = Shown s

-- the buffer after a call that answered so; only a showing writes it
abbrev pub buffer_after : Answer → List Float → List Float
buffer_after (told v) lent = lent
buffer_after (shown s after) lent = after

unfoldable pub next_of : Step → Next
next_of s = record { answer = handed s.answer; sheet = s.sheet }
