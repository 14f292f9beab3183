-- How answers cross to another language: numbers and places. Assumes nothing.
use Rattle.std.specs.Prelude.{Err, Ok, Result, ℕ}
use Rattle.base.specs.declared.refusal.Refusal.{Refusal}
use Rattle.base.specs.Refusal.{report_of, verdict_report, written_over, Verdict}
use Rattle.base.specs.MonthFile.{Part, empty_part}
use Rattle.jutetrowel.specs.declared.answers.Answer.{Answer}
use Rattle.jutetrowel.specs.declared.answers.Showing.{Showing}
use Rattle.base.specs.declared.tables.Place.{Place}
use Rattle.jutetrowel.specs.declared.answers.Span.{Span}

-- a refusal's number and place; 'it gives 0 and 0 exactly when nothing is refused'
unfoldable pub answer_of : Verdict → Answer
answer_of v = record { number = (verdict_report v).0; place = (verdict_report v).1 }

-- 'The answer is the number of points', or a refusal's number and place
unfoldable pub showing_of : Result ℕ Refusal → Showing
showing_of (Ok count) = record { points = count; number = 0; place = 0 }
showing_of (Err why) = record { points = 0; number = (report_of why).0; place = (report_of why).1 }

-- its number and place alone
abbrev pub shown_numbers : Result ℕ Refusal → Answer
shown_numbers s = record { number = (showing_of s).number; place = (showing_of s).place }

-- a part of a lent file, with the answer of the check that it rests on
unfoldable pub span_of : Verdict → Part → Span
span_of v p = record { start = p.from; size = p.size; number = (verdict_report v).0; place = (verdict_report v).1 }

-- a part that is handed back only where nothing is refused, else 'the part handed back is empty, at
-- the start'
unfoldable pub span_unless : Verdict → Part → Span
span_unless v p = span_of v (written_over v p empty_part)

-- a place in a lent file as it crosses; refused, the empty part at the start
unfoldable pub placed : Result Place Refusal → Span
placed (Ok at) = span_of (Ok tt) (record { from = at.start; size = at.size })
placed (Err why) = span_of (Err why) empty_part
