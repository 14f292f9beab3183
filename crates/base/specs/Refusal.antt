-- The refusals of documents 01 and 02: the number and the place of each case. Assumes nothing.
use Rattle.std.specs.Prelude.{ℕ, Bool, true, false, cond, Result, Ok, Err}
use Rattle.base.specs.declared.refusal.Refusal.{Refusal}
use Rattle.base.specs.declared.refusal.Refusal.TheVariants.{Month, Sunspot, Hour, Latitude, Longitude, Factor, Flag, Record, Ended, Marker, RecordWord, MonthWord, Index, Figures, Table, Desk, Drafted, NoDraft, Stale, NothingEarlier, Model, Year}
use Rattle.base.specs.declared.refusal.Report.{Report}

-- the answer of a check: nothing more to say, or why it refuses
abbrev pub Verdict : Type 0
Verdict = Result (Unit {0}) Refusal

abbrev pub pair_of : Report → ℕ × ℕ
pair_of x = (x.0, x.1)

-- number and place. 'Refusals 9, 10 and 11 carry the place given below, those of input fields the
-- field's number, all others place 0'
abbrev pub report_of : Refusal → ℕ × ℕ
report_of Month = (1, 1)
report_of Sunspot = (2, 2)
report_of Hour = (3, 3)
report_of (Latitude field) = (4, field)
report_of (Longitude field) = (5, field)
report_of (Factor field) = (6, field)
report_of Flag = (7, 8)
report_of Record = (8, 0)
report_of (Ended at) = (9, at)
report_of (Marker at) = (10, at)
report_of (Index map) = (11, map)
report_of Figures = (12, 0)
report_of Table = (13, 0)
report_of Desk = (14, 0)
report_of Drafted = (15, 0)
report_of NoDraft = (16, 0)
report_of Stale = (17, 0)
report_of NothingEarlier = (18, 0)
-- document 02, request 10: '23, place the first such word's byte within record or month file'
report_of (RecordWord at) = (23, at)
report_of (MonthWord at) = (23, at)
-- document 02, request 01: 'the model being field 15 ..; a wrong model word is refusal 7'; '19, ..
-- place the lowest such pair'
report_of Model = (7, 15)
report_of (Year pair) = (19, pair)

-- what goes by a check's answer: the value where nothing is refused, else what the refusal gives
abbrev pub unless_refused : {A : Type 0} → Verdict → A → (Refusal → A) → A
unless_refused (Ok _) x other = x
unless_refused (Err why) x other = other why

-- number and place of a check's answer: 'it gives 0 and 0 exactly when nothing is refused'
abbrev pub verdict_report : Verdict → ℕ × ℕ
verdict_report v = unless_refused v (0, 0) report_of

abbrev pub is_accepted : Verdict → Bool
is_accepted v = unless_refused v true (λ why. false)

abbrev pub refuse_unless : Bool → Refusal → Verdict
refuse_unless good why = cond good (Ok tt) (Err why)

-- the second check, where the first one accepts: the first refusal decides
infixr 30 ◌then◌
abbrev pub ◌then◌ : Verdict → Verdict → Verdict
(Ok _) then next = next
Err why then next = Err why

-- the value where nothing is refused, else what was there
abbrev pub written_over : {A : Type 0} → Verdict → A → A → A
written_over v new old = unless_refused v new (λ why. old)
