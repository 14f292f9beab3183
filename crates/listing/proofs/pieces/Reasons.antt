-- Reasons in words: how long each text is at most. Assumes nothing.
use Rattle.std.proofs.Common.{Err, Ok, Bool, true, false, cond, map, ℕ, ◌≤◌, ◌<◌, arith, eqb, length, length-append}
use Rattle.base.specs.declared.refusal.Refusal.{Refusal}
use Rattle.base.specs.declared.refusal.Refusal.TheVariants.{Month, Sunspot, Hour, Latitude, Longitude, Factor, Flag, Model, Record, Ended, Marker, RecordWord, MonthWord, Index, Figures, Table, Desk, Drafted, NoDraft, Stale, NothingEarlier, Year}
use Rattle.base.specs.Refusal.{Verdict}
use Rattle.base.specs.Refusal.{report_of}
use Rattle.wording.specs.Token.{ascii}
use Rattle.listing.specs.Reason.{reason_of, refused_words}
use Rattle.listing.specs.Answer.{refusal_text}
use Rattle.listing.specs.Survey.{model_name, found_text}
use Rattle.listing.proofs.digits.Places.{at_most_10, at_most_20}

-- ---- how long

-- of a refusal: its reason has at most 49 letters, and its number is below 24
record Short (why : Refusal) : Type 0 where
  words : length (ascii (reason_of why)) ≤ 49
  number : (report_of why).0 < 24

short : (why : Refusal) → Short why
short Month = record { words = omega arith; number = omega arith }
short Sunspot = record { words = omega arith; number = omega arith }
short Hour = record { words = omega arith; number = omega arith }
short (Latitude field) = record { words = omega arith; number = omega arith }
short (Longitude field) = record { words = omega arith; number = omega arith }
short (Factor field) = record { words = omega arith; number = omega arith }
short Flag = record { words = omega arith; number = omega arith }
short Model = record { words = omega arith; number = omega arith }
short Record = record { words = omega arith; number = omega arith }
short (Ended at) = record { words = omega arith; number = omega arith }
short (Marker at) = record { words = omega arith; number = omega arith }
short (RecordWord at) = record { words = omega arith; number = omega arith }
short (MonthWord at) = record { words = omega arith; number = omega arith }
short (Index map) = record { words = omega arith; number = omega arith }
short Figures = record { words = omega arith; number = omega arith }
short Table = record { words = omega arith; number = omega arith }
short Desk = record { words = omega arith; number = omega arith }
short Drafted = record { words = omega arith; number = omega arith }
short NoDraft = record { words = omega arith; number = omega arith }
short Stale = record { words = omega arith; number = omega arith }
short NothingEarlier = record { words = omega arith; number = omega arith }
short (Year pair) = record { words = omega arith; number = omega arith }

pub length_reason : (why : Refusal) → length (ascii (reason_of why)) ≤ 49
length_reason why = (short why).words

-- the line of a refusal, with its number and its place
pub length_refusal : (why : Refusal) → length (refusal_text why) ≤ 50
unfolding refusal_text
length_refusal why =
    let a = at_most_20 (report_of why).0 in
    let b = at_most_20 (report_of why).1 in
    simp length-append (omega arith)

-- a number has at most ten digits, a place twenty
pub length_refused : (why : Refusal) → length (refused_words why) ≤ 94
unfolding refused_words
length_refused why =
    let n = (short why).number in
    let a = at_most_10 (report_of why).0 (omega arith) in
    let b = at_most_20 (report_of why).1 in
    let d = length_reason why in
    simp length-append (omega (arith, a, b, d))

pub length_found : (v : Verdict) → length (found_text v) ≤ 94
length_found (Ok _) = omega arith
length_found (Err why) = length_refused why

name_most : (ccir ursi : Bool) → length (ascii (cond ccir "CCIR" (cond ursi "URSI" "no model"))) ≤ 8
name_most true ursi = omega arith
name_most false true = omega arith
name_most false false = omega arith

pub length_model : (model : ℕ) → length (ascii (model_name model)) ≤ 8
length_model model = name_most (eqb model 0) (eqb model 1)
