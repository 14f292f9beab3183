-- What a line of a journal does: the sitting that it leaves, and what is said of it. Assumes nothing.
use Rattle.std.specs.Prelude.{ℕ, List, [], Err, Ok}
use Rattle.base.specs.Refusal.{Verdict}
use Rattle.worksheet.specs.declared.desks.Worksheet.{Worksheet}
use Rattle.worksheet.specs.Desks.{open_of, opened_of}
use Rattle.worksheet.specs.Showing.{Source}
use Rattle.worksheet.specs.Journal.{step}
use Rattle.worksheet.specs.Calls.{called}
use Rattle.wording.specs.declared.line.Fault.{Fault}
use Rattle.wording.specs.declared.line.Line.{Line}
use Rattle.wording.specs.declared.line.Line.TheVariants.{Blank, Open, Call, Wrong}
use Rattle.wording.specs.declared.written.WrittenCall.{WrittenCall}
use Rattle.wording.specs.declared.written.WrittenInputs.{WrittenInputs}
use Rattle.wording.specs.Line.{line_in}
use Rattle.wording.specs.Written.{inputs_written, call_written}
use Rattle.listing.specs.Turn.{blank}
use Rattle.listing.specs.Spoken.{spoken_verdict, spoken_text, inputs_asked}
use Rattle.listing.specs.Fault.{fault_text, again_text, unopened_text}
use Rattle.sitting.specs.declared.Sitting.{Sitting}
use Rattle.sitting.specs.declared.Sitting.TheVariants as stage

-- the sitting after a line, and what is said of the line
pub record Hearing : Type 0 where
  pub sitting : Sitting
  pub text : List ℕ

-- before the first line: the worksheet is that of no words at all, and nothing is made on it
unfoldable pub first_sitting : Sitting
first_sitting = stage.Waiting (opened_of []).sheet

-- ---- a line that ends the journal: it is no call, or the open is refused

-- the worksheet stays
abbrev pub ended_by : Sitting → Sitting
ended_by (stage.Waiting w) = stage.Ended w
ended_by (stage.Open w) = stage.Ended w
ended_by (stage.Ended w) = stage.Ended w

abbrev pub ended_with : Sitting → List ℕ → Hearing
ended_with s text = record { sitting = ended_by s; text = text }

-- 'a refused one gives no worksheet'
abbrev pub sitting_after : Verdict → Worksheet → Sitting
sitting_after (Ok _) w = stage.Open w
sitting_after (Err why) w = stage.Ended w

abbrev pub opened_by : ℕ → WrittenInputs → Hearing
opened_by n o =
    let done = open_of (inputs_written o) in
    record { sitting = sitting_after done.answer done.sheet; text = spoken_verdict n done.answer }

-- ---- by the sitting, at line n; once the journal has ended, nothing is said

-- a journal has one open, its first call
abbrev pub hear_open : ℕ → WrittenInputs → Sitting → Hearing
hear_open n o (stage.Waiting w) = opened_by n o
hear_open n o (stage.Open w) = ended_with (stage.Open w) (again_text n)
hear_open n o (stage.Ended w) = ended_with (stage.Ended w) []

-- a line that is no call
abbrev pub hear_wrong : ℕ → Fault → Sitting → Hearing
hear_wrong n f (stage.Waiting w) = ended_with (stage.Waiting w) (fault_text n f)
hear_wrong n f (stage.Open w) = ended_with (stage.Open w) (fault_text n f)
hear_wrong n f (stage.Ended w) = ended_with (stage.Ended w) []

module _ (source : Source) where
  -- on the worksheet that is open
  abbrev pub made_by : ℕ → WrittenCall → Worksheet → Hearing
  made_by n c w =
      let next = step source (called (call_written c) blank) w in
      record {
        sitting = stage.Open next.sheet;
        text = spoken_text n (inputs_asked (call_written c) w) next.answer;
      }

  abbrev pub hear_call : ℕ → WrittenCall → Sitting → Hearing
  hear_call n c (stage.Waiting w) = ended_with (stage.Waiting w) (unopened_text n)
  hear_call n c (stage.Open w) = made_by n c w
  hear_call n c (stage.Ended w) = ended_with (stage.Ended w) []

  abbrev pub hear_line : ℕ → Sitting → Line → Hearing
  hear_line n s Blank = record { sitting = s; text = [] }
  hear_line n s (Open o) = hear_open n o s
  hear_line n s (Call c) = hear_call n c s
  hear_line n s (Wrong f) = hear_wrong n f s

  -- THE HEARING of line n of a journal
  unfoldable pub hearing : ℕ → Sitting → List ℕ → Hearing
  hearing n s line = hear_line n s (line_in line)
