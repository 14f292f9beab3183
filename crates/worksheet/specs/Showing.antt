-- Document 01, Show, with request 01: its answer and the buffer afterwards, over whatever source of
-- files is lent. Assumes nothing.
use Rattle.base.specs.declared.refusal.Refusal.{Refusal}
use Rattle.std.specs.Prelude.{ℕ, cond, List, eqb, length, Float, Ok, Result}
use Rattle.base.specs.declared.refusal.Refusal.TheVariants.{Figures}
use Rattle.base.specs.Refusal.{Verdict}
use Rattle.base.specs.Refusal.{refuse_unless, ◌then◌, written_over}
use Rattle.maps.specs.declared.inputs.Inputs.{Inputs}
use Rattle.base.specs.Files.{files_check}
use Rattle.base.specs.MonthFile.{month_record_check, month_part}
use Rattle.base.specs.Ranges.{month_check, model_check}
use Rattle.base.specs.Year.{part_bytes, year_check, year_month, year_model}
use Rattle.maps.specs.Figures.{sheet_path, figures_of, points_or}
use Rattle.worksheet.specs.declared.desks.Worksheet.{Worksheet}
use Rattle.worksheet.specs.declared.showing.Lent.{Lent}
use Rattle.worksheet.specs.declared.showing.Lent.TheVariants.{Pair, Year}
use Rattle.worksheet.specs.Inputs.{inputs_check}
use Rattle.worksheet.specs.Desks.{draft_at, inputs_of, desk_check, draft_check}

-- ---- what is lent

-- the F2 record and the month file that inputs are shown from, with what is refused before the two
-- are looked into
pub record Files : Type 0 where
  pub verdict : Verdict
  pub f2 : List ℕ
  pub file : List ℕ

-- a source of files: which ones the inputs shown are shown from
abbrev pub Source : Type 0
Source = Inputs → Files

-- 'one F2 record and one month file throughout': the same two for all inputs
abbrev pub pair : List ℕ → List ℕ → Source
pair f2 file i = record { verdict = Ok tt; f2 = f2; file = file }

-- 'Showing picks its parts by these two', month and model: the month's record of the model's part,
-- and the month's own part. '19 .. after 12 and before 8'; '8 is given when the chosen model's part
-- has under month × 7,904 bytes'
unfoldable pub year_files : List ℕ → ℕ → ℕ → Files
year_files s month model =
    let daw = part_bytes s (year_model s model) in
    record {
      verdict = year_check s then month_record_check daw month;
      f2 = part_bytes daw (month_part daw month);
      file = part_bytes s (year_month s month);
    }

-- what a showing of this month and model is refused by, where its desk, its other fields and its
-- buffer pass
unfoldable pub year_files_check : List ℕ → ℕ → ℕ → Verdict
year_files_check s month model =
    let files = year_files s month model in
    (month_check month then model_check model) then files.verdict then files_check files.f2 files.file

-- 'with the year file lent throughout': the parts of the inputs' own month and model
abbrev pub yearly : List ℕ → Source
yearly s i = year_files s i.month i.model

-- what a program lends to its calls: an F2 record and a month file, or a year file, beside which the
-- second list is not looked at
abbrev pub lent_as : Lent → List ℕ → List ℕ → Source
lent_as Pair a b = pair a b
lent_as Year a b = yearly a

-- ---- what is refused

-- 'takes desk 1 to 4, or 0 for the worksheet'; 'A stale draft is shown all the same'
unfoldable pub inputs_shown : ℕ → Worksheet → Inputs
inputs_shown n w = cond (eqb n 0) w.inputs (inputs_of (draft_at n w) w.inputs)

-- '14 (desk not 0 to 4), 16 (never for 0)'
unfoldable pub asked_check : ℕ → Worksheet → Verdict
asked_check n w = cond (eqb n 0) (Ok tt) (desk_check n then draft_check (draft_at n w))

-- '12 (figures buffer not 151 f32)'
unfoldable pub buffer_check : ℕ → Verdict
buffer_check size = refuse_unless (eqb size 151) Figures

-- the figures' part of a showing: '12 .., 8 .., 9, 10, 11', with what the source refuses after 12,
-- and 23 'after 10 and before 11'
unfoldable pub drawn_check : Files → ℕ → Verdict
drawn_check s size = buffer_check size then s.verdict then files_check s.f2 s.file

-- ---- the figures of inputs in a lent buffer

-- 'The answer is the number of points'
unfoldable pub drawn_of : Files → Inputs → List Float → Result ℕ Refusal
drawn_of s i lent = points_or (drawn_check s (length lent)) (sheet_path i).count

-- 'with the figures in the buffer'; refused, it is as it was lent
unfoldable pub drawn_buffer : Files → Inputs → List Float → List Float
drawn_buffer s i lent = written_over (drawn_check s (length lent)) (figures_of s.f2 s.file i) lent

-- ---- Show

-- '14 .., 16 .., the 14 fields of the inputs shown', and field 15
unfoldable pub judged_check : ℕ → Worksheet → Verdict
judged_check n w = asked_check n w then inputs_check (inputs_shown n w)

module _ (source : Source) where
  -- 'It refuses 14 .., 16 .., the 14 fields of the inputs shown, 12 .., 8 .., 9, 10, 11', what the
  -- source refuses after 12, and 23 before 11
  unfoldable pub show_check : ℕ → ℕ → Worksheet → Verdict
  show_check n size w = judged_check n w then drawn_check (source (inputs_shown n w)) size

  unfoldable pub show_of : ℕ → List Float → Worksheet → Result ℕ Refusal
  show_of n lent w = points_or (show_check n (length lent) w) (sheet_path (inputs_shown n w)).count

  unfoldable pub show_buffer : ℕ → List Float → Worksheet → List Float
  show_buffer n lent w =
      let i = inputs_shown n w in
      let s = source i in
      written_over (show_check n (length lent) w) (figures_of s.f2 s.file i) lent
