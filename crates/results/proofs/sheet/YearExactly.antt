-- What a year file refuses, exactly: the month's record is as long as a record, so that 8 is by the
-- model's part alone; and a check that is refused hides whatever comes after it. Assumes nothing.
use Rattle.std.proofs.Common.{Err, Ok, Bool, true, false, List, ◌≡◌, refl, ap, ◌∙◌, ℕ, ◌-◌, ◌*◌, ◌≤◌, arith, T, leb, length, take, drop, length-drop, length-take-le, le-leb}
use Rattle.base.specs.declared.refusal.Refusal.TheVariants.{Month, Record, Model}
use Rattle.base.specs.Refusal.{Verdict}
use Rattle.base.specs.Refusal.{refuse_unless, ◌then◌}
use Rattle.base.specs.Ranges.{is_month, is_bit, month_check, model_check}
use Rattle.base.specs.MonthFile.{Part, record_size, month_start, month_record_check, month_part, month_file_check}
use Rattle.base.specs.Finite.{record_words_check, table_words_check}
use Rattle.base.specs.Index.{index_check}
use Rattle.base.specs.Files.{files_check}
use Rattle.base.specs.Year.{year_check, year_month, year_model, part_bytes}
use Rattle.base.proofs.verdicts.Picks.{cond_true}
use Rattle.base.proofs.layout.Records.{month_known, month_part_law}
use Rattle.worksheet.specs.Inputs.{inputs_check}
use Rattle.worksheet.specs.Showing.{year_files, year_files_check, inputs_shown, asked_check, buffer_check, drawn_check, judged_check, show_check}
use Rattle.results.specs.OneYear.{part_at, record_at, record_check, picked_check, YearFilesExactly, YearShowingExactly}
use Rattle.results.proofs.sheet.AlwaysShown.{month_and_model}
use Rattle.results.proofs.sheet.OwnParts.{month_bytes, model_bytes}

-- ---- two checks

then_assoc : (a b c : Verdict) → ((a then b) then c) ≡ (a then b then c)
then_assoc (Ok _) b c = refl
then_assoc (Err why) b c = refl

-- what comes after a check counts only where it accepts
then_where : (a : Verdict) {x y : Verdict} → (a ≡ Ok tt → x ≡ y) → (a then x) ≡ (a then y)
then_where (Ok _) f = f refl
then_where (Err why) f = refl

-- ---- the month's record

record_length : (daw : List ℕ) (m : ℕ) → month_record_check daw m ≡ Ok tt → record_size ≤ length (part_bytes daw (month_part daw m))
record_length daw m e =
    let t = month_known daw m e in
    let low = t.low in
    let room = t.room in
    let d = length-drop (month_start m) daw in
    let n = length-take-le record_size (drop (month_start m) daw) (omega arith) in
    let p = ap (λ (p : Part). length (part_bytes daw p)) (month_part_law daw m refl e) in
    omega (arith, p, n)

-- what is refused of a record that is long enough and a month file
abbrev rest_check : List ℕ → List ℕ → Verdict
rest_check f2 file = month_file_check file then record_words_check f2 1 then table_words_check file then index_check file

-- a record that is there is long enough
record_there : (daw file : List ℕ) (m : ℕ) → month_record_check daw m ≡ Ok tt →
    files_check (part_bytes daw (month_part daw m)) file ≡ rest_check (part_bytes daw (month_part daw m)) file
unfolding files_check
record_there daw file m e =
    cond_true _ _ (le-leb record_size (length (part_bytes daw (month_part daw m))) (record_length daw m e))

-- ---- a month and a model in range

module _ (s : List ℕ) (month model : ℕ) (m : is_month month ≡ true) (b : is_bit model ≡ true) where
  abbrev daw : List ℕ
  daw = part_bytes s (year_model s model)

  -- the model's part decides, where the directory is good
  record_is : year_check s ≡ Ok tt → month_record_check daw month ≡ record_check s month model
  unfolding month_record_check month_check
  record_is good =
      let whole = model_bytes s good model b in
      let room : List ℕ → Verdict = λ d. refuse_unless (leb (month * record_size) (length d)) Record in
      ap (λ (t : Bool). refuse_unless t Month then room daw) m ∙ ap room whole

  file_is : year_check s ≡ Ok tt → part_bytes s (year_month s month) ≡ part_at s (month - 1)
  file_is good = month_bytes s good month m

  record_bytes : year_check s ≡ Ok tt → month_record_check daw month ≡ Ok tt →
      part_bytes daw (month_part daw month) ≡ record_at s month model
  record_bytes good e =
      ap (part_bytes daw) (month_part_law daw month refl e)
      ∙ ap (λ (d : List ℕ). take record_size (drop (month_start month) d)) (model_bytes s good model b)

  abbrev rest : Verdict
  rest = record_check s month model then picked_check s month model

  pub files_exactly :
      let files = year_files s month model in
      (files.verdict then files_check files.f2 files.file) ≡ (year_check s then rest)
  unfolding year_files
  files_exactly =
      let there = month_record_check daw month in
      then_assoc (year_check s) there _
      ∙ then_where (year_check s) (λ good.
      then_where there (λ e. record_there daw _ month e ∙ (λ i. rest_check (record_bytes good e i) (file_is good i)))
      ∙ ap (λ (v : Verdict). v then picked_check s month model) (record_is good))

  pub in_range_exactly : year_files_check s month model ≡ (year_check s then rest)
  unfolding year_files_check month_check model_check
  in_range_exactly =
      let files = year_files s month model in
      (λ i. (refuse_unless (m i) Month then refuse_unless (b i) Model) then files.verdict then files_check files.f2 files.file)
      ∙ files_exactly

pub is_true : (b : Bool) → T b → b ≡ true
is_true true t = refl
is_true false t = absurd t

pub year_files_exactly : YearFilesExactly
year_files_exactly s month model m b =
    in_range_exactly s month model (is_true (is_month month) m) (is_true (is_bit model) b)

-- ---- a showing

pub year_showing_exactly : YearShowingExactly
unfolding show_check judged_check drawn_check
year_showing_exactly s n size w =
    let i = inputs_shown n w in
    then_assoc (asked_check n w) (inputs_check i) _
    ∙ then_where (asked_check n w) (λ asked.
    then_where (inputs_check i) (λ h.
    then_where (buffer_check size) (λ fits.
    let r = month_and_model i h in files_exactly s i.month i.model r.0 r.1)))
