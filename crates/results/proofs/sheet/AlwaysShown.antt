-- On a worksheet that opens, the inputs, the earlier set and every draft stay in range, whatever
-- the calls: a change is judged before it is made, and nothing else makes new numbers. So over
-- files that pass their checks, a pair or a year's, every showing of the worksheet in a buffer of 151
-- numbers is accepted. Assumes nothing.
use Rattle.std.proofs.Common.{Err, Ok, List, [], ◌∷◌, true, ◌≡◌, ap, ℕ, length, Float}
use Rattle.base.specs.declared.refusal.Refusal.{Refusal}
use Rattle.base.specs.declared.refusal.Refusal.TheVariants.{Month, Model}
use Rattle.base.specs.Refusal.{Verdict}
use Rattle.base.specs.Refusal.{◌then◌, written_over}
use Rattle.base.specs.Ranges.{is_month, is_bit, month_check, hour_check, model_check}
use Rattle.base.specs.Files.{files_check}
use Rattle.base.proofs.verdicts.Refusals.{then_both, passed}
use Rattle.maps.specs.declared.inputs.Inputs.{Inputs}
use Rattle.maps.specs.Figures.{sheet_path, figures_of, points_or}
use Rattle.worksheet.specs.declared.inputs.Edit.{Edit}
use Rattle.worksheet.specs.declared.inputs.Edit.TheVariants.{Sunspot, Hour, Path, Psc, Pole, Month as Monthly, Model as Modelled}
use Rattle.worksheet.specs.declared.desks.Worksheet.{Worksheet}
use Rattle.worksheet.specs.Inputs.{sunspot_check, route_check, factors_check, pole_check, inputs_check, edit_check, edited}
use Rattle.worksheet.specs.Desks.{fresh_sheet, open_of, SheetHas}
use Rattle.worksheet.specs.Showing.{Files, Source, pair, year_files_check, yearly, inputs_shown, asked_check, buffer_check, drawn_check, judged_check, show_check, show_of, show_buffer}
use Rattle.worksheet.specs.Journal.{Call, show, shown, step, run}
use Rattle.worksheet.proofs.drafts.Keeps.{step_keeps}

-- ---- inputs in range, and a change of them that is judged

abbrev pub InRange : Inputs → Type 0
InRange i = inputs_check i ≡ Ok tt

record Ranges (i : Inputs) : Type 0 where
  month : month_check i.month ≡ Ok tt
  ssn : sunspot_check i.ssn ≡ Ok tt
  gmt : hour_check i.gmt ≡ Ok tt
  route : route_check i.route ≡ Ok tt
  psc : factors_check i.psc ≡ Ok tt
  pole : pole_check i.pole ≡ Ok tt
  model : model_check i.model ≡ Ok tt

each : (i : Inputs) → InRange i → Ranges i
unfolding inputs_check
each i h =
    let a = then_both (month_check i.month) _ h in
    let b = then_both (sunspot_check i.ssn) _ a.1 in
    let c = then_both (hour_check i.gmt) _ b.1 in
    let d = then_both (route_check i.route) _ c.1 in
    let e = then_both (factors_check i.psc) _ d.1 in
    let f = then_both (pole_check i.pole) _ e.1 in
    record { month = a.0; ssn = b.0; gmt = c.0; route = d.0; psc = e.0; pole = f.0; model = f.1 }

all : (i : Inputs) → Ranges i → InRange i
unfolding inputs_check
all i r = λ t. r.month t then r.ssn t then r.gmt t then r.route t then r.psc t then r.pole t then r.model t

module _ (x : Inputs) (h : InRange x) where
  edited_range : (e : Edit) → edit_check e ≡ Ok tt → InRange (edited e x)
  unfolding edited edit_check
  edited_range (Sunspot s) k =
      let r = each x h in
      all _ (record { month = r.month; ssn = k; gmt = r.gmt; route = r.route; psc = r.psc; pole = r.pole; model = r.model })
  edited_range (Hour s) k =
      let r = each x h in
      all _ (record { month = r.month; ssn = r.ssn; gmt = k; route = r.route; psc = r.psc; pole = r.pole; model = r.model })
  edited_range (Path s) k =
      let r = each x h in
      all _ (record { month = r.month; ssn = r.ssn; gmt = r.gmt; route = k; psc = r.psc; pole = r.pole; model = r.model })
  edited_range (Psc s) k =
      let r = each x h in
      all _ (record { month = r.month; ssn = r.ssn; gmt = r.gmt; route = r.route; psc = k; pole = r.pole; model = r.model })
  edited_range (Pole s) k =
      let r = each x h in
      all _ (record { month = r.month; ssn = r.ssn; gmt = r.gmt; route = r.route; psc = r.psc; pole = k; model = r.model })
  edited_range (Monthly s) k =
      let r = each x h in
      all _ (record { month = k; ssn = r.ssn; gmt = r.gmt; route = r.route; psc = r.psc; pole = r.pole; model = r.model })
  edited_range (Modelled s) k =
      let r = each x h in
      all _ (record { month = r.month; ssn = r.ssn; gmt = r.gmt; route = r.route; psc = r.psc; pole = r.pole; model = k })

-- the month is one, and the model is one
pub month_and_model : (i : Inputs) → InRange i → (is_month i.month ≡ true) × (is_bit i.model ≡ true)
unfolding month_check model_check
month_and_model i h =
    let r = each i h in
    (passed (is_month i.month) Month r.month, passed (is_bit i.model) Model r.model)

-- ---- every call keeps a worksheet in range

abbrev SheetInRange : Worksheet → Type 0
SheetInRange = SheetHas InRange

module _ (source : Source) where
  run_range : (cs : List Call) (w : Worksheet) → SheetInRange w → SheetInRange (run source cs w).sheet
  unfolding run
  run_range [] w h = h
  run_range (c ∷ cs) w h =
      run_range cs (step source c w).sheet
      (step_keeps InRange source c w (λ n e same a i k. edited_range i k e a) h)

  open_range : (i : Inputs) → (open_of i).answer ≡ Ok tt → SheetInRange (open_of i).sheet
  unfolding open_of fresh_sheet
  open_range i h = record { inputs = h; earlier = tt; d1 = tt; d2 = tt; d3 = tt; d4 = tt }

  -- the inputs of a worksheet that opens stay in range
  pub stay_in_range : (i : Inputs) → (open_of i).answer ≡ Ok tt → (cs : List Call) →
      inputs_check (run source cs (open_of i).sheet).sheet.inputs ≡ Ok tt
  stay_in_range i h cs = (run_range cs (open_of i).sheet (open_range i h)).inputs

-- ---- so it is shown

fits : (lent : List Float) → length lent ≡ 151 → buffer_check (length lent) ≡ Ok tt
unfolding buffer_check
fits lent h = ap buffer_check h

-- what the files of some inputs are found to be
abbrev verdict_on : Files → Verdict
verdict_on files = files.verdict then files_check files.f2 files.file

-- a worksheet with inputs in range is answered by that
answered_sheet : (source : Source) (w : Worksheet) → inputs_check w.inputs ≡ Ok tt →
    (v : Verdict) → verdict_on (source w.inputs) ≡ v → (lent : List Float) → length lent ≡ 151 →
    let files = source w.inputs in
    (step source (show 0 lent) w).answer
    ≡ shown (points_or v (sheet_path w.inputs).count) (written_over v (figures_of files.f2 files.file w.inputs) lent)
unfolding step show_of show_buffer show_check judged_check asked_check inputs_shown drawn_check
answered_sheet source w h v found lent l =
    let i = w.inputs in
    let f = source i in
    let b = fits lent l in
    let e : (inputs_check i then buffer_check (length lent) then f.verdict then files_check f.f2 f.file) ≡ v =
    λ t. h t then b t then found t in
    ap (λ (v : Verdict). shown (points_or v (sheet_path i).count) (written_over v (figures_of f.f2 f.file i) lent)) e

module _ (f2 file : List ℕ) (good : files_check f2 file ≡ Ok tt) where
  pub always_shown : (i : Inputs) → (open_of i).answer ≡ Ok tt → (cs : List Call) →
      (lent : List Float) → length lent ≡ 151 →
      let w = (run (pair f2 file) cs (open_of i).sheet).sheet in
      (step (pair f2 file) (show 0 lent) w).answer
      ≡ shown (Ok (sheet_path w.inputs).count) (figures_of f2 file w.inputs)
  always_shown i h cs = answered_sheet (pair f2 file) _ (stay_in_range (pair f2 file) i h cs) (Ok tt) good

  -- the list of no calls
  pub first_showing : (i : Inputs) → (open_of i).answer ≡ Ok tt → (lent : List Float) → length lent ≡ 151 →
      (step (pair f2 file) (show 0 lent) (open_of i).sheet).answer
      ≡ shown (Ok (sheet_path i).count) (figures_of f2 file i)
  unfolding open_of fresh_sheet
  first_showing i h = answered_sheet (pair f2 file) (open_of i).sheet h (Ok tt) good

-- over files that do not pass them it is refused by what they are refused by, and the buffer stays
pub first_refused : (f2 file : List ℕ) (why : Refusal) → files_check f2 file ≡ Err why →
    (i : Inputs) → (open_of i).answer ≡ Ok tt → (lent : List Float) → length lent ≡ 151 →
    (step (pair f2 file) (show 0 lent) (open_of i).sheet).answer ≡ shown (Err why) lent
unfolding open_of fresh_sheet
first_refused f2 file why bad i h = answered_sheet (pair f2 file) (open_of i).sheet h (Err why) bad

-- over a year file that refuses nothing of the month and model that the inputs have then
pub year_shown : (s : List ℕ) (i : Inputs) → (open_of i).answer ≡ Ok tt → (cs : List Call) (lent : List Float) → length lent ≡ 151 →
    let w = (run (yearly s) cs (open_of i).sheet).sheet in
    let files = yearly s w.inputs in
    year_files_check s w.inputs.month w.inputs.model ≡ Ok tt →
    (step (yearly s) (show 0 lent) w).answer
    ≡ shown (Ok (sheet_path w.inputs).count) (figures_of files.f2 files.file w.inputs)
unfolding year_files_check
year_shown s i h cs lent l good =
    let w = (run (yearly s) cs (open_of i).sheet).sheet in
    let month = w.inputs.month in
    let model = w.inputs.model in
    let both = then_both (month_check month then model_check model) _ good in
    answered_sheet (yearly s) w (stay_in_range (yearly s) i h cs) (Ok tt) both.1 lent l
