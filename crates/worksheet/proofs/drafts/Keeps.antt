-- Every call keeps a property that all sets of inputs of a worksheet have (its inputs, its earlier
-- set and its drafts), if the call's change keeps it: a set of inputs is only copied, moved or
-- dropped, except by an accepted change. Assumes nothing.
use Rattle.std.proofs.Common.{Err, None, Ok, Option, Some, ℕ, Bool, true, false, cond, ◌≡◌, refl, eqb}
use Rattle.base.specs.Refusal.{Verdict}
use Rattle.base.specs.Refusal.{◌then◌}
use Rattle.base.proofs.verdicts.Refusals.{then_both}
use Rattle.maps.specs.declared.inputs.Inputs.{Inputs}
use Rattle.worksheet.specs.declared.inputs.Edit.{Edit}
use Rattle.worksheet.specs.declared.desks.Draft.{Draft}
use Rattle.worksheet.specs.declared.desks.Draft.TheVariants.{Closed, Fresh, Stale}
use Rattle.worksheet.specs.declared.desks.Worksheet.{Worksheet}
use Rattle.worksheet.specs.Inputs.{edit_check, edited}
use Rattle.worksheet.specs.Desks.{draft_at, with_draft, inputs_of, stale_of, moved_to, outcome, desk_check, draft_check, edited_draft, set_of, begin_check, begin_of, change_check, change_of, commit_check, commit_of, cancel_check, cancel_of, earlier_check, take_back_of, EarlierHas, DraftHas, SheetHas}
use Rattle.worksheet.specs.Showing.{Source}
use Rattle.worksheet.specs.Journal.{Call, begin, commit, cancel, change, take_back, show, step}

module _ (P : Inputs → Type 0) where
  -- an accepted change e keeps the property
  abbrev pub EditKeeps : Edit → Type 0
  EditKeeps e = edit_check e ≡ Ok tt → (i : Inputs) → P i → P (edited e i)

  -- ---- drafts read, put, turned stale and changed

  either : (b : Bool) (d o : Draft) → DraftHas P d → DraftHas P o → DraftHas P (cond b d o)
  either true d o h k = h
  either false d o h k = k

  at_has : (n : ℕ) (w : Worksheet) → SheetHas P w → DraftHas P (draft_at n w)
  unfolding draft_at
  at_has n w h =
      either (eqb n 1) w.d1 _ h.d1
      (either (eqb n 2) w.d2 _ h.d2
      (either (eqb n 3) w.d3 _ h.d3 (either (eqb n 4) w.d4 Closed h.d4 tt)))

  with_has : (n : ℕ) (d : Draft) (w : Worksheet) → DraftHas P d → SheetHas P w → SheetHas P (with_draft n d w)
  unfolding with_draft
  with_has n d w k h =
      record {
        inputs = h.inputs;
        earlier = h.earlier;
        d1 = either (eqb n 1) d w.d1 k h.d1;
        d2 = either (eqb n 2) d w.d2 k h.d2;
        d3 = either (eqb n 3) d w.d3 k h.d3;
        d4 = either (eqb n 4) d w.d4 k h.d4;
      }

  of_has : (d : Draft) (i : Inputs) → DraftHas P d → P i → P (inputs_of d i)
  unfolding inputs_of
  of_has Closed i k h = h
  of_has (Fresh x) i k h = k
  of_has (Stale x) i k h = k

  set_has : (e : Option Inputs) (i : Inputs) → EarlierHas P e → P i → P (set_of e i)
  unfolding set_of
  set_has None i k h = h
  set_has (Some x) i k h = k

  stale_has : (d : Draft) → DraftHas P d → DraftHas P (stale_of d)
  unfolding stale_of
  stale_has Closed k = tt
  stale_has (Fresh x) k = k
  stale_has (Stale x) k = k

  draft_has : (e : Edit) (d : Draft) → ((i : Inputs) → P i → P (edited e i)) → DraftHas P d →
      DraftHas P (edited_draft e d)
  unfolding edited_draft
  draft_has e Closed h k = tt
  draft_has e (Fresh x) h k = h x k
  draft_has e (Stale x) h k = h x k

  moved_has : (i : Inputs) (e : Option Inputs) (w : Worksheet) → P i → EarlierHas P e → SheetHas P w →
      SheetHas P (moved_to i e w)
  unfolding moved_to
  moved_has i e w hi he h =
      record {
        inputs = hi;
        earlier = he;
        d1 = stale_has w.d1 h.d1;
        d2 = stale_has w.d2 h.d2;
        d3 = stale_has w.d3 h.d3;
        d4 = stale_has w.d4 h.d4;
      }

  -- ---- every call keeps it

  outcome_has : (v : Verdict) (after w : Worksheet) → (v ≡ Ok tt → SheetHas P after) → SheetHas P w →
      SheetHas P (outcome v after w).sheet
  unfolding outcome
  outcome_has (Ok _) after w h k = h refl
  outcome_has (Err why) after w h k = k

  pub step_keeps : (source : Source) (c : Call) (w : Worksheet) →
      ((n : ℕ) (e : Edit) → c ≡ change n e → EditKeeps e) → SheetHas P w → SheetHas P (step source c w).sheet
  unfolding step begin_of change_of change_check commit_of cancel_of take_back_of
  step_keeps source (begin n) w keeps h =
      outcome_has (begin_check n w) _ w (λ a. with_has n (Fresh w.inputs) w h.inputs h) h
  step_keeps source (change n e) w keeps h =
      let d = edited_draft e (draft_at n w) in
      outcome_has (change_check n e w) (with_draft n d w) w
      (λ a.
      let b = then_both (desk_check n) (draft_check (draft_at n w) then edit_check e) a in
      let c = then_both (draft_check (draft_at n w)) (edit_check e) b.1 in
      with_has n d w (draft_has e (draft_at n w) (keeps n e refl c.1) (at_has n w h)) h)
      h
  step_keeps source (commit n) w keeps h =
      let i = inputs_of (draft_at n w) w.inputs in
      let m = moved_to i (Some w.inputs) w in
      let k = of_has (draft_at n w) w.inputs (at_has n w h) h.inputs in
      outcome_has (commit_check n w) (with_draft n Closed m) w
      (λ a. with_has n Closed m tt (moved_has i (Some w.inputs) w k h.inputs h)) h
  step_keeps source (cancel n) w keeps h = outcome_has (cancel_check n w) _ w (λ a. with_has n Closed w tt h) h
  step_keeps source take_back w keeps h =
      let i = set_of w.earlier w.inputs in
      outcome_has (earlier_check w.earlier) (moved_to i None w) w
      (λ a. moved_has i None w (set_has w.earlier w.inputs h.earlier h.inputs) tt h) h
  step_keeps source (show n lent) w keeps h = h
