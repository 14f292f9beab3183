-- What an accepted call found and left, and what it needs to be accepted: the rules of the desks,
-- each opened once. Assumes nothing.
use Rattle.std.proofs.Common.{Err, None, Ok, Option, Some, ℕ, Bool, true, false, ◌&&◌, true≢false, ◌≡◌, refl, ap, ◌∙◌, leb, leb-true}
use mathlib.Core.Bool.{false≢true}
use Rattle.base.specs.declared.refusal.Refusal.TheVariants.{Desk}
use Rattle.base.specs.Refusal.{Verdict}
use Rattle.base.proofs.verdicts.Refusals.{refused_not_accepted, then_both, passed}
use Rattle.maps.specs.declared.inputs.Inputs.{Inputs}
use Rattle.worksheet.specs.declared.inputs.Edit.{Edit}
use Rattle.worksheet.specs.declared.desks.Draft.{Draft}
use Rattle.worksheet.specs.declared.desks.Draft.TheVariants.{Closed, Fresh, Stale}
use Rattle.worksheet.specs.declared.desks.Outcome.{Outcome}
use Rattle.worksheet.specs.declared.desks.Worksheet.{Worksheet}
use Rattle.base.specs.Refusal.{◌then◌}
use Rattle.worksheet.specs.Inputs.{edit_check, edited}
use Rattle.worksheet.specs.Desks.{draft_at, with_draft, inputs_of, moved_to, outcome, is_desk, desk_check, closed_check, draft_check, fresh_check, earlier_check, begin_check, begin_of, change_check, edited_draft, change_of, commit_check, commit_of, cancel_check, cancel_of, set_of, take_back_of}
use Rattle.worksheet.specs.Showing.{Source}
use Rattle.worksheet.specs.Journal.{Call, begin, commit, cancel, change, take_back, show, told, accepted, Step, step_of, step}
use Rattle.worksheet.proofs.drafts.Drafts.{FreshAt, closed_not_fresh, stale_not_fresh, desk_draft}

-- ---- verdicts and outcomes

both_then : (a b : Verdict) → a ≡ Ok tt → b ≡ Ok tt → (a then b) ≡ Ok tt
both_then a b p q = ap (λ (z : Verdict). z then b) p ∙ q

pub both_true : (a b : Bool) → (a && b) ≡ true → (a ≡ true) × (b ≡ true)
both_true true b h = (refl, h)
both_true false b h = absurd (false≢true h)

-- an accepted desk has what is put there
pub desk_put : (n : ℕ) (d : Draft) (w : Worksheet) → desk_check n ≡ Ok tt → draft_at n (with_draft n d w) ≡ d
unfolding desk_check
desk_put n d w h =
    let b = both_true (leb 1 n) (leb n 4) (passed (is_desk n) Desk h) in
    desk_draft n d w (leb-true 1 n b.0) (leb-true n 4 b.1)

abbrev accepted_as : Outcome → Bool
accepted_as o = accepted (told o.answer)

-- an accepted call's worksheet, with its answer
abbrev pub accepting : Worksheet → Step
accepting v = record { answer = told (Ok tt); sheet = v }

was_accepted : (v : Verdict) (after w : Worksheet) → accepted_as (outcome v after w) ≡ true → v ≡ Ok tt
unfolding outcome
was_accepted (Ok _) after w h = refl
was_accepted (Err why) after w h = absurd (false≢true h)

was_refused : (v : Verdict) (after w : Worksheet) → accepted_as (outcome v after w) ≡ false → (outcome v after w).sheet ≡ w
unfolding outcome
was_refused (Ok _) after w h = absurd (true≢false h)
was_refused (Err why) after w h = refl

is_accepted_law : (v : Verdict) (after w : Worksheet) → v ≡ Ok tt → step_of (outcome v after w) ≡ accepting after
unfolding outcome
is_accepted_law v after w h = ap (λ (z : Verdict). step_of (outcome z after w)) h

-- ---- the draft and the earlier set, by the checks that they passed

was_closed : (d : Draft) → closed_check d ≡ Ok tt → d ≡ Closed
unfolding closed_check
was_closed Closed h = refl
was_closed (Fresh x) h = refused_not_accepted h
was_closed (Stale x) h = refused_not_accepted h

was_fresh : (d : Draft) → draft_check d ≡ Ok tt → fresh_check d ≡ Ok tt → (x : Inputs) × (d ≡ Fresh x)
unfolding draft_check fresh_check
was_fresh Closed p q = refused_not_accepted p
was_fresh (Fresh x) p q = (x, refl)
was_fresh (Stale x) p q = refused_not_accepted q

was_set : (e : Option Inputs) → earlier_check e ≡ Ok tt → (i : Inputs) × (e ≡ Some i)
unfolding earlier_check
was_set None h = refused_not_accepted h
was_set (Some i) h = (i, refl)

-- an edited draft is fresh only if the draft was
pub edited_fresh : (e : Edit) (d : Draft) (x : Inputs) → edited_draft e d ≡ Fresh x → (y : Inputs) × (d ≡ Fresh y) × (x ≡ edited e y)
unfolding edited_draft
edited_fresh e Closed x h = absurd (closed_not_fresh refl h)
edited_fresh e (Fresh y) x h = (y, refl, (cc))
edited_fresh e (Stale y) x h = absurd (stale_not_fresh h)

module _ (source : Source) where
  -- the call c on w is accepted
  abbrev pub Accepts : Call → Worksheet → Type 0
  Accepts c w = accepted (step source c w).answer ≡ true

  -- ---- a refusal leaves the worksheet, whatever the call

  pub refused_unmoved : (c : Call) (w : Worksheet) → accepted (step source c w).answer ≡ false → (step source c w).sheet ≡ w
  unfolding step begin_of change_of commit_of cancel_of take_back_of
  refused_unmoved (begin n) w h = was_refused (begin_check n w) _ w h
  refused_unmoved (change n e) w h = was_refused (change_check n e w) _ w h
  refused_unmoved (commit n) w h = was_refused (commit_check n w) _ w h
  refused_unmoved (cancel n) w h = was_refused (cancel_check n w) _ w h
  refused_unmoved take_back w h = was_refused (earlier_check w.earlier) _ w h
  refused_unmoved (show n lent) w h = refl

  -- ---- begin

  pub record Begun (n : ℕ) (w : Worksheet) : Type 0 where
    pub desk : desk_check n ≡ Ok tt
    pub closed : draft_at n w ≡ Closed

  pub begun : (n : ℕ) (w : Worksheet) → Accepts (begin n) w → Begun n w
  unfolding step begin_of begin_check
  begun n w h =
      let b = then_both (desk_check n) (closed_check (draft_at n w)) (was_accepted (begin_check n w) _ w h) in
      record { desk = b.0; closed = was_closed (draft_at n w) b.1 }

  pub begin_leaves : (n : ℕ) (w : Worksheet) → Begun n w → step source (begin n) w ≡ accepting (with_draft n (Fresh w.inputs) w)
  unfolding step begin_of begin_check closed_check
  begin_leaves n w b = is_accepted_law (begin_check n w) _ w (both_then (desk_check n) _ b.desk (ap closed_check b.closed))

  -- ---- change

  pub record Changed (n : ℕ) (e : Edit) (w : Worksheet) : Type 0 where
    pub desk : desk_check n ≡ Ok tt
    pub drafted : draft_check (draft_at n w) ≡ Ok tt
    pub good : edit_check e ≡ Ok tt

  pub was_changed : (n : ℕ) (e : Edit) (w : Worksheet) → Accepts (change n e) w → Changed n e w
  unfolding step change_of change_check
  was_changed n e w h =
      let a = then_both (desk_check n) (draft_check (draft_at n w) then edit_check e) (was_accepted (change_check n e w) _ w h) in
      let b = then_both (draft_check (draft_at n w)) (edit_check e) a.1 in
      record { desk = a.0; drafted = b.0; good = b.1 }

  pub change_leaves : (n : ℕ) (e : Edit) (w : Worksheet) → Changed n e w
      → step source (change n e) w ≡ accepting (with_draft n (edited_draft e (draft_at n w)) w)
  unfolding step change_of change_check
  change_leaves n e w b = is_accepted_law (change_check n e w) _ w (both_then (desk_check n) _ b.desk (both_then (draft_check (draft_at n w)) _ b.drafted b.good))

  -- the same of a fresh draft that is edited
  pub change_fresh : (n : ℕ) (e : Edit) (w : Worksheet) (x : Inputs) → desk_check n ≡ Ok tt → edit_check e ≡ Ok tt → FreshAt n x w
      → step source (change n e) w ≡ accepting (with_draft n (Fresh (edited e x)) w)
  unfolding draft_check edited_draft
  change_fresh n e w x d g h =
      change_leaves n e w (record { desk = d; drafted = ap draft_check h; good = g })
      ∙ ap (λ (z : Draft). accepting (with_draft n (edited_draft e z) w)) h

  -- ---- commit

  pub record Committed (n : ℕ) (w : Worksheet) : Type 0 where
    pub desk : desk_check n ≡ Ok tt
    pub draft : Inputs
    pub fresh : FreshAt n draft w

  pub committed : (n : ℕ) (w : Worksheet) → Accepts (commit n) w → Committed n w
  unfolding step commit_of commit_check
  committed n w h =
      let a = then_both (desk_check n) (draft_check (draft_at n w) then fresh_check (draft_at n w)) (was_accepted (commit_check n w) _ w h) in
      let b = then_both (draft_check (draft_at n w)) (fresh_check (draft_at n w)) a.1 in
      let d = was_fresh (draft_at n w) b.0 b.1 in
      record { desk = a.0; draft = d.0; fresh = d.1 }

  pub commit_leaves : (n : ℕ) (w : Worksheet) (x : Inputs) → desk_check n ≡ Ok tt → FreshAt n x w
      → step source (commit n) w ≡ accepting (with_draft n Closed (moved_to x (Some w.inputs) w))
  unfolding step commit_of commit_check draft_check fresh_check inputs_of
  commit_leaves n w x d h =
      is_accepted_law (commit_check n w) _ w (both_then (desk_check n) _ d (both_then (draft_check (draft_at n w)) _ (ap draft_check h) (ap fresh_check h)))
      ∙ ap (λ (z : Draft). accepting (with_draft n Closed (moved_to (inputs_of z w.inputs) (Some w.inputs) w))) h

  -- ---- cancel

  pub cancel_leaves : (n : ℕ) (w : Worksheet) → Accepts (cancel n) w → step source (cancel n) w ≡ accepting (with_draft n Closed w)
  unfolding step cancel_of
  cancel_leaves n w h = is_accepted_law (cancel_check n w) _ w (was_accepted (cancel_check n w) _ w h)

  -- ---- take back

  pub taken_back : (w : Worksheet) → Accepts take_back w → (i : Inputs) × (w.earlier ≡ Some i)
  unfolding step take_back_of
  taken_back w h = was_set w.earlier (was_accepted (earlier_check w.earlier) _ w h)

  pub take_back_leaves : (w : Worksheet) (i : Inputs) → w.earlier ≡ Some i → step source take_back w ≡ accepting (moved_to i None w)
  unfolding step take_back_of earlier_check set_of
  take_back_leaves w i h =
      is_accepted_law (earlier_check w.earlier) _ w (ap earlier_check h)
      ∙ ap (λ (z : Option Inputs). accepting (moved_to (set_of z w.inputs) None w)) h
