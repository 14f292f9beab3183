-- Document 01, At the desks: what open, begin, change, commit, cancel and take back give, paragraph
-- by paragraph. Assumes nothing.
use Rattle.std.specs.Prelude.{ℕ, ◌*◌, Bool, cond, ◌&&◌, List, eqb, leb, Err, None, Ok, Option, Some}
use Rattle.base.specs.declared.refusal.Refusal.TheVariants.{Desk, Drafted, NoDraft, Stale as IsStale, NothingEarlier}
use Rattle.base.specs.Refusal.{Verdict}
use Rattle.maps.specs.declared.inputs.Inputs.{Inputs}
use Rattle.base.specs.Words.{word_at}
use Rattle.maps.specs.Inputs.{inputs_from, word_of_sheet}
use Rattle.worksheet.specs.declared.inputs.Edit.{Edit}
use Rattle.worksheet.specs.declared.desks.Draft.{Draft}
use Rattle.worksheet.specs.declared.desks.Draft.TheVariants.{Closed, Fresh, Stale}
use Rattle.worksheet.specs.declared.desks.Worksheet.{Worksheet}
use Rattle.worksheet.specs.declared.desks.Outcome.{Outcome}
use Rattle.base.specs.Refusal.{refuse_unless, ◌then◌, written_over}
use Rattle.worksheet.specs.Inputs.{inputs_check, edit_check, edited}

-- ---- 'a draft or none for each desk 1 to 4'

-- the draft of desk n; any other number has none
unfoldable pub draft_at : ℕ → Worksheet → Draft
draft_at n w = cond (eqb n 1) w.d1 (cond (eqb n 2) w.d2 (cond (eqb n 3) w.d3 (cond (eqb n 4) w.d4 Closed)))

-- the worksheet with d as the draft of desk n, and all else as it was
unfoldable pub with_draft : ℕ → Draft → Worksheet → Worksheet
with_draft n d w =
    record {
      inputs = w.inputs;
      earlier = w.earlier;
      d1 = cond (eqb n 1) d w.d1;
      d2 = cond (eqb n 2) d w.d2;
      d3 = cond (eqb n 3) d w.d3;
      d4 = cond (eqb n 4) d w.d4;
    }

-- the inputs in a draft; i where there is no draft
unfoldable pub inputs_of : Draft → Inputs → Inputs
inputs_of Closed i = i
inputs_of (Fresh x) i = x
inputs_of (Stale x) i = x

unfoldable pub stale_of : Draft → Draft
stale_of Closed = Closed
stale_of (Fresh x) = Stale x
stale_of (Stale x) = Stale x

-- the worksheet with new inputs and a new earlier set, where every open draft turns stale
unfoldable pub moved_to : Inputs → Option Inputs → Worksheet → Worksheet
moved_to i e w =
    record {
      inputs = i;
      earlier = e;
      d1 = stale_of w.d1;
      d2 = stale_of w.d2;
      d3 = stale_of w.d3;
      d4 = stale_of w.d4;
    }

-- a refusal leaves the worksheet as it was
unfoldable pub outcome : Verdict → Worksheet → Worksheet → Outcome
outcome v after w = record { answer = v; sheet = written_over v after w }

-- ---- the refusals of a desk and of its draft

-- '14 (desk not 1 to 4)'
abbrev pub is_desk : ℕ → Bool
is_desk n = leb 1 n && leb n 4

unfoldable pub desk_check : ℕ → Verdict
desk_check n = refuse_unless (is_desk n) Desk

-- '15 (draft already open)'
unfoldable pub closed_check : Draft → Verdict
closed_check Closed = Ok tt
closed_check (Fresh x) = Err Drafted
closed_check (Stale x) = Err Drafted

-- '16 (no draft)'
unfoldable pub draft_check : Draft → Verdict
draft_check Closed = Err NoDraft
draft_check (Fresh x) = Ok tt
draft_check (Stale x) = Ok tt

-- '17 (stale; the draft stays open)'
unfoldable pub fresh_check : Draft → Verdict
fresh_check Closed = Ok tt
fresh_check (Fresh x) = Ok tt
fresh_check (Stale x) = Err IsStale

-- '18 (no earlier set)'
unfoldable pub earlier_check : Option Inputs → Verdict
earlier_check None = Err NothingEarlier
earlier_check (Some i) = Ok tt

-- ---- Open

-- 'All desks are closed and nothing can be taken back'
unfoldable pub fresh_sheet : Inputs → Worksheet
fresh_sheet i = record { inputs = i; earlier = None; d1 = Closed; d2 = Closed; d3 = Closed; d4 = Closed }

-- 'takes inputs; a refused one gives no worksheet': of what stands beside a refusal its own showing
-- is refused by the same field (`open_refused`), which is what `sheet` and `jt_sheet` go by
unfoldable pub open_of : Inputs → Outcome
open_of i = record { answer = inputs_check i; sheet = fresh_sheet i }

-- of 15 'little-endian 4-byte words'; 'missing bytes of these words count as 0'
unfoldable pub opened_of : List ℕ → Outcome
opened_of s = open_of (inputs_from (λ (k : ℕ). word_at s (4 * k)))

-- of a sheet's '14 little-endian 4-byte words', 'with model 0'
unfoldable pub sheet_opened_of : List ℕ → Outcome
sheet_opened_of s = open_of (inputs_from (word_of_sheet s))

-- ---- Begin

-- 'refuses 14 (desk not 1 to 4), 15 (draft already open)'
unfoldable pub begin_check : ℕ → Worksheet → Verdict
begin_check n w = desk_check n then closed_check (draft_at n w)

-- 'The draft is a copy of the worksheet's inputs, not stale'
unfoldable pub begin_of : ℕ → Worksheet → Outcome
begin_of n w = outcome (begin_check n w) (with_draft n (Fresh w.inputs) w) w

-- ---- Change

-- 'refuses 14, 16 (no draft), then the changed fields as in open'
unfoldable pub change_check : ℕ → Edit → Worksheet → Verdict
change_check n e w = desk_check n then draft_check (draft_at n w) then edit_check e

-- 'the draft's changed fields become the numbers given ..; its other fields, its staleness and all
-- else stay'
unfoldable pub edited_draft : Edit → Draft → Draft
edited_draft e Closed = Closed
edited_draft e (Fresh x) = Fresh (edited e x)
edited_draft e (Stale x) = Stale (edited e x)

unfoldable pub change_of : ℕ → Edit → Worksheet → Outcome
change_of n e w = outcome (change_check n e w) (with_draft n (edited_draft e (draft_at n w)) w) w

-- ---- Commit

-- 'refuses 14, 16, 17 (stale; the draft stays open)'
unfoldable pub commit_check : ℕ → Worksheet → Verdict
commit_check n w = desk_check n then draft_check (draft_at n w) then fresh_check (draft_at n w)

-- 'the inputs become the earlier set, the draft's become the inputs, the desk closes and every
-- other open draft turns stale'
unfoldable pub commit_of : ℕ → Worksheet → Outcome
commit_of n w =
    outcome (commit_check n w)
    (with_draft n Closed (moved_to (inputs_of (draft_at n w) w.inputs) (Some w.inputs) w))
    w

-- ---- Cancel

-- 'refuses 14, 16'
unfoldable pub cancel_check : ℕ → Worksheet → Verdict
cancel_check n w = desk_check n then draft_check (draft_at n w)

-- 'The draft goes; nothing else moves'
abbrev pub without_draft : ℕ → Worksheet → Worksheet
without_draft n w = with_draft n Closed w

unfoldable pub cancel_of : ℕ → Worksheet → Outcome
cancel_of n w = outcome (cancel_check n w) (without_draft n w) w

-- ---- Take back

-- the earlier set; i where there is none
unfoldable pub set_of : Option Inputs → Inputs → Inputs
set_of None i = i
set_of (Some x) i = x

-- 'The earlier set returns, none is left, every open draft turns stale'
unfoldable pub take_back_of : Worksheet → Outcome
take_back_of w = outcome (earlier_check w.earlier) (moved_to (set_of w.earlier w.inputs) None w) w

-- ---- to say that all sets of inputs of a worksheet have a property

module _ (P : Inputs → Type 0) where
  abbrev pub EarlierHas : Option Inputs → Type 0
  EarlierHas None = Unit
  EarlierHas (Some i) = P i

  abbrev pub DraftHas : Draft → Type 0
  DraftHas Closed = Unit
  DraftHas (Fresh i) = P i
  DraftHas (Stale i) = P i

  -- the inputs, the earlier set and the drafts, as far as there are any
  pub record SheetHas (w : Worksheet) : Type 0 where
    pub inputs : P w.inputs
    pub earlier : EarlierHas w.earlier
    pub d1 : DraftHas w.d1
    pub d2 : DraftHas w.d2
    pub d3 : DraftHas w.d3
    pub d4 : DraftHas w.d4
