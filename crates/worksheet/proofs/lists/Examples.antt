-- The shorter list and the changes in force worked out, an example for each clause of document 01's
-- demand 3: by computation, for any source of files, all inputs and buffers. Assumes nothing.
use Rattle.std.proofs.Common.{Err, Ok, List, [], ◌∷◌, ◌≡◌, refl, Float}
use lib.Ieee.{round, le}
use Rattle.base.specs.declared.refusal.Refusal.TheVariants.{Hour as BadHour, Figures, Desk, Drafted, NoDraft, Stale as IsStale, NothingEarlier}
use Rattle.base.specs.Single.{decimal, minus_decimal}
use Rattle.maps.specs.declared.inputs.Inputs.{Inputs}
use Rattle.worksheet.specs.declared.inputs.Edit.{Edit}
use Rattle.worksheet.specs.declared.inputs.Edit.TheVariants.{Sunspot, Hour}
use Rattle.base.specs.Ranges.{month_check, hour_check, latitude_check, longitude_check, model_check}
use Rattle.worksheet.specs.Inputs.{sunspot_check, factor_check, flag_check, route_check, factors_check, pole_check, inputs_check, edit_check, edited}
use Rattle.worksheet.specs.Desks.{draft_at, with_draft, inputs_of, stale_of, moved_to, outcome, desk_check, closed_check, draft_check, fresh_check, earlier_check, fresh_sheet, open_of, begin_check, begin_of, change_check, edited_draft, change_of, commit_check, commit_of, cancel_check, cancel_of, set_of, take_back_of}
use Rattle.worksheet.specs.Showing.{Source, inputs_shown, asked_check, buffer_check, drawn_check, judged_check, show_check, show_of, show_buffer}
use Rattle.worksheet.specs.Journal.{Call, begin, commit, cancel, change, take_back, show, Answer, told, shown, Entry, step, run, own, kept_for, shorter, calls_of, kept_of}
use Rattle.worksheet.specs.InForce.{edits_of, changes_by, force_after, commits_in_force}
use Rattle.worksheet.proofs.drafts.Openings.{degrees}

-- two hours and a sunspot number in range, and an hour that is not
abbrev three : Edit
three = Hour (decimal 3 0)

abbrev four : Edit
four = Hour (decimal 4 0)

abbrev hundred : Edit
hundred = Sunspot (decimal 100 0)

abbrev late : Edit
late = Hour (decimal 25 0)

-- inputs that no open accepts, which a worksheet handed in may hold all the same: every showing of
-- them is refused
abbrev out_of_range : Inputs → Inputs
out_of_range i = record { month = 1; ssn = decimal 100 0; gmt = decimal 25 0; route = i.route; psc = i.psc; pole = i.pole; model = 0 }

-- inputs that open accepts
abbrev pub in_range : Inputs
in_range = record {
  month = 1;
  ssn = decimal 100 0;
  gmt = decimal 12 0;
  route = record { tlat = degrees (decimal 0 1); tlong = degrees (decimal 0 1); rlat = degrees (decimal 90 0); rlong = degrees (decimal 0 1); long_path = 0 };
  psc = record { e = decimal 1 0; f1 = decimal 1 0; f2 = decimal 1 0; es = decimal 1 0 };
  pole = record { lat = degrees (decimal 785 1); lon = degrees (decimal 0 1) };
  model = 0;
}

pub in_range_law : (open_of in_range).answer ≡ Ok tt
unfolding open_of inputs_check month_check sunspot_check hour_check route_check latitude_check longitude_check flag_check factors_check factor_check pole_check model_check decimal minus_decimal round le
in_range_law = refl

abbrev entry : Call → Answer → Entry
entry c r = record { call = c; answer = r }

module _ (source : Source) (i : Inputs) (x : Float) (a b c d : List Float) where
  -- the entries of a run on a worksheet just opened, and the shorter list's; every rule is open to
  -- computation
  full : Inputs → List Call → List Entry
  unfolding run step fresh_sheet draft_at with_draft inputs_of stale_of moved_to outcome desk_check closed_check draft_check fresh_check earlier_check begin_check begin_of change_check edited_draft change_of commit_check commit_of cancel_check cancel_of set_of take_back_of edit_check edited sunspot_check hour_check month_check latitude_check longitude_check factor_check flag_check route_check factors_check pole_check model_check inputs_check inputs_shown asked_check buffer_check drawn_check judged_check show_check show_of show_buffer decimal minus_decimal round le
  full j cs = (run source cs (fresh_sheet j)).entries

  short : Inputs → List Call → List Entry
  unfolding full kept_of shorter kept_for own
  short j cs = kept_of source (fresh_sheet j) cs

  -- the calls of the shorter list
  kept : List Call → List Call
  unfolding short calls_of
  kept cs = calls_of (short i cs)

  -- own calls stand just before their commit; showings of 0 stay where they are, before, between
  -- and after
  moved_up : kept (show 0 a ∷ begin 1 ∷ show 0 b ∷ change 1 three ∷ show 1 c ∷ show 0 d ∷ commit 1 ∷ show 0 a ∷ [])
      ≡ show 0 a ∷ show 0 b ∷ show 0 d ∷ begin 1 ∷ change 1 three ∷ show 1 c ∷ commit 1 ∷ show 0 a ∷ []
  unfolding kept
  moved_up = refl

  -- a cancelled draft's calls are dropped; the own begin is the last accepted one
  last_begin : kept (begin 1 ∷ change 1 three ∷ show 1 a ∷ cancel 1 ∷ begin 1 ∷ change 1 four ∷ show 1 b ∷ commit 1 ∷ [])
      ≡ begin 1 ∷ change 1 four ∷ show 1 b ∷ commit 1 ∷ []
  unfolding kept
  last_begin = refl

  -- a refused begin is no own begin
  begun_once : kept (begin 1 ∷ change 1 three ∷ begin 1 ∷ change 1 hundred ∷ commit 1 ∷ [])
      ≡ begin 1 ∷ change 1 three ∷ change 1 hundred ∷ commit 1 ∷ []
  unfolding kept
  begun_once = refl

  -- a refused change is dropped, a later one stays
  refused_change : kept (begin 2 ∷ change 2 late ∷ show 2 a ∷ change 2 three ∷ commit 2 ∷ [])
      ≡ begin 2 ∷ show 2 a ∷ change 2 three ∷ commit 2 ∷ []
  unfolding kept
  refused_change = refl

  -- refused showings, the own desk's and the worksheet's, are kept with their refusals; the buffers
  -- are as they were lent
  refused_showings : short (out_of_range i) (begin 1 ∷ show 1 a ∷ show 0 b ∷ commit 1 ∷ show 0 c ∷ [])
      ≡ entry (show 0 b) (shown (Err BadHour) b)
      ∷ entry (begin 1) (told (Ok tt))
      ∷ entry (show 1 a) (shown (Err BadHour) a)
      ∷ entry (commit 1) (told (Ok tt))
      ∷ entry (show 0 c) (shown (Err BadHour) c)
      ∷ []
  unfolding short
  refused_showings = refl

  -- the same of inputs in range, refused 12 for their short buffers, before and after the draft was
  -- changed
  refused_buffers : short in_range (begin 1 ∷ show 1 (x ∷ []) ∷ show 0 [] ∷ change 1 three ∷ show 1 [] ∷ commit 1 ∷ show 0 (x ∷ []) ∷ [])
      ≡ entry (show 0 []) (shown (Err Figures) [])
      ∷ entry (begin 1) (told (Ok tt))
      ∷ entry (show 1 (x ∷ [])) (shown (Err Figures) (x ∷ []))
      ∷ entry (change 1 three) (told (Ok tt))
      ∷ entry (show 1 []) (shown (Err Figures) [])
      ∷ entry (commit 1) (told (Ok tt))
      ∷ entry (show 0 (x ∷ [])) (shown (Err Figures) (x ∷ []))
      ∷ []
  unfolding short
  refused_buffers = refl

  -- refused so, a showing of another desk, of a cancelled draft or of a stale one is dropped with
  -- its draft's other calls
  dropped_buffers : short in_range (begin 2 ∷ show 2 [] ∷ begin 1 ∷ begin 3 ∷ show 3 [] ∷ cancel 3 ∷ show 1 [] ∷ commit 1 ∷ show 2 [] ∷ [])
      ≡ entry (begin 1) (told (Ok tt))
      ∷ entry (show 1 []) (shown (Err Figures) [])
      ∷ entry (commit 1) (told (Ok tt))
      ∷ []
  unfolding short
  dropped_buffers = refl

  -- a desk's showing before its begin or after its commit, refused 16, is no own one
  no_draft_showings : kept (show 1 a ∷ begin 1 ∷ show 1 b ∷ commit 1 ∷ show 1 c ∷ begin 1 ∷ commit 1 ∷ show 1 d ∷ [])
      ≡ begin 1 ∷ show 1 b ∷ commit 1 ∷ begin 1 ∷ commit 1 ∷ []
  unfolding kept
  no_draft_showings = refl

  -- another desk's showings and changes are dropped
  other_desks : kept (begin 1 ∷ begin 2 ∷ show 1 a ∷ show 2 b ∷ show 3 c ∷ change 1 three ∷ commit 2 ∷ [])
      ≡ begin 2 ∷ show 2 b ∷ commit 2 ∷ []
  unfolding kept
  other_desks = refl

  -- two desks: the second's draft is stale, its commit refused and its calls dropped
  abbrev two_desks : List Call
  two_desks = begin 1 ∷ begin 2 ∷ change 1 three ∷ change 2 hundred ∷ commit 1 ∷ commit 2 ∷ show 2 a ∷ show 0 b ∷ cancel 2 ∷ []

  second_stale : kept two_desks ≡ begin 1 ∷ change 1 three ∷ commit 1 ∷ show 0 b ∷ []
  unfolding kept
  second_stale = refl

  -- a take-back between begin and commit: the draft is stale; a second take-back is refused and
  -- dropped
  taken_back : kept (begin 1 ∷ change 1 three ∷ commit 1 ∷ begin 2 ∷ change 2 hundred ∷ take_back ∷ commit 2 ∷ take_back ∷ show 0 a ∷ [])
      ≡ begin 1 ∷ change 1 three ∷ commit 1 ∷ take_back ∷ show 0 a ∷ []
  unfolding kept
  taken_back = refl

  -- several commits, each with its own calls, one of them with no change; a stale draft is
  -- cancelled and begun anew
  each_its_own : kept (begin 1 ∷ begin 2 ∷ change 2 three ∷ commit 1 ∷ cancel 2 ∷ begin 2 ∷ begin 3 ∷ change 2 four ∷ show 3 a ∷ commit 2 ∷ begin 1 ∷ change 1 hundred ∷ take_back ∷ cancel 1 ∷ begin 1 ∷ commit 1 ∷ [])
      ≡ begin 1 ∷ commit 1 ∷ begin 2 ∷ change 2 four ∷ commit 2 ∷ take_back ∷ begin 1 ∷ commit 1 ∷ []
  unfolding kept
  each_its_own = refl

  -- no desk, no draft, no earlier set: all refused, nothing kept
  nothing_kept : kept (begin 0 ∷ begin 5 ∷ change 1 three ∷ commit 9 ∷ commit 1 ∷ cancel 1 ∷ show 7 a ∷ show 1 b ∷ take_back ∷ []) ≡ []
  unfolding kept
  nothing_kept = refl

  -- another list of two desks, answer by answer
  abbrev answers_of : List Entry → List Answer
  answers_of [] = []
  answers_of (x ∷ l) = x.answer ∷ answers_of l

  answers : answers_of (full i (begin 1 ∷ begin 2 ∷ begin 2 ∷ change 1 late ∷ change 3 three ∷ commit 1 ∷ commit 2 ∷ cancel 2 ∷ commit 2 ∷ take_back ∷ take_back ∷ begin 0 ∷ []))
      ≡ told (Ok tt) ∷ told (Ok tt) ∷ told (Err Drafted) ∷ told (Err BadHour) ∷ told (Err NoDraft) ∷ told (Ok tt)
      ∷ told (Err IsStale) ∷ told (Ok tt) ∷ told (Err NoDraft) ∷ told (Ok tt) ∷ told (Err NothingEarlier) ∷ told (Err Desk) ∷ []
  unfolding full
  answers = refl

  -- the changes in force after a list of calls
  in_force_after : List Call → List Edit
  unfolding full commits_in_force force_after changes_by edits_of own
  in_force_after cs = changes_by (commits_in_force (fresh_sheet i) (full i cs))

  -- a draft not committed yet, a cancelled one and a refused change have no part in them
  committed_only : in_force_after (begin 1 ∷ change 1 three ∷ change 1 late ∷ begin 2 ∷ change 2 four ∷ cancel 2 ∷ commit 1 ∷ begin 3 ∷ change 3 hundred ∷ []) ≡ three ∷ []
  unfolding in_force_after
  committed_only = refl

  -- commits add their changes in the order of the commits; a take-back takes the last one's away,
  -- and only that
  in_commit_order : in_force_after (begin 1 ∷ change 1 three ∷ commit 1 ∷ begin 2 ∷ change 2 hundred ∷ change 2 four ∷ commit 2 ∷ []) ≡ three ∷ hundred ∷ four ∷ []
  unfolding in_force_after
  in_commit_order = refl

  last_taken_back : in_force_after (begin 1 ∷ change 1 three ∷ commit 1 ∷ begin 2 ∷ change 2 hundred ∷ commit 2 ∷ take_back ∷ take_back ∷ begin 3 ∷ change 3 four ∷ commit 3 ∷ []) ≡ three ∷ four ∷ []
  unfolding in_force_after
  last_taken_back = refl
