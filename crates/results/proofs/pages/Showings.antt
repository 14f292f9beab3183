-- It is told of a line that the worksheet was shown there, or that this was refused, exactly where the last
-- call is such a showing: by its mark, which has the sort, the desk and the acceptance of its entry. Both are
-- read from one law: such a showing is found or neither is told, and what is told of one is by its answer.
-- Assumes nothing.
use Rattle.std.proofs.Common.{Err, Ok, Result, ℕ, Bool, true, false, cond, List, [], ◌∷◌, ◌++◌, ◌⊎◌, inl, inr, ◌↔◌, ◌≡◌, refl, sym, ap, ◌∙◌, arith, eqb, lit≤, length, Float, eqb-true, eq-eqb, ne_eqb}
use Rattle.base.specs.declared.refusal.Refusal.{Refusal}
use borrow.Author.Tests.{eqb-false}
use Rattle.base.proofs.verdicts.Picks.{cond_true, cond_false}
use Rattle.worksheet.specs.Showing.{show_of, show_buffer}
use Rattle.worksheet.specs.Journal.{shown, show, Entry, step, entry_of}
use Rattle.worksheet.specs.Calls.{called}
use Rattle.worksheet.proofs.drafts.Effects.{both_true}
use Rattle.wording.specs.declared.written.WrittenCall.{WrittenCall}
use Rattle.wording.specs.declared.written.WrittenCall.TheVariants.{Begin, Change, Commit, Cancel, TakeBack, Show}
use Rattle.wording.specs.Written.{edit_written, call_written}
use Rattle.listing.specs.Turn.{blank}
use Rattle.auditing.specs.declared.accounts.Showing.{Showing}
use Rattle.auditing.specs.declared.accounts.Showing.TheVariants.{Shown, Refused, Other}
use Rattle.auditing.specs.Provenance.{edit_part}
use Rattle.auditing.specs.Marks.{sort_of, desk_of, mark_of, mark_sort, mark_desk, is_showing}
use Rattle.auditing.specs.Gathered.{Numbered, run_told}
use Rattle.auditing.specs.Accounts.{showing_by, showing_at}
use Rattle.results.specs.AuditPage.{Audited, entries_in, ShownLast, RefusedShowing}
use Rattle.results.proofs.provenance.Marking.{no_part, sort_of_law, desk_of_law}
use Rattle.results.proofs.pages.Held.{sat}
use Rattle.results.proofs.pages.Last.{Ends, last_of_law, last_same, last_entry, entries_end, count_is, line_last, mark_last}

-- ---- a written call of the sort and desk of a showing of the worksheet is one

shows_worksheet :
    (c : WrittenCall) →
    let k = called (call_written c) blank in sort_of k ≡ 12 → desk_of k ≡ 0 → c ≡ Show 0
unfolding call_written
shows_worksheet (Begin n) s d = absurd (omega arith)
shows_worksheet (Change n e) s d =
    absurd (eqb-false (edit_part (edit_written e)) 12 (no_part (edit_written e) 12 (lit≤ tt)) s)
shows_worksheet (Commit n) s d = absurd (omega arith)
shows_worksheet (Cancel n) s d = absurd (omega arith)
shows_worksheet TakeBack s d = absurd (omega arith)
shows_worksheet (Show n) s d = ap Show d

-- ---- what is told of a showing of the worksheet, by its answer

abbrev showing_entry : Result ℕ Refusal → List Float → Entry
showing_entry s buffer = record { call = show 0 blank; answer = shown s buffer }

abbrev told_of : Result ℕ Refusal → Showing
told_of (Ok n) = Shown
told_of (Err why) = Refused

told_of_law : (s : Result ℕ Refusal) (buffer : List Float) → showing_by (mark_of (showing_entry s buffer)) ≡ told_of s
unfolding showing_by mark_of
told_of_law (Ok n) buffer = refl
told_of_law (Err why) buffer = refl

-- a number for each that can be told, since these differ where numbers do
abbrev number_of : Showing → ℕ
number_of Shown = 2
number_of Refused = 1
number_of Other = 0

module _ (a : Audited) (line : ℕ) where
  abbrev answer : Showing
  answer = showing_at a.marks a.numbers a.kept.count line

  -- the last call shows the worksheet, stands on this line, and was answered so
  record Showed (s : Result ℕ Refusal) : Type 0 where
    pub before : List Numbered
    pub split : a.calls ≡ before ++ (record { call = Show 0; line = line } ∷ [])
    pub buffer : List Float
    pub answered : entries_in a ≡ (run_told a.source a.opening before).entries ++ (showing_entry s buffer ∷ [])

  -- such a showing, or neither is told
  data Found : Type 0 where
    showed : (s : Result ℕ Refusal) → Showed s → Found
    neither : answer ≡ Other → Found

  module _ (front : List Numbered) (x : Numbered) (split : a.calls ≡ front ++ (x ∷ [])) where
    abbrev entry : Entry
    entry = last_entry a front x split

    -- by the last call
    showing_as : answer ≡ cond (eqb x.line line) (showing_by (mark_of entry)) Other
    unfolding showing_at
    showing_as =
        cond_false _ _ (ne_eqb a.kept.count 0 (λ e. omega (arith, count_is a front x split)))
        ∙ (λ t. cond (eqb (line_last a front x split t) line) (showing_by (mark_last a front x split t)) Other)

    -- by whether it stands on the line and whether its mark is a showing's
    found_by : (here shows : Bool) → eqb x.line line ≡ here → is_showing (mark_of entry) ≡ shows → Found
    unfolding showing_by step call_written
    found_by false shows h i = neither (showing_as ∙ cond_false _ _ h)
    found_by true false h i = neither (showing_as ∙ cond_true _ _ h ∙ cond_false _ _ i)
    found_by true true h i =
        let m = mark_of entry in
        let b = both_true (eqb (mark_sort m) 12) (eqb (mark_desk m) 0) i in
        let sort = sym (sort_of_law entry) ∙ eqb-true (mark_sort m) 12 b.0 in
        let desk = sym (desk_of_law entry) ∙ eqb-true (mark_desk m) 0 b.1 in
        let is : x.call ≡ Show 0 = shows_worksheet x.call sort desk in
        let its_line : x.line ≡ line = eqb-true x.line line h in
        let v = (run_told a.source a.opening front).sheet in
        let s = show_of a.source 0 blank v in
        let buffer = show_buffer a.source 0 blank v in
        let as_called : entry ≡ showing_entry s buffer =
        ap (λ (c : WrittenCall). entry_of a.source (called (call_written c) blank) v) is in
        showed s
        record {
          before = front;
          split = split ∙ (λ t. front ++ (record { call = is t; line = its_line t } ∷ []));
          buffer = buffer;
          answered =
              entries_end a front x split
              ∙ ap (λ (y : Entry). (run_told a.source a.opening front).entries ++ (y ∷ [])) as_called;
        }

  -- of no call neither is told
  found : Found
  unfolding showing_at
  found = go (last_of_law a.calls)
    where
      go : (a.calls ≡ []) ⊎ Ends a.calls → Found
      go (inl e) = neither (cond_true _ _ (eq-eqb a.kept.count 0 ((sat a).count ∙ ap length e)))
      go (inr e) = found_by e.front e.last e.split _ _ refl refl

  -- the other way: a run has one last entry, so that the mark is that of this answer
  told_so : (s : Result ℕ Refusal) → Showed s → answer ≡ told_of s
  told_so s h =
      let x : Numbered = record { call = Show 0; line = line } in
      let front = (run_told a.source a.opening h.before).entries in
      let same : last_entry a h.before x h.split ≡ showing_entry s h.buffer =
      last_same front front _ _ (sym (entries_end a h.before x h.split) ∙ h.answered) in
      showing_as h.before x h.split
      ∙ cond_true _ _ (eq-eqb line line refl)
      ∙ ap (λ (y : Entry). showing_by (mark_of y)) same
      ∙ told_of_law s h.buffer

  -- THERE IS A PAGE
  pub page_showing : (answer ≡ Shown) ↔ ShownLast a line
  page_showing = (λ e. there e found, back)
    where
      there : answer ≡ Shown → Found → ShownLast a line
      there e (showed (Ok n) h) =
          record { before = h.before; split = h.split; points = n; figures = h.buffer; answered = h.answered }
      there e (showed (Err why) h) = absurd (omega (arith, ap number_of (sym (told_so _ h) ∙ e)))
      there e (neither o) = absurd (omega (arith, ap number_of (sym o ∙ e)))

      back : ShownLast a line → answer ≡ Shown
      back s =
          told_so (Ok s.points)
          record { before = s.before; split = s.split; buffer = s.figures; answered = s.answered }

  -- THE SHOWING WAS REFUSED
  pub page_refused : (answer ≡ Refused) ↔ RefusedShowing a line
  page_refused = (λ e. there e found, back)
    where
      there : answer ≡ Refused → Found → RefusedShowing a line
      there e (showed (Ok n) h) = absurd (omega (arith, ap number_of (sym (told_so _ h) ∙ e)))
      there e (showed (Err why) h) =
          record { before = h.before; split = h.split; why = why; buffer = h.buffer; answered = h.answered }
      there e (neither o) = absurd (omega (arith, ap number_of (sym o ∙ e)))

      back : RefusedShowing a line → answer ≡ Refused
      back s =
          told_so (Err s.why)
          record { before = s.before; split = s.split; buffer = s.buffer; answered = s.answered }
