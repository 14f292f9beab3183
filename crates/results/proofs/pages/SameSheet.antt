-- What is said of the page's shorter journal ends with the same showing: the shorter list ends with it,
-- and by demand 3 it is answered there as in the full list, of the same inputs. Assumes nothing.
use Rattle.std.proofs.Common.{Ok, ℕ, suc, ◌+◌, List, [], ◌∷◌, ◌++◌, append_assoc, ◌⊎◌, inl, inr, ◌≡◌, refl, sym, ap, ◌∙◌, arith, length, length-append, Float}
use Rattle.maps.specs.declared.inputs.Inputs.{Inputs}
use Rattle.worksheet.specs.declared.desks.Worksheet.{Worksheet}
use Rattle.worksheet.specs.declared.journal.Call.{Call as ProgramCall}
use Rattle.worksheet.specs.declared.journal.Call.TheVariants.{Begin, Change, Commit, Cancel, TakeBack, Show}
use Rattle.worksheet.specs.Showing.{inputs_shown}
use Rattle.worksheet.specs.Journal.{Call, shown, show, Entry, step, run, entry_of, kept_for, shorter, kept_of, short_run, Demand3}
use Rattle.worksheet.specs.Calls.{called}
use Rattle.worksheet.specs.InForce.{in_force}
use Rattle.worksheet.proofs.lists.Rules.{demand_3_lent}
use Rattle.wording.specs.declared.written.WrittenCall.{WrittenCall}
use Rattle.wording.specs.Written.{call_written}
use Rattle.listing.specs.Spoken.{spoken_text, spoken_verdict, inputs_asked}
use Rattle.listing.specs.Turn.{blank}
use Rattle.sitting.specs.Sitting.{first_sitting}
use Rattle.auditing.specs.Marks.{desk_of}
use Rattle.auditing.specs.Gathered.{Numbered, sits, calls_told, run_told}
use Rattle.auditing.proofs.journals.Runs.{sheet_more}
use Rattle.results.specs.Heard.{heard_by, said_of}
use Rattle.results.specs.Insurer.{accepted_showing}
use Rattle.results.specs.ReadBack.{numbered_from}
use Rattle.results.specs.AuditPage.{Audited, opened_sheet, entries_in, calls_kept, shorter_text, ShownLast, ShorterTold}
use Rattle.results.proofs.lists.Kept.{shorter_append}
use Rattle.results.proofs.force.Insured.{in_force_law}
use Rattle.results.proofs.hearings.Said.{call_of, answer_said, said_more}
use Rattle.results.proofs.hearings.Lines.{HeardAs, heard_as}
use Rattle.results.proofs.pages.Held.{opened_rest}
use Rattle.results.proofs.pages.Shorter.{page_shorter}
use Rattle.results.proofs.pages.Last.{Ends, last_of_law, last_same, run_ends}

-- ---- lists that end in a showing of the worksheet

-- the last call's line, m being its number
numbered_more :
    (n m : ℕ) (cs : List WrittenCall) (c : WrittenCall) → m ≡ n + length cs →
    numbered_from n (cs ++ (c ∷ [])) ≡ numbered_from n cs ++ (record { call = c; line = m } ∷ [])
unfolding numbered_from
numbered_more n m [] c e =
    let same : n ≡ m = omega arith in
    ap (λ (k : ℕ). record { call = c; line = k } ∷ []) same
numbered_more n m (x ∷ cs) c e =
    ap (λ (l : List Numbered). record { call = x; line = n } ∷ l) (numbered_more (suc n) m cs c (omega arith))

shorter_ends :
    (front : List Entry) (points : ℕ) (figures : List Float) →
    let x = accepted_showing blank points figures in shorter [] (front ++ (x ∷ [])) ≡ shorter [] front ++ (x ∷ [])
unfolding shorter kept_for
shorter_ends front points figures = shorter_append [] front (accepted_showing blank points figures ∷ [])

-- such a call asks to see the worksheet's inputs
asks_worksheet :
    (c : ProgramCall) (w : Worksheet) → called c blank ≡ show 0 blank → inputs_asked c w ≡ w.inputs
unfolding inputs_asked inputs_shown
asks_worksheet (Begin n) w h = refl
asks_worksheet (Change n e) w h = refl
asks_worksheet (Commit n) w h = refl
asks_worksheet (Cancel n) w h = refl
asks_worksheet TakeBack w h = refl
asks_worksheet (Show n) w h = ap (λ (k : ℕ). inputs_shown k w) (ap desk_of h)

module _ (a : Audited) (line : ℕ) (s : ShownLast a line) where
  abbrev t : ShorterTold a
  t = page_shorter a

  abbrev w : Worksheet
  w = opened_sheet a

  abbrev i : Inputs
  i = in_force w (entries_in a)

  abbrev front : List Entry
  front = (run_told a.source a.opening s.before).entries

  abbrev shows : Entry
  shows = accepted_showing blank s.points s.figures

  abbrev n : ℕ
  n = suc (length (calls_kept a))

  -- ---- the run of the shorter journal

  demand : Demand3 a.source w (calls_told a.calls)
  demand = demand_3_lent a.source w (opened_rest a) (calls_told a.calls)

  ran : (run_told a.source a.opening (numbered_from 2 (calls_kept a))).entries ≡ shorter [] front ++ (shows ∷ [])
  unfolding kept_of short_run
  ran =
      ap (λ (cs : List Call). (run a.source cs w).entries) t.shorter_list
      ∙ demand.answers
      ∙ ap (shorter []) s.answered
      ∙ shorter_ends front s.points s.figures

  left : (run_told a.source a.opening (numbered_from 2 (calls_kept a))).sheet.inputs ≡ i
  unfolding kept_of short_run
  left =
      ap (λ (cs : List Call). (run a.source cs w).sheet.inputs) t.shorter_list
      ∙ demand.inputs
      ∙ in_force_law a.source w (opened_rest a) (calls_told a.calls)

  -- ---- its last call

  some_call : calls_kept a ≡ [] → ⊥
  unfolding numbered_from calls_told run
  some_call e =
      let none : [] ≡ shorter [] front ++ (shows ∷ []) =
      ap (λ (cs : List WrittenCall). (run_told a.source a.opening (numbered_from 2 cs)).entries) (sym e) ∙ ran in
      omega (arith, ap length none, length-append (shorter [] front) (shows ∷ []))

  module _ (e : Ends (calls_kept a)) where
    abbrev x : Numbered
    x = record { call = e.last; line = n }

    abbrev ns : List Numbered
    ns = numbered_from 2 e.front

    abbrev v : Worksheet
    v = (run_told a.source a.opening ns).sheet

    numbered : numbered_from 2 (calls_kept a) ≡ ns ++ (x ∷ [])
    numbered =
        ap (numbered_from 2) e.split
        ∙ numbered_more 2 n e.front e.last (omega (arith, ap length e.split, length-append e.front (e.last ∷ [])))

    last_is : entry_of a.source (call_of x) v ≡ shows
    last_is =
        last_same (run_told a.source a.opening ns).entries (shorter [] front) _ _
        (sym (run_ends a.source w ns x)
        ∙ ap (λ (cs : List Numbered). (run_told a.source a.opening cs).entries) (sym numbered)
        ∙ ran)

    shows_so : call_of x ≡ show 0 blank
    shows_so = ap (λ (y : Entry). y.call) last_is

    -- it leaves the worksheet as it is
    inputs_then : v.inputs ≡ i
    unfolding step
    inputs_then =
        sym (ap (λ (c : Call). (step a.source c v).sheet.inputs) shows_so)
        ∙ sym (ap (λ (u : Worksheet). u.inputs) (sheet_more a.source a.opening ns x))
        ∙ ap (λ (cs : List Numbered). (run_told a.source a.opening cs).sheet.inputs) (sym numbered)
        ∙ left

    said_last : answer_said a.source x v ≡ spoken_text n i (shown (Ok s.points) s.figures)
    said_last =
        let asked = asks_worksheet (call_written e.last) v shows_so ∙ inputs_then in
        λ k. spoken_text n (asked k) (last_is k).answer

    heard_last :
        (before : List ℕ)
        × ((heard_by a.source first_sitting (shorter_text a) n).text
        ≡ before ++ spoken_text n i (shown (Ok s.points) s.figures))
    unfolding HeardAs first_sitting
    heard_last =
        let opened = spoken_verdict 1 (Ok tt) in
        let said = said_of a.source w ns in
        let told = sits a.opening 1 (numbered_from 2 (calls_kept a)) in (
          opened ++ said,
          (heard_as a.source first_sitting (_, refl) (shorter_text a) n told t.told).text
              ∙ ap (λ (cs : List Numbered). opened ++ said_of a.source w cs) numbered
              ∙ ap (λ (l : List ℕ). opened ++ l)
              (said_more a.source w ns x ∙ ap (λ (l : List ℕ). said ++ l) said_last)
              ∙ sym (append_assoc opened said (spoken_text n i (shown (Ok s.points) s.figures))),
        )

  -- THE SAME SHEET
  pub page_same_sheet :
      (before : List ℕ)
      × ((heard_by a.source first_sitting (shorter_text a) n).text
      ≡ before ++ spoken_text n i (shown (Ok s.points) s.figures))
  page_same_sheet = go (last_of_law (calls_kept a))
    where
      go :
          (calls_kept a ≡ []) ⊎ Ends (calls_kept a) →
          (before : List ℕ)
          × ((heard_by a.source first_sitting (shorter_text a) n).text
          ≡ before ++ spoken_text n i (shown (Ok s.points) s.figures))
      go (inl e) = absurd (some_call e)
      go (inr e) = heard_last e
