-- The text of the page's shorter journal: each line kept is a call's written anew, since its line reads as
-- that call, and the places kept are those of the shorter list. Assumes nothing.
use Rattle.std.proofs.Common.{Err, Ok, ℕ, zero, suc, ◌<◌, List, [], ◌∷◌, ◌++◌, map, ◌⊎◌, inl, inr, ◌≡◌, refl, sym, ap, ap₂, subst, ◌∙◌, arith, length}
use mathlib.Core.List.Memᴰ
use mathlib.Core.List.{Memᴰ}
use Rattle.base.specs.Refusal.{Verdict}
use Rattle.worksheet.specs.declared.desks.Worksheet.{Worksheet}
use Rattle.worksheet.specs.Desks.{open_of}
use Rattle.worksheet.specs.Showing.{Source}
use Rattle.worksheet.specs.Journal.{Call, Entry, step, run, shorter, calls_of}
use Rattle.worksheet.specs.Calls.{called}
use Rattle.wording.specs.declared.line.Line.{Line}
use Rattle.wording.specs.declared.line.Line.TheVariants as line
use Rattle.wording.specs.declared.written.WrittenCall.{WrittenCall}
use Rattle.wording.specs.declared.written.WrittenInputs.{WrittenInputs}
use Rattle.wording.specs.Line.{line_in}
use Rattle.wording.specs.Written.{inputs_written, call_written}
use Rattle.listing.specs.Turn.{blank}
use Rattle.listing.specs.Written.{line_text}
use Rattle.auditing.specs.Marks.{marks_of, kept_places}
use Rattle.auditing.specs.Gathered.{line_at, Numbered, Told, waiting, sits, ended, opened_told, telling, told_from, told_by, calls_told, call_told, ReadsAt}
use Rattle.auditing.specs.Accounts.{number_at}
use Rattle.results.specs.ExhibitedFiles.{Below}
use Rattle.results.specs.ReadBack.{GoodInputs, GoodCall, call_lines, numbered_from}
use Rattle.results.specs.Audit.{entry_at, entries_at}
use Rattle.results.specs.AuditPage.{Audited, opened_sheet, entries_in, lines_at, places_kept, calls_at, calls_kept, shorter_text, ShorterTold}
use Rattle.results.proofs.provenance.Places.{kept_by_marks, kept_below}
use Rattle.results.proofs.reading.Journals.{EachGood, journal_rewritten}
use Rattle.results.proofs.reading.Parts.{read_open, read_call}
use Rattle.results.proofs.pages.Alike.{kept_alike}
use Rattle.results.proofs.pages.Held.{sat, counted, marks_alike}

-- ---- an open that was told was accepted

abbrev WellOpened : Told → Type 0
WellOpened waiting = Unit
WellOpened (sits o at cs) = (open_of (inputs_written o)).answer ≡ Ok tt
WellOpened ended = Unit

opened_well :
    (n : ℕ) (o : WrittenInputs) (v : Verdict) → (open_of (inputs_written o)).answer ≡ v → WellOpened (opened_told n o v)
opened_well n o (Ok _) e = e
opened_well n o (Err why) e = tt

telling_well : (n : ℕ) (t : Told) (l : Line) → WellOpened t → WellOpened (telling n t l)
telling_well n waiting line.Blank h = tt
telling_well n waiting (line.Open o) h = opened_well n o (open_of (inputs_written o)).answer refl
telling_well n waiting (line.Call c) h = tt
telling_well n waiting (line.Wrong f) h = tt
telling_well n (sits o at cs) line.Blank h = h
telling_well n (sits o at cs) (line.Open p) h = tt
telling_well n (sits o at cs) (line.Call c) h = h
telling_well n (sits o at cs) (line.Wrong f) h = tt
telling_well n ended l h = tt

told_well : (n : ℕ) (t : Told) (ls : List (List ℕ)) → WellOpened t → WellOpened (told_from n t ls)
unfolding told_from
told_well n t [] h = h
told_well n t (l ∷ ls) h = told_well (suc n) (telling n t (line_in l)) ls (telling_well n t (line_in l) h)

-- ---- the calls at some places

abbrev call_by : WrittenCall → Call
call_by c = called (call_written c) blank

told_calls : (n : ℕ) (cs : List WrittenCall) → calls_told (numbered_from n cs) ≡ map call_by cs
unfolding calls_told numbered_from
told_calls n [] = refl
told_calls n (c ∷ cs) = ap (λ (l : List Call). call_by c ∷ l) (told_calls (suc n) cs)

calls_both : (l m : List Entry) → calls_of (l ++ m) ≡ calls_of l ++ calls_of m
unfolding calls_of
calls_both [] m = refl
calls_both (x ∷ l) m = ap (λ (k : List Call). x.call ∷ k) (calls_both l m)

-- in a run of them, the entries at these places have these calls
module _ (source : Source) where
  call_at :
      (cs : List Numbered) (w : Worksheet) (p : ℕ) → p < length cs →
      calls_of (entry_at (run source (calls_told cs) w).entries p) ≡ call_by (call_told cs p) ∷ []
  unfolding run calls_told entry_at calls_of
  call_at [] w p h = absurd (omega arith)
  call_at (x ∷ cs) w zero h = refl
  call_at (x ∷ cs) w (suc p) h = call_at cs (step source (call_by x.call) w).sheet p (omega arith)

  calls_at_law :
      (cs : List Numbered) (w : Worksheet) (ps : List ℕ) → Below (length cs) ps →
      calls_of (entries_at (run source (calls_told cs) w).entries ps) ≡ map call_by (calls_at cs ps)
  unfolding calls_at entries_at calls_of
  calls_at_law cs w [] h = refl
  calls_at_law cs w (p ∷ ps) h =
      let entries = (run source (calls_told cs) w).entries in
      calls_both (entry_at entries p) (entries_at entries ps)
      ∙ ap₂ ◌++◌ (call_at cs w p h.0) (calls_at_law cs w ps h.1)

-- ---- the lines at some places

module _
    (text starts : List ℕ) (cs : List Numbered)
    (reads : (p : ℕ) → p < length cs → ReadsAt text (number_at starts p) (line.Call (call_told cs p))) where
  lines_at_law : (ps : List ℕ) → Below (length cs) ps → lines_at text starts ps ≡ call_lines (calls_at cs ps)
  unfolding lines_at calls_at call_lines
  lines_at_law [] h = refl
  lines_at_law (p ∷ ps) h = ap₂ ◌++◌ (ap line_text (reads p h.0).said) (lines_at_law ps h.1)

  each_good : (ps : List ℕ) → Below (length cs) ps → EachGood (calls_at cs ps)
  unfolding calls_at
  each_good [] h c m = absurd (Memᴰ.not-nil m)
  each_good (p ∷ ps) h c m = go (each_good ps h.1) (Memᴰ.cases_cons m)
    where
      go : EachGood (calls_at cs ps) → (c ≡ call_told cs p) ⊎ Memᴰ c (calls_at cs ps) → GoodCall c
      go others (inl e) =
          read_call (line_at text (number_at starts p)) c ((reads p h.0).said ∙ ap line.Call (sym e))
      go others (inr k) = others c k

-- ---- THE SHORTER JOURNAL

module _ (a : Audited) where
  accepted_open : (open_of (inputs_written a.opening)).answer ≡ Ok tt
  unfolding told_by
  accepted_open = subst WellOpened a.told (told_well 1 waiting _ tt)

  reads_there :
      (p : ℕ) → p < length a.calls →
      ReadsAt a.text (number_at a.starts p) (line.Call (call_told a.calls p))
  reads_there p h = (sat a).starts_at p (omega (arith, (sat a).count)) (omega (arith, a.starts_room))

  places_below : Below (length a.calls) (places_kept a)
  places_below = subst (λ (n : ℕ). Below n (places_kept a)) (sat a).count (kept_below a.marks a.kept.count)

  open_good : GoodInputs a.opening
  open_good = read_open (line_at a.text a.kept.start) a.opening (sat a).start.said

  text_as : shorter_text a ≡ line_text (line.Open a.opening) ++ call_lines (calls_kept a)
  text_as =
      ap₂ ◌++◌ (ap line_text (sat a).start.said)
      (lines_at_law a.text a.starts a.calls reads_there (places_kept a) places_below)

  calls_good : EachGood (calls_kept a)
  calls_good = each_good a.text a.starts a.calls reads_there (places_kept a) places_below

  places_as : places_kept a ≡ kept_places (marks_of (entries_in a)) (length (entries_in a))
  places_as =
      kept_alike a.marks (marks_of (entries_in a)) a.kept.count (marks_alike a)
      ∙ ap (kept_places (marks_of (entries_in a))) (counted a)

  list_as : calls_told (numbered_from 2 (calls_kept a)) ≡ calls_of (shorter [] (entries_in a))
  list_as =
      told_calls 2 (calls_kept a)
      ∙ sym (calls_at_law a.source a.calls (opened_sheet a) (places_kept a) places_below)
      ∙ ap (λ (ps : List ℕ). calls_of (entries_at (entries_in a) ps)) places_as
      ∙ ap calls_of (sym (kept_by_marks a.source (opened_sheet a) (calls_told a.calls)))

  pub page_shorter : ShorterTold a
  page_shorter =
      record {
        written = text_as;
        told =
            ap (λ (t : List ℕ). told_by t (suc (length (calls_kept a)))) text_as
            ∙ journal_rewritten a.opening (calls_kept a) open_good calls_good accepted_open;
        shorter_list = list_as;
      }
