-- What is heard of lines is what they told: with every line more, by what the line is and what was
-- told before it. Assumes nothing.
use Rattle.std.proofs.Common.{Err, Ok, ℕ, suc, List, [], ◌∷◌, ◌++◌, append-nil, append_assoc, ◌≡◌, refl, sym, ap, subst, ◌∙◌, take}
use Rattle.base.specs.Refusal.{Verdict}
use Rattle.worksheet.specs.declared.desks.Worksheet.{Worksheet}
use Rattle.worksheet.specs.Desks.{open_of}
use Rattle.worksheet.specs.Showing.{Source}
use Rattle.worksheet.specs.Journal.{run}
use Rattle.wording.specs.declared.line.Fault.{Fault}
use Rattle.wording.specs.declared.line.Line.{Line}
use Rattle.wording.specs.declared.line.Line.TheVariants as line
use Rattle.wording.specs.declared.written.WrittenCall.{WrittenCall}
use Rattle.wording.specs.declared.written.WrittenInputs.{WrittenInputs}
use Rattle.wording.specs.Line.{line_in}
use Rattle.wording.specs.Written.{inputs_written}
use Rattle.listing.specs.Spoken.{spoken_verdict}
use Rattle.sitting.specs.declared.Sitting.{Sitting}
use Rattle.sitting.specs.declared.Sitting.TheVariants.{Waiting, Open, Ended}
use Rattle.sitting.specs.Sitting.{Hearing, sitting_after, opened_by, made_by, hear_open, hear_wrong, hear_call, hear_line, hearing}
use Rattle.auditing.specs.Gathered.{text_lines, Numbered, Told, waiting, sits, ended, opened_told, telling, told_from, told_by, calls_told, sheet_opened, run_told}
use Rattle.auditing.proofs.journals.Runs.{sheet_more}
use Rattle.results.specs.Heard.{IsWaiting, HasEnded, heard_from, heard_by, said_of, HeardRun}
use Rattle.results.proofs.hearings.Said.{answer_said, said_more}
use Rattle.results.proofs.hearings.Endings.{silent_line}

-- two hearings, the second on the sitting that the first left
abbrev after : Hearing → Hearing → Hearing
after g h = record { sitting = h.sitting; text = g.text ++ h.text }

wrong_ends : (n : ℕ) (f : Fault) (s : Sitting) → HasEnded (hear_wrong n f s).sitting
wrong_ends n f (Waiting w) = (w, refl)
wrong_ends n f (Open w) = (w, refl)
wrong_ends n f (Ended w) = (w, refl)

module _ (source : Source) (s : Sitting) (unopened : IsWaiting s) where
  -- of what was told, heard on the sitting s
  unfoldable pub HeardAs : Told → Hearing → Type 0
  HeardAs waiting h = (h.sitting ≡ s) × (h.text ≡ [])
  HeardAs (sits o at cs) h = HeardRun source o at cs h
  HeardAs ended h = HasEnded h.sitting

  -- ---- the first call

  opened_as_law :
      (n : ℕ) (o : WrittenInputs) (h : Hearing) → h.text ≡ [] → (v : Verdict) → (open_of (inputs_written o)).answer ≡ v →
      HeardAs (opened_told n o v) (after h (opened_by n o))
  unfolding HeardAs said_of run calls_told
  opened_as_law n o h e (Ok _) a =
      let w = open_of (inputs_written o) in
      record {
        sitting = ap (λ (v : Verdict). sitting_after v w.sheet) a;
        text =
            ap (λ (l : List ℕ). l ++ spoken_verdict n w.answer) e
            ∙ ap (spoken_verdict n) a
            ∙ sym (append-nil (spoken_verdict n (Ok tt)));
      }
  opened_as_law n o h e (Err why) a =
      (_, ap (λ (v : Verdict). sitting_after v (open_of (inputs_written o)).sheet) a)

  first_as :
      (n : ℕ) (h : Hearing) (l : Line) → h.sitting ≡ s → h.text ≡ [] →
      HeardAs (telling n waiting l) (after h (hear_line source n h.sitting l))
  unfolding HeardAs
  first_as n h line.Blank p e = (p, append-nil h.text ∙ e)
  first_as n h (line.Open o) p e =
      let v = (open_of (inputs_written o)).answer in
      subst (λ (x : Sitting). HeardAs (opened_told n o v) (after h (hear_open n o x))) (sym (p ∙ unopened.1))
      (opened_as_law n o h e v refl)
  first_as n h (line.Call c) p e =
      subst (λ (x : Sitting). HasEnded (hear_call source n c x).sitting) (sym (p ∙ unopened.1)) (_, refl)
  first_as n h (line.Wrong f) p e = wrong_ends n f h.sitting

  -- ---- a call after it

  made_as :
      (n : ℕ) (o : WrittenInputs) (at : ℕ) (cs : List Numbered) (c : WrittenCall) (h : Hearing) →
      HeardRun source o at cs h →
      HeardRun source o at (cs ++ (record { call = c; line = n } ∷ []))
      (after h (made_by source n c (run_told source o cs).sheet))
  made_as n o at cs c h g =
      let x : Numbered = record { call = c; line = n } in
      let opened = spoken_verdict at (Ok tt) in
      let said = said_of source (sheet_opened o) cs in
      let v = (run_told source o cs).sheet in
      record {
        sitting = ap (λ (w : Worksheet). Open w) (sym (sheet_more source o cs x));
        text =
            ap (λ (l : List ℕ). l ++ answer_said source x v) g.text
            ∙ append_assoc opened said (answer_said source x v)
            ∙ sym (ap (λ (l : List ℕ). opened ++ l) (said_more source (sheet_opened o) cs x));
      }

  next_as :
      (n : ℕ) (o : WrittenInputs) (at : ℕ) (cs : List Numbered) (h : Hearing) (l : Line) → HeardRun source o at cs h →
      HeardAs (telling n (sits o at cs) l) (after h (hear_line source n h.sitting l))
  unfolding HeardAs
  next_as n o at cs h line.Blank g =
      record { sitting = g.sitting; text = append-nil h.text ∙ g.text }
  next_as n o at cs h (line.Open p) g =
      subst (λ (x : Sitting). HasEnded (hear_open n p x).sitting) (sym g.sitting) (_, refl)
  next_as n o at cs h (line.Call c) g =
      let more = cs ++ (record { call = c; line = n } ∷ []) in
      subst (λ (x : Sitting). HeardRun source o at more (after h (hear_call source n c x)))
      (sym g.sitting) (made_as n o at cs c h g)
  next_as n o at cs h (line.Wrong f) g = wrong_ends n f h.sitting

  -- ---- lines

  line_as :
      (n : ℕ) (t : Told) (h : Hearing) (l : Line) → HeardAs t h →
      HeardAs (telling n t l) (after h (hear_line source n h.sitting l))
  unfolding HeardAs
  line_as n waiting h l g = first_as n h l g.0 g.1
  line_as n (sits o at cs) h l g = next_as n o at cs h l g
  line_as n ended h l g = (silent_line source n h.sitting l g).1

  lines_as :
      (n : ℕ) (t : Told) (h : Hearing) (ls : List (List ℕ)) → HeardAs t h →
      HeardAs (told_from n t ls) (after h (heard_from source n h.sitting ls))
  unfolding heard_from told_from hearing
  lines_as n t h [] g =
      subst (λ (l : List ℕ). HeardAs t (record { sitting = h.sitting; text = l })) (sym (append-nil h.text)) g
  lines_as n t h (l ∷ ls) g =
      let first = hearing source n h.sitting l in
      let others = heard_from source (suc n) first.sitting ls in
      subst (λ (x : List ℕ). HeardAs (told_from n t (l ∷ ls)) (record { sitting = others.sitting; text = x }))
      (append_assoc h.text first.text others.text)
      (lines_as (suc n) (telling n t (line_in l)) (after h first) ls (line_as n t h (line_in l) g))

  -- THE JOURNAL
  pub heard_as : (text : List ℕ) (k : ℕ) (t : Told) → told_by text k ≡ t → HeardAs t (heard_by source s text k)
  unfolding HeardAs told_by
  heard_as text k t e =
      subst (λ (x : Told). HeardAs x (heard_by source s text k)) e
      (lines_as 1 waiting (record { sitting = s; text = [] }) (take k (text_lines text)) (refl, refl))
