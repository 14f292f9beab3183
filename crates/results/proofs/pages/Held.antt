-- What the buffers of an audited journal hold, at the places of its calls, and the worksheet that was
-- opened: by taking apart what was gathered. Assumes nothing.
use Rattle.std.proofs.Common.{ℕ, ◌<◌, ◌≤◌, min, List, ◌∷◌, ◌++◌, ◌≡◌, refl, sym, ap, subst, ◌∙◌, arith, length, get_or, take, length-append, get_or-take}
use Rattle.worksheet.specs.Desks.{fresh_sheet, open_of}
use Rattle.worksheet.specs.Journal.{Entry}
use Rattle.worksheet.proofs.drafts.Drafts.{at_rest}
use Rattle.auditing.specs.Marks.{mark_of, marks_of, mark_at}
use Rattle.auditing.specs.Gathered.{Told, HoldsFirst, GatheredSits, GatheredAs}
use Rattle.auditing.specs.Accounts.{number_at}
use Rattle.auditing.proofs.journals.Runs.{entries_length}
use Rattle.results.specs.AuditPage.{Audited, opened_sheet, entries_in, lines_in}
use Rattle.results.proofs.provenance.Marking.{mark_there}
use Rattle.results.proofs.pages.Alike.{Alike}

held :
    (count : ℕ) (xs buffer : List ℕ) → count ≤ length buffer → HoldsFirst count xs buffer →
    (i : ℕ) → i < count → get_or buffer i 0 ≡ get_or xs i 0
held count xs buffer room h i below =
    let n : min count (length buffer) ≡ count = omega arith in
    let same : take count buffer ≡ take count xs =
    ap (λ (k : ℕ). take k buffer) (sym n) ∙ h ∙ ap (λ (k : ℕ). take k xs) n in
    sym (get_or-take count buffer i 0 below) ∙ ap (λ (l : List ℕ). get_or l i 0) same ∙ get_or-take count xs i 0 below

module _ (a : Audited) where
  pub sat :
      GatheredSits a.source a.text a.opening a.opened_at a.calls a.kept a.marks a.numbers a.starts
  unfolding GatheredAs
  sat =
      subst (λ (t : Told). GatheredAs a.source a.text t a.kept a.marks a.numbers a.starts)
      a.told a.gathered

  -- as many entries as calls
  pub counted : a.kept.count ≡ length (entries_in a)
  counted = sat.count ∙ sym (entries_length a.source a.opening a.calls)

  pub marks_alike : Alike a.marks (marks_of (entries_in a)) a.kept.count
  marks_alike =
      let room = a.marks_room in
      let count = sat.count in
      held a.kept.count (marks_of (entries_in a)) a.marks (omega arith) sat.marked

  pub lines_alike : (p : ℕ) → p < a.kept.count → number_at a.numbers p ≡ number_at (lines_in a) p
  lines_alike =
      let room = a.numbers_room in
      let count = sat.count in
      held a.kept.count (lines_in a) a.numbers (omega arith) sat.numbered

  -- a place among the entries is a call's
  pub place_below :
      (front later : List Entry) (x : Entry) → entries_in a ≡ front ++ (x ∷ later) → length front < a.kept.count
  place_below front later x e = omega (arith, counted, ap length e, length-append front (x ∷ later))

  -- the mark there is the entry's
  pub mark_held :
      (front later : List Entry) (x : Entry) → entries_in a ≡ front ++ (x ∷ later) →
      mark_at a.marks (length front) ≡ mark_of x
  mark_held front later x e =
      marks_alike (length front) (place_below front later x e)
      ∙ ap (λ (l : List Entry). mark_at (marks_of l) (length front)) e
      ∙ mark_there front later x

  -- the desks of a worksheet that was just opened are closed
  pub opened_rest : at_rest (opened_sheet a) ≡ opened_sheet a
  unfolding open_of fresh_sheet
  opened_rest = refl
