-- The last call of a journal, its entry in the run and what the buffers hold of it: by cutting lists
-- before their last. Assumes nothing.
use Rattle.std.proofs.Common.{ℕ, suc, ◌-◌, ◌<◌, List, [], ◌∷◌, ◌++◌, ◌⊎◌, inl, inr, ◌≡◌, refl, sym, ap, ◌∙◌, arith, length, get_or, length-append}
use mathlib.Core.List.{head-eq_of_cons-eq, tail-eq_of_cons-eq}
use lib.Seq.{get_or-append_seam}
use Rattle.worksheet.specs.declared.desks.Worksheet.{Worksheet}
use Rattle.worksheet.specs.Showing.{Source}
use Rattle.worksheet.specs.Journal.{Entry, Run, run, entry_of}
use Rattle.auditing.specs.Marks.{mark_of, mark_at}
use Rattle.auditing.specs.Gathered.{Numbered, calls_told, numbers_told, run_told}
use Rattle.auditing.specs.Accounts.{number_at}
use Rattle.auditing.proofs.journals.Runs.{numbers_more, numbers_length, entries_length}
use Rattle.results.specs.AuditPage.{Audited, entries_in}
use Rattle.results.proofs.hearings.Said.{call_of, run_both}
use Rattle.results.proofs.pages.Held.{sat, lines_alike, mark_held}

-- ---- a list and its last

module _ {A : Type 0} where
  pub record Ends (l : List A) : Type 0 where
    pub front : List A
    pub last : A
    pub split : l ≡ front ++ (last ∷ [])

  -- a list is empty or has a last
  pub last_of_law : (l : List A) → (l ≡ []) ⊎ Ends l
  last_of_law [] = inl refl
  last_of_law (x ∷ l) = inr (go (last_of_law l))
    where
      go : (l ≡ []) ⊎ Ends l → Ends (x ∷ l)
      go (inl e) = record { front = []; last = x; split = ap (λ (m : List A). x ∷ m) e }
      go (inr s) =
          record { front = x ∷ s.front; last = s.last; split = ap (λ (m : List A). x ∷ m) s.split }

  -- equal lists have the same last
  pub last_same : (l m : List A) (x y : A) → l ++ (x ∷ []) ≡ m ++ (y ∷ []) → x ≡ y
  last_same [] [] x y h = head-eq_of_cons-eq h
  last_same [] (b ∷ m) x y h = absurd (omega (arith, ap length h, length-append m (y ∷ [])))
  last_same (b ∷ l) [] x y h = absurd (omega (arith, ap length h, length-append l (x ∷ [])))
  last_same (b ∷ l) (c ∷ m) x y h = last_same l m x y (tail-eq_of_cons-eq h)

-- ---- the last entry of a run

pub run_ends :
    (source : Source) (w : Worksheet) (cs : List Numbered) (x : Numbered) →
    (run source (calls_told (cs ++ (x ∷ []))) w).entries
    ≡ (run source (calls_told cs) w).entries ++ (entry_of source (call_of x) (run source (calls_told cs) w).sheet ∷ [])
unfolding run calls_told
run_ends source w cs x = run_both source w cs (x ∷ [])

-- ---- of an audited journal

module _ (a : Audited) (front : List Numbered) (x : Numbered) (split : a.calls ≡ front ++ (x ∷ [])) where
  abbrev before : Run
  before = run_told a.source a.opening front

  abbrev pub last_entry : Entry
  last_entry = entry_of a.source (call_of x) before.sheet

  pub entries_end : entries_in a ≡ before.entries ++ (last_entry ∷ [])
  entries_end =
      ap (λ (cs : List Numbered). (run_told a.source a.opening cs).entries) split
      ∙ run_ends a.source _ front x

  pub count_is : a.kept.count ≡ suc (length front)
  count_is = omega (arith, (sat a).count, ap length split, length-append front (x ∷ []))

  place_is : a.kept.count - 1 ≡ length front
  place_is = omega (arith, count_is)

  pub line_last : number_at a.numbers (a.kept.count - 1) ≡ x.line
  line_last =
      let n = length front in
      let below : n < a.kept.count = omega (arith, count_is) in
      ap (number_at a.numbers) place_is
      ∙ lines_alike a n below
      ∙ ap (λ (cs : List Numbered). number_at (numbers_told cs) n) split
      ∙ ap (λ (l : List ℕ). get_or l n 0) (numbers_more front x)
      ∙ ap (λ (k : ℕ). get_or (numbers_told front ++ (x.line ∷ [])) k 0) (sym (numbers_length front))
      ∙ get_or-append_seam (numbers_told front) x.line [] 0

  pub mark_last : mark_at a.marks (a.kept.count - 1) ≡ mark_of last_entry
  mark_last =
      ap (mark_at a.marks) (place_is ∙ sym (entries_length a.source a.opening front))
      ∙ mark_held a before.entries [] last_entry entries_end
