-- The shorter list by the places kept: what it has for each entry is at the places that the marks
-- give, since an accepted commit of a run is of a desk; and all those places are below. Assumes
-- nothing.
use Rattle.std.proofs.Common.{ℕ, zero, suc, ◌≤◌, Bool, true, false, cond, ◌&&◌, ◌||◌, List, [], ◌∷◌, ◌++◌, reverse, append_assoc, append-nil, ◌≡◌, refl, sym, ap, ap₂, ◌∙◌, arith, eqb, leb, lit≤, length, leb-true, ne_eqb}
use mathlib.Core.Bool.{or-false}
use mathlib.Core.List.{reverse_aux}
use lib.ListN.{length-reverse}
use Rattle.base.specs.declared.refusal.Refusal.TheVariants.{Desk}
use Rattle.base.proofs.verdicts.Refusals.{passed}
use Rattle.worksheet.specs.declared.desks.Worksheet.{Worksheet}
use Rattle.worksheet.specs.Desks.{is_desk, desk_check}
use Rattle.worksheet.specs.Showing.{Source}
use Rattle.worksheet.specs.Journal.{Call, begin, commit, cancel, change, take_back, show, Role, beginning, ending, settling, belonging, returning, showing, role_of, Entry, accepted, role_in, good, step, entry_of, run, begins, belongs, own, kept_for, shorter}
use Rattle.worksheet.proofs.drafts.Effects.{both_true, committed}
use Rattle.auditing.specs.Marks.{sort_of, desk_of, mark_of, marks_of, mark_sort, mark_desk, is_done, is_done_by, is_own_mark, mark_at, own_places, kept_at, kept_places}
use Rattle.results.specs.ExhibitedFiles.{Below}
use Rattle.results.specs.Audit.{entry_at, entries_at}
use Rattle.results.proofs.files.GoodFiles.{below_append}
use Rattle.results.proofs.force.Unbroken.{commit_call}
use Rattle.results.proofs.provenance.Marking.{no_part, sort_of_law, desk_of_law, done_of, begins_mark, belongs_mark, Reads, reads_all}

-- ---- the shorter list, read backwards

kept_back : List Entry → List Entry
kept_back [] = []
kept_back (x ∷ past) = kept_back past ++ kept_for past (role_in x) x

kept_all : (later past : List Entry) → kept_back (reverse_aux later past) ≡ kept_back past ++ shorter past later
unfolding kept_back shorter
kept_all [] past = sym (append-nil (kept_back past))
kept_all (x ∷ later) past =
    kept_all later (x ∷ past) ∙ append_assoc (kept_back past) (kept_for past (role_in x) x) (shorter (x ∷ past) later)

-- ---- entries at places

at_both : (l : List Entry) (js ks : List ℕ) → entries_at l (js ++ ks) ≡ entries_at l js ++ entries_at l ks
unfolding entries_at
at_both l [] ks = refl
at_both l (j ∷ js) ks =
    ap (λ (m : List Entry). entry_at l j ++ m) (at_both l js ks) ∙ sym (append_assoc (entry_at l j) (entries_at l js) (entries_at l ks))

at_one : (l : List Entry) (j : ℕ) (x : Entry) → entry_at l j ≡ x ∷ [] → entries_at l (j ∷ []) ≡ x ∷ []
unfolding entries_at
at_one l j x h = append-nil (entry_at l j) ∙ h

-- ---- an accepted commit of a run is of a desk

abbrev Desked : List Entry → Type 0
Desked [] = Unit
Desked (x ∷ past) = ((n : ℕ) → role_in x ≡ settling n → good x ≡ true → eqb n 0 ≡ false) × Desked past

module _ (source : Source) where
  commit_desk : (c : Call) (w : Worksheet) (n : ℕ) → role_of c ≡ settling n → accepted (step source c w).answer ≡ true → eqb n 0 ≡ false
  unfolding desk_check
  commit_desk c w n r a =
      let is = commit_call n c r in
      let d = committed source n w (sym (ap (λ (k : Call). accepted (step source k w).answer) is) ∙ a) in
      let b = both_true (leb 1 n) (leb n 4) (passed (is_desk n) Desk d.desk) in
      let h = leb-true 1 n b.0 in
      ne_eqb n 0 (λ p. omega arith)

  run_desked : (cs : List Call) (past : List Entry) (w : Worksheet) → Desked past → Desked (reverse_aux (run source cs w).entries past)
  unfolding run
  run_desked [] past w d = d
  run_desked (c ∷ cs) past w d = run_desked cs (entry_of source c w ∷ past) (step source c w).sheet (commit_desk c w, d)

-- ---- own calls

module _ (entries : List Entry) (n : ℕ) (desk : eqb n 0 ≡ false) where
  own_at : (past : List Entry) → Reads entries past → entries_at entries (own_places (marks_of entries) n (length past)) ≡ own n past
  unfolding own_places own entries_at
  own_at [] reads = refl
  own_at (x ∷ past) reads =
      (λ i. let m = reads.0 i in entries_at entries (cond (is_done_by 8 n m) (j ∷ []) (cond (is_own_mark n m) (places ++ (j ∷ [])) places)))
      ∙ (λ i. entries_at entries (cond (begins_mark n x i) (j ∷ []) (cond (belongs_mark n desk x i) (places ++ (j ∷ [])) places)))
      ∙ pick (begins n x) (belongs n x) (own_at past reads.2)
    where
      j : ℕ
      j = length past

      places : List ℕ
      places = own_places (marks_of entries) n j

      one : entries_at entries (j ∷ []) ≡ x ∷ []
      one = at_one entries j x reads.1

      pick : (b o : Bool) → entries_at entries places ≡ own n past
          → entries_at entries (cond b (j ∷ []) (cond o (places ++ (j ∷ [])) places)) ≡ cond b (x ∷ []) (cond o (own n past ++ (x ∷ [])) (own n past))
      pick true o h = one
      pick false true h = at_both entries places (j ∷ []) ∙ ap₂ ◌++◌ h one
      pick false false h = h

-- ---- what is kept for a call

-- of an accepted commit, of an accepted take-back or a showing of the worksheet, of another call
abbrev by_kept : (ℕ → List ℕ) → List ℕ → Role → Bool → List ℕ
by_kept settled one (beginning n) b = []
by_kept settled one (ending n) b = []
by_kept settled one (settling n) b = cond b (settled n) []
by_kept settled one (belonging n even es) b = []
by_kept settled one returning b = cond b one []
by_kept settled one showing b = one

module _ (settled : ℕ → List ℕ) (one : List ℕ) where
  abbrev kept_if : (nine eleven twelve b : Bool) → ℕ → List ℕ
  kept_if nine eleven twelve b n = cond (nine && b) (settled n) (cond ((eleven && b) || (twelve && eqb n 0)) one [])

  show_kept : (m : ℕ) (b t : Bool) → cond t one [] ≡ by_kept settled one (cond t showing (belonging m true [])) b
  show_kept m b true = refl
  show_kept m b false = refl

  kept_test : (c : Call) (b : Bool) → let s = sort_of c in
      kept_if (eqb s 9) (eqb s 11) (eqb s 12) b (desk_of c) ≡ by_kept settled one (role_of c) b
  kept_test (begin n) b = refl
  kept_test (commit n) b = refl
  kept_test (cancel n) b = refl
  kept_test (change n e) b =
      λ i. kept_if (no_part e 9 (lit≤ tt) i) (no_part e 11 (lit≤ tt) i) (no_part e 12 (lit≤ tt) i) b n
  kept_test take_back b = ap (λ (z : Bool). cond z one []) (or-false b)
  kept_test (show n lent) b = show_kept n b (eqb n 0)

  kept_mark : (x : Entry) → let m = mark_of x in
      cond (is_done 9 m) (settled (mark_desk m)) (cond (is_done 11 m || (eqb (mark_sort m) 12 && eqb (mark_desk m) 0)) one [])
      ≡ by_kept settled one (role_in x) (good x)
  kept_mark x =
      (λ i. cond (done_of x 9 i) (settled (desk_of_law x i)) (cond (done_of x 11 i || (eqb (sort_of_law x i) 12 && eqb (desk_of_law x i) 0)) one []))
      ∙ kept_test x.call (good x)

module _ (entries past : List Entry) (x : Entry) (reads : Reads entries (x ∷ past)) where
  abbrev settled_at : ℕ → List ℕ
  settled_at n = own_places (marks_of entries) n (length past) ++ (length past ∷ [])

  one : entries_at entries (length past ∷ []) ≡ x ∷ []
  one = at_one entries (length past) x reads.1

  settled_at_law : (n : ℕ) → eqb n 0 ≡ false → entries_at entries (settled_at n) ≡ own n past ++ (x ∷ [])
  settled_at_law n h =
      at_both entries (own_places (marks_of entries) n (length past)) (length past ∷ []) ∙ ap₂ ◌++◌ (own_at entries n h past reads.2) one

  kept_for_law : ((n : ℕ) → role_in x ≡ settling n → good x ≡ true → eqb n 0 ≡ false) → (r : Role) → role_in x ≡ r
      → entries_at entries (by_kept settled_at (length past ∷ []) r (good x)) ≡ kept_for past r x
  unfolding kept_for entries_at
  kept_for_law desk (beginning n) e = refl
  kept_for_law desk (ending n) e = refl
  kept_for_law desk (settling n) e = go (good x) refl
    where
      go : (b : Bool) → good x ≡ b → entries_at entries (cond b (settled_at n) []) ≡ cond b (own n past ++ (x ∷ [])) []
      go true g = settled_at_law n (desk n e g)
      go false g = refl
  kept_for_law desk (belonging n even es) e = refl
  kept_for_law desk returning e = go (good x)
    where
      go : (b : Bool) → entries_at entries (cond b (length past ∷ []) []) ≡ cond b (x ∷ []) []
      go true = one
      go false = refl
  kept_for_law desk showing e = one

  kept_at_law : ((n : ℕ) → role_in x ≡ settling n → good x ≡ true → eqb n 0 ≡ false)
      → entries_at entries (kept_at (marks_of entries) (length past)) ≡ kept_for past (role_in x) x
  unfolding kept_at
  kept_at_law desk =
      let j = length past in
      (λ i. let m = reads.0 i in
      entries_at entries (cond (is_done 9 m) (settled_at (mark_desk m)) (cond (is_done 11 m || (eqb (mark_sort m) 12 && eqb (mark_desk m) 0)) (j ∷ []) [])))
      ∙ ap (entries_at entries) (kept_mark settled_at (j ∷ []) x)
      ∙ kept_for_law desk (role_in x) refl

kept_back_law : (entries past : List Entry) → Reads entries past → Desked past → entries_at entries (kept_places (marks_of entries) (length past)) ≡ kept_back past
unfolding kept_places kept_back entries_at
kept_back_law entries [] reads desked = refl
kept_back_law entries (x ∷ past) reads desked =
    at_both entries (kept_places (marks_of entries) (length past)) (kept_at (marks_of entries) (length past))
    ∙ ap₂ ◌++◌ (kept_back_law entries past reads.2 desked.1) (kept_at_law entries past x reads desked.0)

-- THE SHORTER LIST of a run is its entries at the places kept
pub kept_by_marks : (source : Source) (w : Worksheet) (cs : List Call)
    → let entries = (run source cs w).entries in
    shorter [] entries ≡ entries_at entries (kept_places (marks_of entries) (length entries))
unfolding kept_back
kept_by_marks source w cs =
    let entries = (run source cs w).entries in
    sym (kept_all entries [])
    ∙ sym (kept_back_law entries (reverse entries) (reads_all entries) (run_desked source cs [] w tt))
    ∙ ap (λ (k : ℕ). entries_at entries (kept_places (marks_of entries) k)) (length-reverse entries)

-- ---- all those places are below

below_more : (j k : ℕ) (l : List ℕ) → j ≤ k → Below j l → Below k l
below_more j k [] h b = tt
below_more j k (x ∷ l) h b = (omega (arith, b.0), below_more j k l h b.1)

module _ (ms : List ℕ) where
  own_below : (n j : ℕ) → Below j (own_places ms n j)
  unfolding own_places
  own_below n zero = tt
  own_below n (suc j) = pick (is_done_by 8 n (mark_at ms j)) (is_own_mark n (mark_at ms j)) (below_more j (suc j) (own_places ms n j) (omega arith) (own_below n j))
    where
      pick : (b o : Bool) → Below (suc j) (own_places ms n j)
          → Below (suc j) (cond b (j ∷ []) (cond o (own_places ms n j ++ (j ∷ [])) (own_places ms n j)))
      pick true o h = (omega arith, tt)
      pick false true h = below_append (suc j) (own_places ms n j) (j ∷ []) h (omega arith, tt)
      pick false false h = h

  kept_at_below : (j : ℕ) → Below (suc j) (kept_at ms j)
  unfolding kept_at
  kept_at_below j = pick (is_done 9 m) (is_done 11 m || (eqb (mark_sort m) 12 && eqb (mark_desk m) 0))
    where
      m : ℕ
      m = mark_at ms j

      mine : List ℕ
      mine = own_places ms (mark_desk m) j

      pick : (b o : Bool) → Below (suc j) (cond b (mine ++ (j ∷ [])) (cond o (j ∷ []) []))
      pick true o = below_append (suc j) mine (j ∷ []) (below_more j (suc j) mine (omega arith) (own_below (mark_desk m) j)) (omega arith, tt)
      pick false true = (omega arith, tt)
      pick false false = tt

  pub kept_below : (j : ℕ) → Below j (kept_places ms j)
  unfolding kept_places
  kept_below zero = tt
  kept_below (suc j) =
      below_append (suc j) (kept_places ms j) (kept_at ms j) (below_more j (suc j) (kept_places ms j) (omega arith) (kept_below j)) (kept_at_below j)
