-- The last refused commit of a draft, looked for forwards through the marks, is that which the entries
-- tell: by going through the entries after its begin. Assumes nothing.
use Rattle.std.proofs.Common.{Option, Some, ℕ, suc, Bool, true, false, cond, not, ◌&&◌, ◌||◌, List, [], ◌∷◌, ◌++◌, reverse, ◌≡◌, refl, sym, ap, ap₂, ◌∙◌, eqb, lit≤, length}
use mathlib.Core.Bool.{and_comm, or-false}
use mathlib.Core.List.{reverse-reverse}
use lib.ListN.{length-reverse}
use Rattle.worksheet.specs.Journal.{Call, begin, commit, cancel, change, take_back, show, showing, belonging, role_of, Entry, role_in, good}
use Rattle.auditing.specs.Provenance.{is_ending, ends_draft, is_refusing, refused_of}
use Rattle.auditing.specs.Marks.{sort_of, desk_of, marks_of, mark_of, is_done_by, is_refused_commit, refused_from}
use Rattle.results.proofs.provenance.Marking.{no_part, sort_of_law, good_of, desk_of_law, done_by_of, turned, mark_after}

-- ---- one call

module _ (n : ℕ) where
  abbrev end_if : (ten nine b : Bool) → ℕ → Bool
  end_if ten nine b m = ((ten && b) && eqb m n) || ((nine && b) && eqb m n)

  show_ends : (m : ℕ) (b t : Bool) → false ≡ is_ending n (cond t showing (belonging m true [])) b
  show_ends m b true = refl
  show_ends m b false = refl

  end_test : (c : Call) (b : Bool) → end_if (eqb (sort_of c) 10) (eqb (sort_of c) 9) b (desk_of c) ≡ is_ending n (role_of c) b
  end_test (begin m) b = refl
  end_test (commit m) b = and_comm b (eqb m n)
  end_test (cancel m) b = or-false (b && eqb m n) ∙ and_comm b (eqb m n)
  end_test (change m e) b = ap₂ (λ (s t : Bool). end_if s t b m) (no_part e 10 (lit≤ tt)) (no_part e 9 (lit≤ tt))
  end_test take_back b = refl
  end_test (show m lent) b = show_ends m b (eqb m 0)

  abbrev refused_if : (nine b : Bool) → ℕ → Bool
  refused_if nine b m = nine && not b && eqb m n

  show_refuses : (m : ℕ) (b t : Bool) → false ≡ is_refusing n (cond t showing (belonging m true [])) b
  show_refuses m b true = refl
  show_refuses m b false = refl

  refuse_test : (c : Call) (b : Bool) → refused_if (eqb (sort_of c) 9) b (desk_of c) ≡ is_refusing n (role_of c) b
  refuse_test (begin m) b = refl
  refuse_test (commit m) b = and_comm (not b) (eqb m n)
  refuse_test (cancel m) b = refl
  refuse_test (change m e) b = ap (λ (s : Bool). refused_if s b m) (no_part e 9 (lit≤ tt))
  refuse_test take_back b = refl
  refuse_test (show m lent) b = show_refuses m b (eqb m 0)

  refuses_mark : (x : Entry) → is_refused_commit n (mark_of x) ≡ is_refusing n (role_in x) (good x)
  refuses_mark x =
      (λ i. eqb (sort_of_law x i) 9 && not (good_of x i) && eqb (desk_of_law x i) n)
      ∙ refuse_test x.call (good x)

  ends_mark : (x : Entry) → (is_done_by 10 n (mark_of x) || is_done_by 9 n (mark_of x)) ≡ ends_draft n x
  ends_mark x = (λ i. done_by_of x 10 n i || done_by_of x 9 n i) ∙ end_test x.call (good x)

-- ---- the entries after a begin

module _ (entries : List Entry) (n : ℕ) where
  refused_marks :
      (last : Option ℕ) (past later : List Entry) → entries ≡ reverse past ++ later →
      refused_from (marks_of entries) n last (length past) (length later) ≡ refused_of n last (length past) later
  unfolding refused_from refused_of
  refused_marks last past [] h = refl
  refused_marks last past (x ∷ later) h =
      let ms = marks_of entries in
      let at = length past in
      let rest : Option ℕ → Option ℕ = λ r. refused_from ms n r (suc at) (length later) in
      (λ i.
      let m = mark_after entries past later x h i in
      cond (is_done_by 10 n m || is_done_by 9 n m) last (rest (cond (is_refused_commit n m) (Some at) last)))
      ∙ (λ i. cond (ends_mark n x i) last (rest (cond (refuses_mark n x i) (Some at) last)))
      ∙ ap (cond (ends_draft n x) last)
      (refused_marks (cond (is_refusing n (role_in x) (good x)) (Some at) last) (x ∷ past) later
      (h ∙ sym (turned past later x)))

-- THE LAST REFUSED COMMIT of a draft, by marks
pub refused_by_marks :
    (n : ℕ) (last : Option ℕ) (front later : List Entry) (b : Entry) →
    refused_from (marks_of (front ++ (b ∷ later))) n last (suc (length front)) (length later)
    ≡ refused_of n last (suc (length front)) later
refused_by_marks n last front later b =
    let entries = front ++ (b ∷ later) in
    let past = b ∷ reverse front in
    let whole : entries ≡ reverse past ++ later =
    ap (λ (l : List Entry). l ++ (b ∷ later)) (sym (reverse-reverse front)) ∙ sym (turned (reverse front) later b) in
    ap (λ (k : ℕ). refused_from (marks_of entries) n last (suc k) (length later)) (sym (length-reverse front))
    ∙ refused_marks entries n last past later whole
    ∙ ap (λ (k : ℕ). refused_of n last (suc k) later) (length-reverse front)
