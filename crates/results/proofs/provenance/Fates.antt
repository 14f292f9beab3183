-- The fate of a draft, looked for forwards through the marks, is that which the entries tell: by
-- going through the entries after its begin. Assumes nothing.
use Rattle.std.proofs.Common.{ℕ, suc, Bool, true, false, cond, ◌&&◌, List, [], ◌∷◌, ◌++◌, reverse, ◌≡◌, refl, sym, ap, ap₂, ◌∙◌, eqb, lit≤, length}
use mathlib.Core.Bool.{and_comm}
use mathlib.Core.List.{reverse-reverse}
use lib.ListN.{length-reverse}
use Rattle.worksheet.specs.Journal.{Call, begin, commit, cancel, change, take_back, show, showing, belonging, role_of, Entry, role_in, good}
use Rattle.auditing.specs.declared.marks.Fate.{Fate}
use Rattle.auditing.specs.declared.marks.Fate.TheVariants.{Stands, TakenBack, Cancelled}
use Rattle.auditing.specs.Provenance.{settled_by, fate_settled, open_by, fate_of}
use Rattle.auditing.specs.Marks.{sort_of, desk_of, marks_of, is_done, is_done_by, settled_from, fate_from}
use Rattle.results.proofs.provenance.Marking.{no_part, done_of, done_by_of, turned, mark_after}

-- ---- one call

module _ (settled at : ℕ) (rest : Fate) where
  abbrev settled_if : (nine eleven b : Bool) → Fate
  settled_if nine eleven b = cond (nine && b) (Stands settled) (cond (eleven && b) (TakenBack settled at) rest)

  show_settled : (m : ℕ) (b t : Bool) → rest ≡ settled_by settled at (cond t showing (belonging m true [])) b rest
  show_settled m b true = refl
  show_settled m b false = refl

  settled_test : (c : Call) (b : Bool) → settled_if (eqb (sort_of c) 9) (eqb (sort_of c) 11) b ≡ settled_by settled at (role_of c) b rest
  settled_test (begin n) b = refl
  settled_test (commit n) b = refl
  settled_test (cancel n) b = refl
  settled_test (change n e) b = ap₂ (λ (s t : Bool). settled_if s t b) (no_part e 9 (lit≤ tt)) (no_part e 11 (lit≤ tt))
  settled_test take_back b = refl
  settled_test (show n lent) b = show_settled n b (eqb n 0)

module _ (n at : ℕ) (settled rest : Fate) where
  abbrev open_if : (ten nine b : Bool) → ℕ → Fate
  open_if ten nine b m = cond ((ten && b) && eqb m n) (Cancelled at) (cond ((nine && b) && eqb m n) settled rest)

  show_open : (m : ℕ) (b t : Bool) → rest ≡ open_by n at (cond t showing (belonging m true [])) b settled rest
  show_open m b true = refl
  show_open m b false = refl

  open_test : (c : Call) (b : Bool) → open_if (eqb (sort_of c) 10) (eqb (sort_of c) 9) b (desk_of c) ≡ open_by n at (role_of c) b settled rest
  open_test (begin m) b = refl
  open_test (commit m) b = ap (λ (z : Bool). cond z settled rest) (and_comm b (eqb m n))
  open_test (cancel m) b = ap (λ (z : Bool). cond z (Cancelled at) rest) (and_comm b (eqb m n))
  open_test (change m e) b = ap₂ (λ (s t : Bool). open_if s t b m) (no_part e 10 (lit≤ tt)) (no_part e 9 (lit≤ tt))
  open_test take_back b = refl
  open_test (show m lent) b = show_open m b (eqb m 0)

-- ---- the entries after a begin

module _ (entries : List Entry) where
  settled_marks : (settled : ℕ) (past later : List Entry) → entries ≡ reverse past ++ later
      → settled_from (marks_of entries) settled (length past) (length later) ≡ fate_settled settled (length past) later
  unfolding settled_from fate_settled
  settled_marks settled past [] h = refl
  settled_marks settled past (x ∷ later) h =
      let at = length past in
      let rest = settled_from (marks_of entries) settled (suc at) (length later) in
      (λ i. let m = mark_after entries past later x h i in cond (is_done 9 m) (Stands settled) (cond (is_done 11 m) (TakenBack settled at) rest))
      ∙ (λ i. cond (done_of x 9 i) (Stands settled) (cond (done_of x 11 i) (TakenBack settled at) rest))
      ∙ settled_test settled at rest x.call (good x)
      ∙ ap (settled_by settled at (role_in x) (good x)) (settled_marks settled (x ∷ past) later (h ∙ sym (turned past later x)))

  fate_marks : (n : ℕ) (past later : List Entry) → entries ≡ reverse past ++ later
      → fate_from (marks_of entries) n (length past) (length later) ≡ fate_of n (length past) later
  unfolding fate_from fate_of
  fate_marks n past [] h = refl
  fate_marks n past (x ∷ later) h =
      let ms = marks_of entries in
      let at = length past in
      let next = h ∙ sym (turned past later x) in
      let settled = settled_from ms at (suc at) (length later) in
      let rest = fate_from ms n (suc at) (length later) in
      (λ i. let m = mark_after entries past later x h i in cond (is_done_by 10 n m) (Cancelled at) (cond (is_done_by 9 n m) settled rest))
      ∙ (λ i. cond (done_by_of x 10 n i) (Cancelled at) (cond (done_by_of x 9 n i) settled rest))
      ∙ open_test n at settled rest x.call (good x)
      ∙ ap₂ (open_by n at (role_in x) (good x)) (settled_marks at (x ∷ past) later next) (fate_marks n (x ∷ past) later next)

-- THE FATE of a draft, by marks
pub fate_by_marks : (n : ℕ) (front later : List Entry) (b : Entry)
    → fate_from (marks_of (front ++ (b ∷ later))) n (suc (length front)) (length later) ≡ fate_of n (suc (length front)) later
fate_by_marks n front later b =
    let entries = front ++ (b ∷ later) in
    let past = b ∷ reverse front in
    let whole : entries ≡ reverse past ++ later =
    ap (λ (l : List Entry). l ++ (b ∷ later)) (sym (reverse-reverse front)) ∙ sym (turned (reverse front) later b) in
    ap (λ (k : ℕ). fate_from (marks_of entries) n (suc k) (length later)) (sym (length-reverse front))
    ∙ fate_marks entries n past later whole
    ∙ ap (λ (k : ℕ). fate_of n (suc k) later) (length-reverse front)
