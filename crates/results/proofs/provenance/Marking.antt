-- A mark gives back the sort, the acceptance and the desk of its call, so that tests of marks are
-- tests of entries; and each entry's mark stands at its place. By arithmetic, and by going through
-- the kinds of call. Assumes nothing.
use Rattle.std.proofs.Common.{ℕ, ◌+◌, ◌*◌, ◌/◌, ◌%◌, ◌≤◌, ◌<◌, Bool, true, false, cond, ◌&&◌, ◌||◌, List, [], ◌∷◌, ◌++◌, reverse, append_assoc, append-nil, ◌≡◌, refl, sym, ap, ap₂, ◌∙◌, arith, eqb, ltb, lit<, lit≤, length, eqb-true, eq-eqb, ne_eqb, lt-ltb}
use mathlib.Core.Bool.{and_comm, and-false}
use mathlib.Core.List.{reverse-cons, reverse-reverse}
use lib.ListN.{length-reverse}
use borrow.Author.Tests.{eqb-false}
use Rattle.worksheet.specs.declared.inputs.Edit.{Edit}
use Rattle.worksheet.specs.declared.inputs.Edit.TheVariants.{Sunspot, Hour, Path, Psc, Pole, Month, Model}
use Rattle.worksheet.specs.Journal.{Call, begin, commit, cancel, change, take_back, show, Role, beginning, ending, settling, belonging, returning, showing, role_of, Entry, role_in, good, is_begin, is_own, begins, belongs}
use Rattle.auditing.specs.Provenance.{edit_part}
use Rattle.auditing.specs.Marks.{sort_of, desk_of, mark_with, mark_of, marks_of, mark_sort, mark_good, mark_desk, is_done, is_done_by, is_own_mark, mark_at}
use Rattle.results.specs.Audit.{entry_at}

-- ---- a mark taken apart

sort_back : (sort : ℕ) (b : Bool) (desk : ℕ) → sort < 16 → mark_sort (mark_with sort b desk) ≡ sort
sort_back sort true desk h = omega arith
sort_back sort false desk h = omega arith

good_back : (sort : ℕ) (b : Bool) (desk : ℕ) → sort < 16 → mark_good (mark_with sort b desk) ≡ b
good_back sort true desk h = eq-eqb ((sort + 16 + 32 * desk) / 16 % 2) 1 (omega arith)
good_back sort false desk h = ne_eqb ((sort + 0 + 32 * desk) / 16 % 2) 1 (λ q. omega arith)

desk_back : (sort : ℕ) (b : Bool) (desk : ℕ) → sort < 16 → mark_desk (mark_with sort b desk) ≡ desk
desk_back sort true desk h = omega arith
desk_back sort false desk h = omega arith

part_most : (e : Edit) → edit_part e < 8
part_most (Sunspot x) = lit< tt
part_most (Hour x) = lit< tt
part_most (Path p) = lit< tt
part_most (Psc p) = lit< tt
part_most (Pole p) = lit< tt
part_most (Month m) = lit< tt
part_most (Model m) = lit< tt

sort_most : (c : Call) → sort_of c < 16
sort_most (begin n) = lit< tt
sort_most (commit n) = lit< tt
sort_most (cancel n) = lit< tt
sort_most (change n e) = let h = part_most e in omega arith
sort_most take_back = lit< tt
sort_most (show n lent) = lit< tt

-- no change has a sort from 8 on
pub no_part : (e : Edit) (sort : ℕ) → 8 ≤ sort → eqb (edit_part e) sort ≡ false
no_part e sort h = let p = part_most e in ne_eqb (edit_part e) sort (λ q. omega arith)

module _ (x : Entry) where
  pub sort_of_law : mark_sort (mark_of x) ≡ sort_of x.call
  unfolding mark_of
  sort_of_law = sort_back _ (good x) _ (sort_most x.call)

  pub good_of : mark_good (mark_of x) ≡ good x
  unfolding mark_of
  good_of = good_back _ (good x) (desk_of x.call) (sort_most x.call)

  pub desk_of_law : mark_desk (mark_of x) ≡ desk_of x.call
  unfolding mark_of
  desk_of_law = desk_back _ (good x) _ (sort_most x.call)

  pub done_of : (sort : ℕ) → is_done sort (mark_of x) ≡ (eqb (sort_of x.call) sort && good x)
  done_of sort = ap₂ (λ (s : ℕ) (b : Bool). eqb s sort && b) sort_of_law good_of

  pub done_by_of : (sort n : ℕ) → is_done_by sort n (mark_of x) ≡ ((eqb (sort_of x.call) sort && good x) && eqb (desk_of x.call) n)
  done_by_of sort n = ap₂ (λ (b : Bool) (d : ℕ). b && eqb d n) (done_of sort) desk_of_law

-- ---- tests of marks are tests of entries

-- a showing of the worksheet or of a desk begins nothing
show_begins : (n m : ℕ) (b t : Bool) → is_begin n (cond t showing (belonging m true [])) b ≡ false
show_begins n m b true = refl
show_begins n m b false = refl

begin_test : (n : ℕ) (c : Call) (b : Bool) → ((eqb (sort_of c) 8 && b) && eqb (desk_of c) n) ≡ is_begin n (role_of c) b
begin_test n (begin m) b = and_comm b (eqb m n)
begin_test n (commit m) b = refl
begin_test n (cancel m) b = refl
begin_test n (change m e) b = ap (λ (z : Bool). (z && b) && eqb m n) (no_part e 8 (lit≤ tt))
begin_test n take_back b = refl
begin_test n (show m lent) b = sym (show_begins n m b (eqb m 0))

pub begins_mark : (n : ℕ) (x : Entry) → is_done_by 8 n (mark_of x) ≡ begins n x
begins_mark n x = done_by_of x 8 n ∙ begin_test n x.call (good x)

-- of a desk, whose number is not 0: a showing of 0 has the desk 0, and belongs to no draft
show_own : (n m : ℕ) (b t : Bool) → eqb n 0 ≡ false → eqb m 0 ≡ t → (eqb m n && true) ≡ is_own n (cond t showing (belonging m true [])) b
show_own n m b true h e = ap (λ (z : Bool). z && true) (ne_eqb m n (λ p. eqb-false n 0 h (sym p ∙ eqb-true m 0 e)))
show_own n m b false h e = refl

own_test : (n : ℕ) → eqb n 0 ≡ false → (c : Call) (b : Bool)
    → (eqb (desk_of c) n && (eqb (sort_of c) 12 || (ltb (sort_of c) 8 && b))) ≡ is_own n (role_of c) b
own_test n h (begin m) b = and-false (eqb m n)
own_test n h (commit m) b = and-false (eqb m n)
own_test n h (cancel m) b = and-false (eqb m n)
own_test n h (change m e) b =
    ap₂ (λ (z t : Bool). eqb m n && (z || (t && b))) (no_part e 12 (lit≤ tt)) (lt-ltb (edit_part e) 8 (part_most e))
own_test n h take_back b = and-false (eqb 0 n)
own_test n h (show m lent) b = show_own n m b (eqb m 0) h refl

pub belongs_mark : (n : ℕ) → eqb n 0 ≡ false → (x : Entry) → is_own_mark n (mark_of x) ≡ belongs n x
belongs_mark n h x =
    (λ i. eqb (desk_of_law x i) n && (eqb (sort_of_law x i) 12 || (ltb (sort_of_law x i) 8 && good_of x i)))
    ∙ own_test n h x.call (good x)

-- ---- accepted commits and take-backs

-- a where the call is an accepted take-back, b of the desk where it is an accepted commit, else z
abbrev pub by_move : {A : Type 0} → A → (ℕ → A) → A → Role → Bool → A
by_move a b z (beginning n) good = z
by_move a b z (ending n) good = z
by_move a b z (settling n) good = cond good (b n) z
by_move a b z (belonging n even es) good = z
by_move a b z returning good = cond good a z
by_move a b z showing good = z

module _ {A : Type 0} (a : A) (b : ℕ → A) (z : A) where
  show_moves : (m : ℕ) (good t : Bool) → by_move a b z (cond t showing (belonging m true [])) good ≡ z
  show_moves m good true = refl
  show_moves m good false = refl

  move_test : (c : Call) (good : Bool)
      → cond (eqb (sort_of c) 11 && good) a (cond (eqb (sort_of c) 9 && good) (b (desk_of c)) z) ≡ by_move a b z (role_of c) good
  move_test (begin n) good = refl
  move_test (commit n) good = refl
  move_test (cancel n) good = refl
  move_test (change n e) good =
      ap₂ (λ (s t : Bool). cond (s && good) a (cond (t && good) (b n) z)) (no_part e 11 (lit≤ tt)) (no_part e 9 (lit≤ tt))
  move_test take_back good = refl
  move_test (show n lent) good = sym (show_moves n good (eqb n 0))

  pub moves_mark : (x : Entry) → let m = mark_of x in
      cond (is_done 11 m) a (cond (is_done 9 m) (b (mark_desk m)) z) ≡ by_move a b z (role_in x) (good x)
  moves_mark x =
      (λ i. cond (done_of x 11 i) a (cond (done_of x 9 i) (b (desk_of_law x i)) z))
      ∙ move_test x.call (good x)

-- ---- places

-- in the list of all entries, those of `past`, the latest first, stand at the first places
abbrev pub Reads : List Entry → List Entry → Type 0
Reads entries [] = Unit
Reads entries (x ∷ past) =
    (mark_at (marks_of entries) (length past) ≡ mark_of x) × (entry_at entries (length past) ≡ x ∷ []) × Reads entries past

pub mark_there : (front later : List Entry) (x : Entry) → mark_at (marks_of (front ++ (x ∷ later))) (length front) ≡ mark_of x
unfolding marks_of
mark_there [] later x = refl
mark_there (y ∷ front) later x = mark_there front later x

pub entry_there : (front later : List Entry) (x : Entry) → entry_at (front ++ (x ∷ later)) (length front) ≡ x ∷ []
unfolding entry_at
entry_there [] later x = refl
entry_there (y ∷ front) later x = entry_there front later x

-- the latest of `past` in its place among entries in their order
pub turned : (past later : List Entry) (x : Entry) → reverse (x ∷ past) ++ later ≡ reverse past ++ (x ∷ later)
turned past later x = ap (λ (k : List Entry). k ++ later) (reverse-cons x past) ∙ append_assoc (reverse past) (x ∷ []) later

-- the mark of the entry that stands after `past`
pub mark_after : (entries past later : List Entry) (x : Entry) → entries ≡ reverse past ++ (x ∷ later)
    → mark_at (marks_of entries) (length past) ≡ mark_of x
mark_after entries past later x h =
    ap₂ (λ (l : List Entry) (k : ℕ). mark_at (marks_of l) k) h (sym (length-reverse past)) ∙ mark_there (reverse past) later x

reads : (entries past later : List Entry) → entries ≡ reverse past ++ later → Reads entries past
reads entries [] later h = tt
reads entries (x ∷ past) later h =
    let here : entries ≡ reverse past ++ (x ∷ later) = h ∙ turned past later x in (
      mark_after entries past later x here,
      ap₂ entry_at here (sym (length-reverse past)) ∙ entry_there (reverse past) later x,
      reads entries past (x ∷ later) here,
    )

pub reads_all : (entries : List Entry) → Reads entries (reverse entries)
reads_all entries = reads entries (reverse entries) [] (sym (append-nil (reverse (reverse entries)) ∙ reverse-reverse entries))
