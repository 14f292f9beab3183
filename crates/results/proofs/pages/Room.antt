-- The shorter journal has no more calls than the journal: what it has so far, with the own calls of all
-- fresh drafts, is never more than the calls so far, of which each adds one at most. Assumes nothing.
use Rattle.std.proofs.Common.{ℕ, zero, suc, ◌+◌, ◌<◌, ◌≤◌, Bool, true, false, cond, ◌&&◌, ◌||◌, List, [], ◌∷◌, ◌++◌, ◌≡◌, refl, ap, ap₂, subst, ◌∙◌, arith, eqb, length, length-append, eqb-true, eq-eqb, ne_eqb}
use mathlib.Core.Bool.{and-false, false≢true}
use borrow.Author.Tests.{eqb-false}
use Rattle.maps.specs.declared.inputs.Inputs.{Inputs}
use Rattle.worksheet.specs.declared.inputs.Edit.{Edit}
use Rattle.worksheet.specs.declared.desks.Draft.{Draft}
use Rattle.worksheet.specs.declared.desks.Draft.TheVariants.{Closed, Fresh, Stale}
use Rattle.worksheet.specs.declared.desks.Worksheet.{Worksheet}
use Rattle.worksheet.specs.Desks.{draft_at}
use Rattle.worksheet.specs.Showing.{Source}
use Rattle.worksheet.specs.Journal.{Call, Role, beginning, ending, settling, belonging, returning, showing, role_of, Entry, accepted, role_in, good, step, entry_of, run, is_begin, is_own, begins, belongs, own, kept_for, shorter}
use Rattle.worksheet.proofs.drafts.Drafts.{FreshAt, closed_not_fresh}
use Rattle.worksheet.proofs.lists.Replay.{Local, sheet_of, Law}
use Rattle.worksheet.proofs.lists.Rules.{law}
use Rattle.auditing.specs.Marks.{marks_of, kept_places}
use Rattle.auditing.specs.Gathered.{calls_told}
use Rattle.results.specs.ExhibitedFiles.{Below}
use Rattle.results.specs.Audit.{entry_at, entries_at}
use Rattle.results.specs.AuditPage.{Audited, opened_sheet, entries_in, places_kept}
use Rattle.results.proofs.force.Tracked.{edits_stay}
use Rattle.results.proofs.provenance.Places.{kept_by_marks, kept_below}
use Rattle.results.proofs.pages.Alike.{kept_alike}
use Rattle.results.proofs.pages.Held.{sat, counted, marks_alike}

-- ---- sums

-- f 0 to f (k - 1)
total : (ℕ → ℕ) → ℕ → ℕ
total f zero = 0
total f (suc k) = total f k + f k

one_of : (f : ℕ → ℕ) (k n : ℕ) → n < k → f n ≤ total f k
unfolding total
one_of f zero n h = absurd (omega arith)
one_of f (suc k) n h = go (eqb n k) refl (one_of f k n)
  where
    go : (b : Bool) → eqb n k ≡ b → (n < k → f n ≤ total f k) → f n ≤ total f k + f k
    go true e below = omega (arith, ap f (eqb-true n k e))
    go false e below =
        let other = eqb-false n k e in
        let less : n < k = omega (arith, other) in
        omega (arith, below less)

no_more : (f g : ℕ → ℕ) (k : ℕ) → ((m : ℕ) → m < k → g m ≤ f m) → total g k ≤ total f k
unfolding total
no_more f g zero each = omega arith
no_more f g (suc k) each = omega (arith, each k (omega arith), no_more f g k (λ m h. each m (omega arith)))

one_more :
    (f g : ℕ → ℕ) (n k : ℕ) → ((m : ℕ) → eqb n m ≡ false → g m ≤ f m) → g n ≤ suc (f n) →
    total g k ≤ suc (total f k)
unfolding total
one_more f g n zero others its = omega arith
one_more f g n (suc k) others its = go (eqb n k) refl (one_more f g n k others its)
  where
    go : (b : Bool) → eqb n k ≡ b → total g k ≤ suc (total f k) → total g k + g k ≤ suc (total f k + f k)
    go true e below =
        let is = eqb-true n k e in
        let here : g k ≤ suc (f k) = subst (λ (m : ℕ). g m ≤ suc (f m)) is its in
        omega (arith, here, no_more f g k (λ m h. others m (ne_eqb n m (λ q. omega (arith, is, q, h)))))
    go false e below = omega (arith, below, others k e)

-- ---- the own calls of a desk's fresh draft

abbrev is_fresh : Draft → Bool
is_fresh Closed = false
is_fresh (Fresh x) = true
is_fresh (Stale x) = false

fresh_is : (d : Draft) → is_fresh d ≡ true → (x : Inputs) × (d ≡ Fresh x)
fresh_is Closed h = absurd (false≢true h)
fresh_is (Fresh x) h = (x, refl)
fresh_is (Stale x) h = absurd (false≢true h)

fresh_desk : (n : ℕ) (x : Inputs) (w : Worksheet) → FreshAt n x w → n < 5
unfolding draft_at
fresh_desk n x w h = go (eqb n 1) (eqb n 2) (eqb n 3) (eqb n 4) (eqb-true n 1) (eqb-true n 2) (eqb-true n 3) (eqb-true n 4) h
  where
    go :
        (a b c d : Bool) → (a ≡ true → n ≡ 1) → (b ≡ true → n ≡ 2) → (c ≡ true → n ≡ 3) → (d ≡ true → n ≡ 4) →
        cond a w.d1 (cond b w.d2 (cond c w.d3 (cond d w.d4 Closed))) ≡ Fresh x → n < 5
    go true b c d p q r s e = omega (arith, p refl)
    go false true c d p q r s e = omega (arith, q refl)
    go false false true d p q r s e = omega (arith, r refl)
    go false false false true p q r s e = omega (arith, s refl)
    go false false false false p q r s e = absurd (closed_not_fresh refl e)

-- how many calls a commit of desk n would bring along
abbrev due : List Entry → Worksheet → ℕ → ℕ
due past w n = cond (is_fresh (draft_at n w)) (length (own n past)) 0

-- all the desks' together
abbrev all_due : List Entry → Worksheet → ℕ
all_due past w = total (due past w) 5

due_fresh : (past : List Entry) (w : Worksheet) (n : ℕ) (x : Inputs) → FreshAt n x w → due past w n ≡ length (own n past)
due_fresh past w n x h = ap (λ (d : Draft). cond (is_fresh d) (length (own n past)) 0) h

-- where a draft is fresh only if one was
due_by :
    (l past : List Entry) (v w : Worksheet) (n k : ℕ) → length (own n l) ≤ length (own n past) + k →
    ((x : Inputs) → FreshAt n x v → (z : Inputs) × FreshAt n z w) → due l v n ≤ due past w n + k
due_by l past v w n k h was = go (is_fresh (draft_at n v)) refl
  where
    go : (b : Bool) → is_fresh (draft_at n v) ≡ b → cond b (length (own n l)) 0 ≤ due past w n + k
    go true e =
        let x = fresh_is (draft_at n v) e in
        let z = was x.0 x.1 in
        omega (arith, h, due_fresh past w n z.0 z.1)
    go false e = omega arith

due_most : (l : List Entry) (v : Worksheet) (n : ℕ) → due l v n ≤ length (own n l)
due_most l v n = go (is_fresh (draft_at n v))
  where
    go : (b : Bool) → cond b (length (own n l)) 0 ≤ length (own n l)
    go true = omega arith
    go false = omega arith

none_due : (l : List Entry) (v : Worksheet) (n : ℕ) → ((x : Inputs) → FreshAt n x v → ⊥) → due l v n ≤ 0
none_due l v n none = go (is_fresh (draft_at n v)) refl
  where
    go : (b : Bool) → is_fresh (draft_at n v) ≡ b → cond b (length (own n l)) 0 ≤ 0
    go true e = let x = fresh_is (draft_at n v) e in absurd (none x.0 x.1)
    go false e = omega arith

total_none : (k : ℕ) → total (λ (m : ℕ). 0) k ≤ 0
unfolding total
total_none zero = omega arith
total_none (suc k) = omega (arith, total_none k)

all_none : (l : List Entry) (v : Worksheet) → ((n : ℕ) (x : Inputs) → FreshAt n x v → ⊥) → all_due l v ≤ 0
all_none l v none =
    omega (arith, total_none 5, no_more (λ (m : ℕ). 0) (due l v) 5 (λ m h. none_due l v m (none m)))

-- ---- one call more

own_more : (n : ℕ) (past : List Entry) (y : Entry) → length (own n (y ∷ past)) ≤ length (own n past) + 1
unfolding own
own_more n past y = go (begins n y) (belongs n y)
  where
    go :
        (b o : Bool) →
        length (cond b (y ∷ []) (cond o (own n past ++ (y ∷ [])) (own n past))) ≤ length (own n past) + 1
    go true o = omega arith
    go false true = omega (arith, length-append (own n past) (y ∷ []))
    go false false = omega arith

own_begun : (n : ℕ) (past : List Entry) (y : Entry) → begins n y ≡ true → length (own n (y ∷ past)) ≡ 1
unfolding own
own_begun n past y p =
    ap (λ (z : Bool). length (cond z (y ∷ []) (cond (belongs n y) (own n past ++ (y ∷ [])) (own n past)))) p

module _ (source : Source) (past : List Entry) (w : Worksheet) (c : Call) where
  abbrev y : Entry
  y = entry_of source c w

  abbrev v : Worksheet
  v = sheet_of source c w

  -- what the shorter list has for the call, with what is due then, is at most one more than was due
  abbrev Room : Role → Type 0
  Room r = role_of c ≡ r → length (kept_for past r y) + all_due (y ∷ past) v ≤ suc (all_due past w)

  with_role :
      {A : Type 0} (h : Role → Bool → A) (r : Role) → role_of c ≡ r → (b : Bool) → accepted y.answer ≡ b →
      h (role_in y) (good y) ≡ h r b
  with_role h r e b a = ap₂ h e a

  own_stays : (n : ℕ) → begins n y ≡ false → belongs n y ≡ false → length (own n (y ∷ past)) ≤ length (own n past) + 0
  own_stays n p q = omega (arith, ap length (edits_stay n past y p q))

  -- nothing moved
  unmoved :
      v ≡ w → ((m : ℕ) → begins m y ≡ false) → ((m : ℕ) → belongs m y ≡ false) → all_due (y ∷ past) v ≤ all_due past w
  unmoved h p q =
      no_more (due past w) (due (y ∷ past) v) 5
      (λ m l.
      let was =
      due_by (y ∷ past) past v w m 0 (own_stays m (p m) (q m))
      (λ x f. (x, subst (λ (u : Worksheet). FreshAt m x u) h f)) in
      omega (arith, was))

  -- a call of desk n alone
  locally :
      (n : ℕ) → Local n w v → ((m : ℕ) → eqb n m ≡ false → (begins m y ≡ false) × (belongs m y ≡ false)) →
      due (y ∷ past) v n ≤ suc (due past w n) → all_due (y ∷ past) v ≤ suc (all_due past w)
  locally n loc other its =
      one_more (due past w) (due (y ∷ past) v) n 5
      (λ m t.
      let o = other m t in
      let was =
      due_by (y ∷ past) past v w m 0 (own_stays m o.0 o.1) (λ x f. (x, loc.others m x t f)) in
      omega (arith, was))
      its

  -- ---- each role

  begun_room : (n : ℕ) → Law source (beginning n) c w → (b : Bool) → accepted y.answer ≡ b → Room (beginning n)
  unfolding kept_for
  begun_room n l false a e =
      let rest =
      unmoved (l.refused a)
      (λ m. with_role (is_begin m) (beginning n) e false a ∙ and-false (eqb n m))
      (λ m. with_role (is_own m) (beginning n) e false a) in
      omega (arith, rest)
  begun_room n l true a e =
      let its : begins n y ≡ true =
      with_role (is_begin n) (beginning n) e true a ∙ ap (λ (z : Bool). z && true) (eq-eqb n n refl) in
      let rest =
      locally n (l.done a).local
      (λ m t. (
        with_role (is_begin m) (beginning n) e true a ∙ ap (λ (z : Bool). z && true) t,
        with_role (is_own m) (beginning n) e true a,
      ))
      (omega (arith, due_most (y ∷ past) v n, own_begun n past y its)) in
      omega (arith, rest)

  own_room :
      (n : ℕ) (even : Bool) (es : List Edit) → Law source (belonging n even es) c w →
      (b : Bool) → (even || accepted y.answer) ≡ b → Room (belonging n even es)
  unfolding kept_for
  own_room n even es l false a e =
      let rest =
      unmoved (l.refused a)
      (λ m. with_role (is_begin m) (belonging n even es) e _ refl)
      (λ m. with_role (is_own m) (belonging n even es) e _ refl ∙ ap (λ (z : Bool). eqb n m && z) a ∙ and-false (eqb n m)) in
      omega (arith, rest)
  own_room n even es l true a e =
      let d = l.done a in
      let r = belonging n even es in
      let more = due_by (y ∷ past) past v w n 1 (own_more n past y) (λ x f. let z = d.alike x f in (z.0, z.1)) in
      let rest =
      locally n d.local
      (λ m t. (
        with_role (is_begin m) r e _ refl,
        with_role (is_own m) r e _ refl ∙ ap (λ (z : Bool). z && (even || good y)) t,
      ))
      (omega (arith, more)) in
      omega (arith, rest)

  ended_room : (n : ℕ) → Law source (ending n) c w → (b : Bool) → accepted y.answer ≡ b → Room (ending n)
  unfolding kept_for
  ended_room n l false a e =
      let rest =
      unmoved (l.refused a)
      (λ m. with_role (is_begin m) (ending n) e false a)
      (λ m. with_role (is_own m) (ending n) e false a) in
      omega (arith, rest)
  ended_room n l true a e =
      let d = l.done a in
      let rest =
      locally n d.local
      (λ m t. (with_role (is_begin m) (ending n) e true a, with_role (is_own m) (ending n) e true a))
      (omega (arith, none_due (y ∷ past) v n d.none)) in
      omega (arith, rest)

  settled_room : (n : ℕ) → Law source (settling n) c w → (b : Bool) → accepted y.answer ≡ b → Room (settling n)
  unfolding kept_for
  settled_room n l false a e =
      let rest =
      unmoved (l.refused a)
      (λ m. with_role (is_begin m) (settling n) e false a)
      (λ m. with_role (is_own m) (settling n) e false a) in
      let kept : length (kept_for past (settling n) y) ≡ 0 =
      ap (λ (z : Bool). length (cond z (own n past ++ (y ∷ [])) [])) a in
      omega (arith, rest, kept)
  settled_room n l true a e =
      let d = l.done a in
      let kept : length (kept_for past (settling n) y) ≡ length (own n past) + 1 =
      ap (λ (z : Bool). length (cond z (own n past ++ (y ∷ [])) [])) a ∙ length-append (own n past) (y ∷ []) in
      let its = due_fresh past w n d.draft d.fresh in
      let among = one_of (due past w) 5 n (fresh_desk n d.draft w d.fresh) in
      omega (arith, kept, its, among, all_none (y ∷ past) v d.none)

  returned_room : Law source returning c w → (b : Bool) → accepted y.answer ≡ b → Room returning
  unfolding kept_for
  returned_room l false a e =
      let rest =
      unmoved (l.refused a)
      (λ m. with_role (is_begin m) returning e false a)
      (λ m. with_role (is_own m) returning e false a) in
      let kept : length (kept_for past returning y) ≡ 0 = ap (λ (z : Bool). length (cond z (y ∷ []) [])) a in
      omega (arith, rest, kept)
  returned_room l true a e =
      let kept : length (kept_for past returning y) ≡ 1 = ap (λ (z : Bool). length (cond z (y ∷ []) [])) a in
      omega (arith, kept, all_none (y ∷ past) v (l.done a).none)

  shown_room : Law source showing c w → Room showing
  unfolding kept_for
  shown_room l e =
      let rest =
      unmoved l.same
      (λ m. with_role (is_begin m) showing e _ refl)
      (λ m. with_role (is_own m) showing e _ refl) in
      omega (arith, rest)

  by_role : (r : Role) → Law source r c w → Room r
  by_role (beginning n) l = begun_room n l (accepted y.answer) refl
  by_role (ending n) l = ended_room n l (accepted y.answer) refl
  by_role (settling n) l = settled_room n l (accepted y.answer) refl
  by_role (belonging n even es) l = own_room n even es l (even || accepted y.answer) refl
  by_role returning l = returned_room l (accepted y.answer) refl
  by_role showing l = shown_room l

  room : length (kept_for past (role_in y) y) + all_due (y ∷ past) v ≤ suc (all_due past w)
  room = by_role (role_of c) (law source c w) refl

-- ---- the run

shorter_room :
    (source : Source) (cs : List Call) (past : List Entry) (w : Worksheet) →
    let entries = (run source cs w).entries in
    length (shorter past entries) ≤ all_due past w + length entries
unfolding run shorter
shorter_room source [] past w = omega arith
shorter_room source (c ∷ cs) past w =
    let y = entry_of source c w in
    let v = (step source c w).sheet in
    let both = length-append (kept_for past (role_in y) y) (shorter (y ∷ past) (run source cs v).entries) in
    omega (arith, both, room source past w c, shorter_room source cs (y ∷ past) v)

-- no call, nothing due
start_due : (w : Worksheet) → all_due [] w ≤ 0
unfolding own
start_due w = omega (arith, total_none 5, no_more (λ (m : ℕ). 0) (due [] w) 5 (λ m h. due_most [] w m))

-- THE SHORTER LIST of a run is no longer than it
pub no_longer :
    (source : Source) (w : Worksheet) (cs : List Call) →
    let entries = (run source cs w).entries in
    length (shorter [] entries) ≤ length entries
no_longer source w cs = omega (arith, shorter_room source cs [] w, start_due w)

-- ---- by places

one_there : (l : List Entry) (k : ℕ) → k < length l → length (entry_at l k) ≡ 1
unfolding entry_at
one_there [] k h = absurd (omega arith)
one_there (x ∷ l) zero h = refl
one_there (x ∷ l) (suc k) h = one_there l k (omega arith)

all_there : (l : List Entry) (ks : List ℕ) → Below (length l) ks → length (entries_at l ks) ≡ length ks
unfolding entries_at
all_there l [] h = refl
all_there l (k ∷ ks) h =
    length-append (entry_at l k) (entries_at l ks) ∙ ap₂ ◌+◌ (one_there l k h.0) (all_there l ks h.1) ∙ omega arith

-- THE PLACES KEPT are no more than the calls
pub page_room : (a : Audited) → length (places_kept a) ≤ length a.calls
page_room a =
    let entries = entries_in a in
    let places = kept_places (marks_of entries) (length entries) in
    let same : places_kept a ≡ places =
    kept_alike a.marks (marks_of entries) a.kept.count (marks_alike a)
    ∙ ap (kept_places (marks_of entries)) (counted a) in
    let cs = calls_told a.calls in
    let w = opened_sheet a in
    let there = all_there entries places (kept_below (marks_of entries) (length entries)) in
    let kept = ap length (kept_by_marks a.source w cs) in
    omega (arith, ap length same, there, kept, no_longer a.source w cs, counted a, (sat a).count)
