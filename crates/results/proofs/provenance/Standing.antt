-- A draft's fate is that it stands exactly where it is the draft of a commit in force: its first
-- accepted cancel or commit decides, no draft is begun before that, and a commit's own draft was not
-- disturbed. Assumes nothing.
use Rattle.std.proofs.Common.{ℕ, suc, Bool, true, false, cond, not, ◌&&◌, List, [], ◌∷◌, ◌++◌, reverse, append_assoc, ◌↔◌, ◌≡◌, refl, sym, ap, ap₂, subst, ◌∙◌, arith, eqb, length, eqb-true, eq-eqb}
use mathlib.Core.Bool.{and-false, false≢true}
use mathlib.Core.List.{reverse_aux, reverse-reverse, append_cancel_left, tail-eq_of_cons-eq, Memᴰ}
use lib.ListN.{length-reverse}
use Rattle.worksheet.specs.declared.desks.Worksheet.{Worksheet}
use Rattle.worksheet.specs.Showing.{Source}
use Rattle.worksheet.specs.Journal.{Call, Role, beginning, ending, settling, belonging, returning, showing, Entry, role_in, good, run, begins, none}
use Rattle.worksheet.specs.InForce.{AcceptedCommit, taken_back_by, taken_back, left_by, commits_left, is_disturbing, disturbs}
use Rattle.worksheet.proofs.drafts.Drafts.{at_rest}
use Rattle.auditing.specs.declared.marks.Fate.{Fate}
use Rattle.auditing.specs.declared.marks.Fate.TheVariants.{Stands, TakenBack, Cancelled, Never}
use Rattle.auditing.specs.Provenance.{settled_by, fate_settled, open_by, fate_of, is_ending, ends_draft}
use Rattle.results.specs.Audit.{CommittedAt}
use Rattle.results.proofs.lists.Kept.{none_first}
use Rattle.results.proofs.force.Lasting.{commits_exactly}
use Rattle.results.proofs.force.Insured.{undisturbed_draft, commit_source}
use Rattle.results.proofs.force.Unbroken.{commit_call}
use Rattle.results.proofs.provenance.Named.{none_begun, back_to}
use Rattle.results.proofs.provenance.StillOpen.{begun_once}

-- ---- fates differ

same_place : {a b : ℕ} → Stands a ≡ Stands b → a ≡ b
same_place p = cc

never_stands : {b : ℕ} → Never ≡ Stands b → ⊥
never_stands p = let z : ◌≡◌ {A = ℕ} 0 1 = cc in omega arith

cancelled_stands : {a b : ℕ} → Cancelled a ≡ Stands b → ⊥
cancelled_stands p = let z : ◌≡◌ {A = ℕ} 0 1 = cc in omega arith

returned_stands : {a b c : ℕ} → TakenBack a b ≡ Stands c → ⊥
returned_stands p = let z : ◌≡◌ {A = ℕ} 0 1 = cc in omega arith

-- ---- after the commit

settled_stands : (settled at c : ℕ) (later : List Entry) → fate_settled settled at later ≡ Stands c → (settled ≡ c) × (taken_back later ≡ false)
unfolding fate_settled taken_back
settled_stands settled at c [] h = (same_place h, refl)
settled_stands settled at c (x ∷ later) h = go (role_in x) (good x) (settled_stands settled (suc at) c later) h
  where
    rest : Fate
    rest = fate_settled settled (suc at) later

    go : (r : Role) (b : Bool) → (rest ≡ Stands c → (settled ≡ c) × (taken_back later ≡ false))
        → settled_by settled at r b rest ≡ Stands c → (settled ≡ c) × (taken_back_by r b (taken_back later) ≡ false)
    go (beginning n) b below q = below q
    go (ending n) b below q = below q
    go (settling n) true below q = (same_place q, refl)
    go (settling n) false below q = below q
    go (belonging n even es) b below q = below q
    go returning true below q = absurd (returned_stands q)
    go returning false below q = below q
    go showing b below q = below q

stands_settled : (settled at : ℕ) (later : List Entry) → taken_back later ≡ false → fate_settled settled at later ≡ Stands settled
unfolding fate_settled taken_back
stands_settled settled at [] h = refl
stands_settled settled at (x ∷ later) h = go (role_in x) (good x) (stands_settled settled (suc at) later) h
  where
    rest : Fate
    rest = fate_settled settled (suc at) later

    go : (r : Role) (b : Bool) → (taken_back later ≡ false → rest ≡ Stands settled)
        → taken_back_by r b (taken_back later) ≡ false → settled_by settled at r b rest ≡ Stands settled
    go (beginning n) b below q = below q
    go (ending n) b below q = below q
    go (settling n) true below q = refl
    go (settling n) false below q = below q
    go (belonging n even es) b below q = below q
    go returning true below q = absurd (false≢true (sym q))
    go returning false below q = below q
    go showing b below q = below q

-- ---- up to the commit

-- of entries in their order after those of `past`: the first end of desk n's draft is a commit at
-- the place c that was not taken back
record Settled (n c : ℕ) (past later : List Entry) : Type 0 where
  between : List Entry
  its_commit : Entry
  after : List Entry
  split : later ≡ between ++ (its_commit ∷ after)
  still_open : none (ends_draft n) between ≡ true
  is_commit : role_in its_commit ≡ settling n
  committed : good its_commit ≡ true
  not_taken_back : taken_back after ≡ false
  place : length (reverse_aux between past) ≡ c

module _ (n c : ℕ) where
  one_more : (x : Entry) (past later : List Entry) → ends_draft n x ≡ false → Settled n c (x ∷ past) later → Settled n c past (x ∷ later)
  unfolding none
  one_more x past later e s = record {
    between = x ∷ s.between;
    its_commit = s.its_commit;
    after = s.after;
    split = ap (λ (l : List Entry). x ∷ l) s.split;
    still_open = ap (λ (z : Bool). not z && none (ends_draft n) s.between) e ∙ s.still_open;
    is_commit = s.is_commit;
    committed = s.committed;
    not_taken_back = s.not_taken_back;
    place = s.place;
  }

  module _ (x : Entry) (past later : List Entry) (below : fate_of n (suc (length past)) later ≡ Stands c → Settled n c (x ∷ past) later) where
    abbrev at : ℕ
    at = length past

    abbrev on : Fate
    on = fate_of n (suc at) later

    -- an end of desk m's draft, which is n's or not
    ends_or_not : (m : ℕ) (t b : Bool) → eqb m n ≡ t → good x ≡ b → ends_draft n x ≡ (t && b) → (f : Fate)
        → (eqb m n ≡ true → good x ≡ true → f ≡ Stands c → Settled n c past (x ∷ later))
        → cond (t && b) f on ≡ Stands c → Settled n c past (x ∷ later)
    ends_or_not m true true p q e f here h = here p q h
    ends_or_not m true false p q e f here h = one_more x past later e (below h)
    ends_or_not m false b p q e f here h = one_more x past later e (below h)

    settles_here : role_in x ≡ settling n → good x ≡ true → fate_settled at (suc at) later ≡ Stands c → Settled n c past (x ∷ later)
    unfolding none
    settles_here r g h =
        let s = settled_stands at (suc at) c later h in
        record {
          between = [];
          its_commit = x;
          after = later;
          split = refl;
          still_open = refl;
          is_commit = r;
          committed = g;
          not_taken_back = s.1;
          place = s.0;
        }

    by_role : (r : Role) → role_in x ≡ r → open_by n at r (good x) (fate_settled at (suc at) later) on ≡ Stands c → Settled n c past (x ∷ later)
    by_role (beginning m) e h = one_more x past later (ap (λ (r : Role). is_ending n r (good x)) e) (below h)
    by_role (ending m) e h =
        ends_or_not m (eqb m n) (good x) refl refl (ap (λ (r : Role). is_ending n r (good x)) e) (Cancelled at) (λ p g q. absurd (cancelled_stands q)) h
    by_role (settling m) e h =
        ends_or_not m (eqb m n) (good x) refl refl (ap (λ (r : Role). is_ending n r (good x)) e) (fate_settled at (suc at) later)
        (λ p g q. settles_here (e ∙ ap settling (eqb-true m n p)) g q) h
    by_role (belonging m even es) e h = one_more x past later (ap (λ (r : Role). is_ending n r (good x)) e) (below h)
    by_role returning e h = one_more x past later (ap (λ (r : Role). is_ending n r (good x)) e) (below h)
    by_role showing e h = one_more x past later (ap (λ (r : Role). is_ending n r (good x)) e) (below h)

  settled_at : (past later : List Entry) → fate_of n (length past) later ≡ Stands c → Settled n c past later
  unfolding fate_of
  settled_at past [] h = absurd (never_stands h)
  settled_at past (x ∷ later) h = by_role x past later (settled_at (x ∷ past) later) (role_in x) refl h

-- a call that does not end the draft decides nothing
pub goes_on : (n at : ℕ) (r : Role) (b : Bool) (f g : Fate) → is_ending n r b ≡ false → open_by n at r b f g ≡ g
goes_on n at (beginning m) b f g h = refl
goes_on n at (ending m) b f g h = ap (λ (z : Bool). cond z (Cancelled at) g) h
goes_on n at (settling m) b f g h = ap (λ (z : Bool). cond z f g) h
goes_on n at (belonging m even es) b f g h = refl
goes_on n at returning b f g h = refl
goes_on n at showing b f g h = refl

-- and the other way
module _ (n : ℕ) (x : Entry) (after : List Entry) (role : role_in x ≡ settling n) (committed : good x ≡ true) (kept : taken_back after ≡ false) where
  stands_at : (past between : List Entry) → none (ends_draft n) between ≡ true
      → fate_of n (length past) (between ++ (x ∷ after)) ≡ Stands (length (reverse_aux between past))
  unfolding fate_of
  stands_at past [] h =
      let at = length past in
      ap₂ (λ (r : Role) (b : Bool). open_by n at r b (fate_settled at (suc at) after) (fate_of n (suc at) after)) role committed
      ∙ ap (λ (z : Bool). cond (z && true) (fate_settled at (suc at) after) (fate_of n (suc at) after)) (eq-eqb n n refl)
      ∙ stands_settled at (suc at) after kept
  stands_at past (y ∷ between) h =
      let f = none_first (ends_draft n) y between h in
      goes_on n (length past) (role_in y) (good y) _ _ f.0 ∙ stands_at (y ∷ past) between f.1

-- ---- lists

begun_among : (n : ℕ) (k l : List Entry) (b : Entry) → begins n b ≡ true → none (begins n) (k ++ (b ∷ l)) ≡ true → ⊥
begun_among n [] l b p h = false≢true (sym (none_first (begins n) b l h).0 ∙ p)
begun_among n (y ∷ k) l b p h = begun_among n k l b p (none_first (begins n) y (k ++ (b ∷ l)) h).1

-- what stands since a desk's last begin
since_last : (n : ℕ) (front l : List Entry) (b : Entry) (front' l' : List Entry) (b' : Entry) → begins n b ≡ true → begins n b' ≡ true
    → none (begins n) l ≡ true → none (begins n) l' ≡ true → front ++ (b ∷ l) ≡ front' ++ (b' ∷ l') → l ≡ l'
since_last n [] l b [] l' b' p p' q q' h = tail-eq_of_cons-eq h
since_last n [] l b (z ∷ front') l' b' p p' q q' h =
    absurd (begun_among n front' l' b' p' (ap (none (begins n)) (sym (tail-eq_of_cons-eq h)) ∙ q))
since_last n (z ∷ front) l b [] l' b' p p' q q' h =
    absurd (begun_among n front l b p (ap (none (begins n)) (tail-eq_of_cons-eq h) ∙ q'))
since_last n (z ∷ front) l b (z' ∷ front') l' b' p p' q q' h = since_last n front l b front' l' b' p p' q q' (tail-eq_of_cons-eq h)

quiet_unended : (n : ℕ) (r : Role) (b : Bool) → is_disturbing n r b ≡ false → is_ending n r b ≡ false
quiet_unended n (beginning m) b h = refl
quiet_unended n (ending m) b h = h
quiet_unended n (settling m) b h = ap (λ (z : Bool). eqb m n && z) h ∙ and-false (eqb m n)
quiet_unended n (belonging m even es) b h = refl
quiet_unended n returning b h = refl
quiet_unended n showing b h = refl

none_ended : (n : ℕ) (l : List Entry) → none (disturbs n) l ≡ true → none (ends_draft n) l ≡ true
unfolding none
none_ended n [] h = refl
none_ended n (x ∷ l) h =
    let f = none_first (disturbs n) x l h in
    ap (λ (z : Bool). not z && none (ends_draft n) l) (quiet_unended n (role_in x) (good x) f.0) ∙ none_ended n l f.1

-- an accepted commit that was not taken back is among those left
left_member : (n : ℕ) (x : Entry) (after : List Entry) → role_in x ≡ settling n → good x ≡ true → taken_back after ≡ false
    → (past between : List Entry) → Memᴰ (record { desk = n; past = reverse_aux between past; entry = x }) (commits_left past (between ++ (x ∷ after)))
unfolding commits_left
left_member n x after r g k past [] =
    mathlib.Core.List.Memᴰ.append_right (commits_left (x ∷ past) after)
    (subst (λ (l : List AcceptedCommit). Memᴰ (record { desk = n; past = past; entry = x }) l)
    (sym (λ i. left_by past x (r i) (g i) (k i))) (mathlib.Core.List.Memᴰ.head refl))
left_member n x after r g k past (y ∷ between) =
    mathlib.Core.List.Memᴰ.append_left (left_by past y (role_in y) (good y) (taken_back (between ++ (x ∷ after)))) (left_member n x after r g k (y ∷ past) between)

-- ---- IT STANDS

module _ (source : Source) (w : Worksheet) (rest : at_rest w ≡ w) (cs : List Call) where
  abbrev entries : List Entry
  entries = (run source cs w).entries

  module _ (n c : ℕ) (front later : List Entry) (b : Entry) (split : entries ≡ front ++ (b ∷ later)) (begun : begins n b ≡ true) where
    abbrev past : List Entry
    past = b ∷ reverse front

    in_one : (between after : List Entry) (x : Entry) → front ++ (b ∷ (between ++ (x ∷ after))) ≡ (front ++ (b ∷ between)) ++ (x ∷ after)
    in_one between after x = sym (append_assoc front (b ∷ between) (x ∷ after))

    committed_at : Settled n c past later → CommittedAt w entries front b n c
    committed_at s =
        let l = front ++ (b ∷ s.between) in
        let x = s.its_commit in
        let all : entries ≡ front ++ (b ∷ (s.between ++ (x ∷ s.after))) = split ∙ ap (λ (k : List Entry). front ++ (b ∷ k)) s.split in
        let its : AcceptedCommit = record { desk = n; past = reverse l; entry = x } in
        let left : Memᴰ its (commits_left [] entries) =
        subst (λ (k : List Entry). Memᴰ its (commits_left [] k)) (sym (all ∙ in_one s.between s.after x))
        (left_member n x s.after s.is_commit s.committed s.not_taken_back [] l) in
        record {
          its_commit = its;
          in_force_law = subst (λ (k : List AcceptedCommit). Memᴰ its k) (sym (commits_exactly source w rest cs)) left;
          its_desk = refl;
          its_place = ap length (back_to front s.between b) ∙ s.place;
          between = s.between;
          split = reverse-reverse l;
          own_begin = begun_once source n cs w front s.between (x ∷ s.after) b all begun s.still_open;
        }

    standing_at_law : CommittedAt w entries front b n c → fate_of n (length past) later ≡ Stands c
    standing_at_law s =
        let k = s.its_commit in
        let x = k.entry in
        let its = commit_source source w rest cs k s.in_force_law in
        let role = its.is_commit ∙ ap settling s.its_desk in
        let d = undisturbed_draft source w rest cs (reverse k.past) its.after x n its.split (commit_call n x.call role) its.committed in
        let same : d.between ≡ s.between =
        since_last n d.front d.between d.own_begin front s.between b d.begun begun (none_begun n d.between d.quiet) s.own_begin
        (sym d.split ∙ s.split) in
        let unended : none (ends_draft n) s.between ≡ true = ap (none (ends_draft n)) (sym same) ∙ none_ended n d.between d.quiet in
        let all : front ++ (b ∷ later) ≡ front ++ (b ∷ (s.between ++ (x ∷ its.after))) =
        sym split ∙ its.split ∙ ap (λ (l : List Entry). l ++ (x ∷ its.after)) s.split ∙ sym (in_one s.between its.after x) in
        let on : later ≡ s.between ++ (x ∷ its.after) = tail-eq_of_cons-eq (append_cancel_left front _ _ all) in
        let place : length (reverse_aux s.between past) ≡ c =
        ap length (sym (back_to front s.between b) ∙ ap reverse (sym s.split) ∙ reverse-reverse k.past) ∙ s.its_place in
        ap (fate_of n (length past)) on
        ∙ stands_at n x its.after role its.committed its.not_taken_back past s.between unended
        ∙ ap Stands place

    -- THE DRAFT STANDS exactly where it is a commit's in force
    pub fate_stands : (fate_of n (suc (length front)) later ≡ Stands c) ↔ CommittedAt w entries front b n c
    fate_stands =
        let same : fate_of n (suc (length front)) later ≡ fate_of n (length past) later = ap (λ (k : ℕ). fate_of n (suc k) later) (sym (length-reverse front)) in
        (λ h. committed_at (settled_at n c past later (sym same ∙ h)), λ s. same ∙ standing_at_law s)
