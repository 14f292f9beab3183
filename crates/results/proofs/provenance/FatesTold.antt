-- What became of a draft, and where its commit was last refused, as a split of the entries after its
-- begin tells it: by going through these entries, and back from the split. Assumes nothing.
use Rattle.std.proofs.Common.{None, Option, Some, ℕ, suc, ◌+◌, Bool, true, false, cond, not, ◌&&◌, List, [], ◌∷◌, ◌++◌, append-nil, ◌↔◌, ◌⊎◌, inl, inr, ◌≡◌, refl, sym, ap, ap₂, subst, ◌∙◌, add-zero, arith, eqb, length, length-append, eqb-true, eq-eqb}
use mathlib.Core.Bool.{false≢true}
use Rattle.worksheet.specs.Journal.{Call, commit, cancel, take_back, Role, beginning, ending, settling, belonging, returning, showing, role_of, Entry, role_in, good, none}
use Rattle.worksheet.proofs.drafts.Effects.{both_true}
use Rattle.auditing.specs.declared.marks.Fate.{Fate}
use Rattle.auditing.specs.declared.marks.Fate.TheVariants.{Stands, TakenBack, Cancelled, Never}
use Rattle.auditing.specs.Provenance.{settled_by, fate_settled, open_by, fate_of, is_ending, ends_draft, is_refusing, refused_of}
use Rattle.results.specs.Audit.{is_moving, moves, CancelledAt, TakenBackAt, EndsFirst, WhileOpen, refuses_commit, RefusedAt, NoneRefused}
use Rattle.results.proofs.lists.Kept.{none_first}
use Rattle.results.proofs.force.Unbroken.{call_for_law}
use Rattle.results.proofs.provenance.Standing.{goes_on}

-- ---- lists

none_more : (p : Entry → Bool) (x : Entry) (l : List Entry) → p x ≡ false → none p l ≡ true → none p (x ∷ l) ≡ true
unfolding none
none_more p x l e h = ap (λ (z : Bool). not z && none p l) e ∙ h

-- ---- after a commit at the place c

record Returned (at t : ℕ) (later : List Entry) : Type 0 where
  between : List Entry
  its_return : Entry
  after : List Entry
  split : later ≡ between ++ (its_return ∷ after)
  none_between : none moves between ≡ true
  is_return : its_return.call ≡ take_back
  returned : good its_return ≡ true
  place : at + length between ≡ t

-- what a fate says then
abbrev SettledSays : ℕ → ℕ → List Entry → Fate → Type 0
SettledSays c at later (Stands k) = Unit
SettledSays c at later (TakenBack k t) = (c ≡ k) × Returned at t later
SettledSays c at later (Cancelled p) = ⊥
SettledSays c at later Never = ⊥

settled_later :
    (c at : ℕ) (x : Entry) (later : List Entry) (f : Fate) → moves x ≡ false → SettledSays c (suc at) later f →
    SettledSays c at (x ∷ later) f
settled_later c at x later (Stands k) e s = tt
settled_later c at x later (TakenBack k t) e (same, s) = (
  same,
  record {
    between = x ∷ s.between;
    its_return = s.its_return;
    after = s.after;
    split = ap (λ (l : List Entry). x ∷ l) s.split;
    none_between = none_more moves x s.between e s.none_between;
    is_return = s.is_return;
    returned = s.returned;
    place = omega (arith, s.place);
  },
)
settled_later c at x later (Cancelled p) e s = s
settled_later c at x later Never e s = s

settled_told : (c at : ℕ) (later : List Entry) → SettledSays c at later (fate_settled c at later)
unfolding fate_settled none
settled_told c at [] = tt
settled_told c at (x ∷ later) = go (role_in x) (good x) refl refl (settled_told c (suc at) later)
  where
    rest : Fate
    rest = fate_settled c (suc at) later

    go :
        (r : Role) (b : Bool) → role_in x ≡ r → good x ≡ b → SettledSays c (suc at) later rest →
        SettledSays c at (x ∷ later) (settled_by c at r b rest)
    go (beginning n) b e g s = settled_later c at x later rest (ap₂ is_moving e g) s
    go (ending n) b e g s = settled_later c at x later rest (ap₂ is_moving e g) s
    go (settling n) true e g s = tt
    go (settling n) false e g s = settled_later c at x later rest (ap₂ is_moving e g) s
    go (belonging n even es) b e g s = settled_later c at x later rest (ap₂ is_moving e g) s
    go returning true e g s = (
      refl,
      record {
        between = [];
        its_return = x;
        after = later;
        split = refl;
        none_between = refl;
        is_return = call_for_law x.call take_back returning refl e;
        returned = g;
        place = add-zero at;
      },
    )
    go returning false e g s = settled_later c at x later rest (ap₂ is_moving e g) s
    go showing b e g s = settled_later c at x later rest (ap₂ is_moving e g) s

-- ---- after a begin

-- what a fate says then
abbrev FateSays : ℕ → ℕ → List Entry → Fate → Type 0
FateSays n at later (Stands c) = Unit
FateSays n at later (TakenBack c t) = TakenBackAt n at c t later
FateSays n at later (Cancelled p) = CancelledAt n at p later
FateSays n at later Never = none (ends_draft n) later ≡ true

module _ (n at : ℕ) (x : Entry) (later : List Entry) where
  one_later : (f : Fate) → ends_draft n x ≡ false → FateSays n (suc at) later f → FateSays n at (x ∷ later) f
  one_later (Stands c) e s = tt
  one_later (TakenBack c t) e s = record {
    before = x ∷ s.before;
    its_commit = s.its_commit;
    between = s.between;
    its_return = s.its_return;
    after = s.after;
    split = ap (λ (l : List Entry). x ∷ l) s.split;
    still_open = none_more (ends_draft n) x s.before e s.still_open;
    is_commit = s.is_commit;
    committed = s.committed;
    commit_place = omega (arith, s.commit_place);
    none_between = s.none_between;
    is_return = s.is_return;
    returned = s.returned;
    return_place = omega (arith, s.return_place);
  }
  one_later (Cancelled p) e s = record {
    before = x ∷ s.before;
    its_cancel = s.its_cancel;
    after = s.after;
    split = ap (λ (l : List Entry). x ∷ l) s.split;
    still_open = none_more (ends_draft n) x s.before e s.still_open;
    is_cancel = s.is_cancel;
    cancelled = s.cancelled;
    its_place = omega (arith, s.its_place);
  }
  one_later Never e s = none_more (ends_draft n) x later e s

  cancels_here : role_in x ≡ ending n → good x ≡ true → CancelledAt n at at (x ∷ later)
  unfolding none
  cancels_here e g = record {
    before = [];
    its_cancel = x;
    after = later;
    split = refl;
    still_open = refl;
    is_cancel = call_for_law x.call (cancel n) (ending n) refl e;
    cancelled = g;
    its_place = add-zero at;
  }

  settles_here :
      role_in x ≡ settling n → good x ≡ true → (f : Fate) → SettledSays at (suc at) later f →
      FateSays n at (x ∷ later) f
  unfolding none
  settles_here e g (Stands k) s = tt
  settles_here e g (TakenBack k t) (same, s) = record {
    before = [];
    its_commit = x;
    between = s.between;
    its_return = s.its_return;
    after = s.after;
    split = ap (λ (l : List Entry). x ∷ l) s.split;
    still_open = refl;
    is_commit = call_for_law x.call (commit n) (settling n) refl e;
    committed = g;
    commit_place = add-zero at ∙ same;
    none_between = s.none_between;
    is_return = s.is_return;
    returned = s.returned;
    return_place = omega (arith, s.place);
  }
  settles_here e g (Cancelled p) s = absurd s
  settles_here e g Never s = absurd s

  abbrev on : Fate
  on = fate_of n (suc at) later

  -- an end of desk m's draft, which is n's or not
  ends_or_not :
      (m : ℕ) (t b : Bool) → eqb m n ≡ t → good x ≡ b → ends_draft n x ≡ (t && b) → (f : Fate) →
      (m ≡ n → good x ≡ true → FateSays n at (x ∷ later) f) → FateSays n (suc at) later on →
      FateSays n at (x ∷ later) (cond (t && b) f on)
  ends_or_not m true true p q e f here s = here (eqb-true m n p) q
  ends_or_not m true false p q e f here s = one_later on e s
  ends_or_not m false b p q e f here s = one_later on e s

  by_role :
      (r : Role) → role_in x ≡ r → FateSays n (suc at) later on →
      FateSays n at (x ∷ later) (open_by n at r (good x) (fate_settled at (suc at) later) on)
  by_role (beginning m) e s = one_later on (ap (λ (r : Role). is_ending n r (good x)) e) s
  by_role (ending m) e s =
      ends_or_not m (eqb m n) (good x) refl refl (ap (λ (r : Role). is_ending n r (good x)) e) (Cancelled at)
      (λ p g. cancels_here (e ∙ ap ending p) g) s
  by_role (settling m) e s =
      ends_or_not m (eqb m n) (good x) refl refl (ap (λ (r : Role). is_ending n r (good x)) e)
      (fate_settled at (suc at) later)
      (λ p g. settles_here (e ∙ ap settling p) g (fate_settled at (suc at) later) (settled_told at (suc at) later)) s
  by_role (belonging m even es) e s = one_later on (ap (λ (r : Role). is_ending n r (good x)) e) s
  by_role returning e s = one_later on (ap (λ (r : Role). is_ending n r (good x)) e) s
  by_role showing e s = one_later on (ap (λ (r : Role). is_ending n r (good x)) e) s

fate_told : (n at : ℕ) (later : List Entry) → FateSays n at later (fate_of n at later)
unfolding fate_of none
fate_told n at [] = refl
fate_told n at (x ∷ later) = by_role n at x later (role_in x) refl (fate_told n (suc at) later)

-- ---- back from the split

passes :
    (n at : ℕ) (before rest : List Entry) → none (ends_draft n) before ≡ true →
    fate_of n at (before ++ rest) ≡ fate_of n (at + length before) rest
unfolding fate_of
passes n at [] rest h = ap (λ (k : ℕ). fate_of n k rest) (sym (add-zero at))
passes n at (y ∷ before) rest h =
    let f = none_first (ends_draft n) y before h in
    let place : suc at + length before ≡ at + length (y ∷ before) = omega arith in
    goes_on n at (role_in y) (good y) _ _ f.0
    ∙ passes n (suc at) before rest f.1
    ∙ ap (λ (k : ℕ). fate_of n k rest) place

still_settled : (c at : ℕ) (r : Role) (b : Bool) (f : Fate) → is_moving r b ≡ false → settled_by c at r b f ≡ f
still_settled c at (beginning n) b f h = refl
still_settled c at (ending n) b f h = refl
still_settled c at (settling n) b f h = ap (λ (z : Bool). cond z (Stands c) f) h
still_settled c at (belonging n even es) b f h = refl
still_settled c at returning b f h = ap (λ (z : Bool). cond z (TakenBack c at) f) h
still_settled c at showing b f h = refl

passes_settled :
    (c at : ℕ) (between rest : List Entry) → none moves between ≡ true →
    fate_settled c at (between ++ rest) ≡ fate_settled c (at + length between) rest
unfolding fate_settled
passes_settled c at [] rest h = ap (λ (k : ℕ). fate_settled c k rest) (sym (add-zero at))
passes_settled c at (y ∷ between) rest h =
    let f = none_first moves y between h in
    let place : suc at + length between ≡ at + length (y ∷ between) = omega arith in
    still_settled c at (role_in y) (good y) _ f.0
    ∙ passes_settled c (suc at) between rest f.1
    ∙ ap (λ (k : ℕ). fate_settled c k rest) place

cancelled_fate :
    (n at : ℕ) (x : Entry) (after : List Entry) → x.call ≡ cancel n → good x ≡ true →
    fate_of n at (x ∷ after) ≡ Cancelled at
unfolding fate_of
cancelled_fate n at x after is g =
    let on = fate_of n (suc at) after in
    ap₂ (λ (c : Call) (b : Bool). open_by n at (role_of c) b (fate_settled at (suc at) after) on) is g
    ∙ ap (λ (z : Bool). cond (z && true) (Cancelled at) on) (eq-eqb n n refl)

committed_fate :
    (n at : ℕ) (x : Entry) (after : List Entry) → x.call ≡ commit n → good x ≡ true →
    fate_of n at (x ∷ after) ≡ fate_settled at (suc at) after
unfolding fate_of
committed_fate n at x after is g =
    let on = fate_of n (suc at) after in
    let settled = fate_settled at (suc at) after in
    ap₂ (λ (c : Call) (b : Bool). open_by n at (role_of c) b settled on) is g
    ∙ ap (λ (z : Bool). cond (z && true) settled on) (eq-eqb n n refl)

returned_fate :
    (c at : ℕ) (x : Entry) (after : List Entry) → x.call ≡ take_back → good x ≡ true →
    fate_settled c at (x ∷ after) ≡ TakenBack c at
unfolding fate_settled
returned_fate c at x after is g =
    ap₂ (λ (k : Call) (b : Bool). settled_by c at (role_of k) b (fate_settled c (suc at) after)) is g

-- ---- CANCELLED, TAKEN BACK, NEVER ENDED

pub fate_cancelled :
    (n at p : ℕ) (later : List Entry) → (fate_of n at later ≡ Cancelled p) ↔ CancelledAt n at p later
fate_cancelled n at p later = (λ h. subst (FateSays n at later) h (fate_told n at later), back)
  where
    back : CancelledAt n at p later → fate_of n at later ≡ Cancelled p
    back s =
        ap (fate_of n at) s.split
        ∙ passes n at s.before (s.its_cancel ∷ s.after) s.still_open
        ∙ cancelled_fate n (at + length s.before) s.its_cancel s.after s.is_cancel s.cancelled
        ∙ ap Cancelled s.its_place

pub fate_taken_back :
    (n at c t : ℕ) (later : List Entry) → (fate_of n at later ≡ TakenBack c t) ↔ TakenBackAt n at c t later
fate_taken_back n at c t later = (λ h. subst (FateSays n at later) h (fate_told n at later), back)
  where
    back : TakenBackAt n at c t later → fate_of n at later ≡ TakenBack c t
    back s =
        let settled = at + length s.before in
        let place : suc settled + length s.between ≡ t =
        omega (arith, s.return_place, length-append s.before (s.its_commit ∷ s.between)) in
        let rest = s.its_return ∷ s.after in
        ap (fate_of n at) s.split
        ∙ passes n at s.before (s.its_commit ∷ (s.between ++ rest)) s.still_open
        ∙ committed_fate n settled s.its_commit (s.between ++ rest) s.is_commit s.committed
        ∙ passes_settled settled (suc settled) s.between rest s.none_between
        ∙ returned_fate settled (suc settled + length s.between) s.its_return s.after s.is_return s.returned
        ∙ ap₂ TakenBack s.commit_place place

pub fate_never :
    (n at : ℕ) (later : List Entry) → (fate_of n at later ≡ Never) ↔ (none (ends_draft n) later ≡ true)
unfolding fate_of
fate_never n at later = (
  λ h. subst (FateSays n at later) h (fate_told n at later),
  λ h. ap (fate_of n at) (sym (append-nil later)) ∙ passes n at later [] h,
)

-- ---- the last refused commit

never_at : {p : ℕ} → None ≡ Some p → ⊥
never_at q = let z : ◌≡◌ {A = ℕ} 0 1 = cc in omega arith

same_at : {p q : ℕ} → Some p ≡ Some q → p ≡ q
same_at e = cc

refusing_is : (n : ℕ) (r : Role) (b : Bool) → is_refusing n r b ≡ true → (r ≡ settling n) × (b ≡ false)
refusing_is n (beginning m) b h = absurd (false≢true h)
refusing_is n (ending m) b h = absurd (false≢true h)
refusing_is n (settling m) b h = let s = both_true (eqb m n) (not b) h in (ap settling (eqb-true m n s.0), go b s.1)
  where
    go : (t : Bool) → not t ≡ true → t ≡ false
    go true q = absurd (false≢true q)
    go false q = refl
refusing_is n (belonging m even es) b h = absurd (false≢true h)
refusing_is n returning b h = absurd (false≢true h)
refusing_is n showing b h = absurd (false≢true h)

module _ (n : ℕ) where
  -- one entry more, that does not end the draft
  open_later : (x : Entry) (later : List Entry) → ends_draft n x ≡ false → WhileOpen n later → WhileOpen n (x ∷ later)
  open_later x later e s = record {
    during = x ∷ s.during;
    after = s.after;
    split = ap (λ (l : List Entry). x ∷ l) s.split;
    still_open = none_more (ends_draft n) x s.during e s.still_open;
    then_ended = s.then_ended;
  }

  refused_later :
      (at p : ℕ) (x : Entry) (later : List Entry) → ends_draft n x ≡ false → RefusedAt n (suc at) p later →
      RefusedAt n at p (x ∷ later)
  unfolding open_later
  refused_later at p x later e s = record {
    while_open = open_later x later e s.while_open;
    before = x ∷ s.before;
    its_refusal = s.its_refusal;
    since = s.since;
    split = ap (λ (l : List Entry). x ∷ l) s.split;
    is_commit = s.is_commit;
    refused = s.refused;
    last = s.last;
    its_place = omega (arith, s.its_place);
  }

  -- there is none, or the last one
  abbrev Found : Option ℕ → ℕ → List Entry → Option ℕ → Type 0
  Found last at later r =
      (NoneRefused n later × (r ≡ last)) ⊎ ((p : ℕ) × RefusedAt n at p later × (r ≡ Some p))

  module _ (last : Option ℕ) (at : ℕ) (x : Entry) (later : List Entry) where
    refused_here :
        ends_draft n x ≡ false → refuses_commit n x ≡ true → NoneRefused n later → RefusedAt n at at (x ∷ later)
    unfolding open_later
    refused_here e h s =
        let is = refusing_is n (role_in x) (good x) h in
        record {
          while_open = open_later x later e s.while_open;
          before = [];
          its_refusal = x;
          since = s.while_open.during;
          split = refl;
          is_commit = call_for_law x.call (commit n) (settling n) refl is.0;
          refused = is.1;
          last = s.none_refused;
          its_place = add-zero at;
        }

    none_here : ends_draft n x ≡ false → refuses_commit n x ≡ false → NoneRefused n later → NoneRefused n (x ∷ later)
    unfolding open_later
    none_here e h s = record {
      while_open = open_later x later e s.while_open;
      none_refused = none_more (refuses_commit n) x s.while_open.during h s.none_refused;
    }

    goes_on_refused :
        ends_draft n x ≡ false → (b : Bool) → refuses_commit n x ≡ b → (r : Option ℕ) →
        Found (cond b (Some at) last) (suc at) later r → Found last at (x ∷ later) r
    goes_on_refused e true h r (inl (s, q)) = inr (at, refused_here e h s, q)
    goes_on_refused e false h r (inl (s, q)) = inl (none_here e h s, q)
    goes_on_refused e b h r (inr (p, s, q)) = inr (p, refused_later at p x later e s, q)

    ended_here : ends_draft n x ≡ true → NoneRefused n (x ∷ later)
    unfolding none
    ended_here e = record {
      while_open = record { during = []; after = x ∷ later; split = refl; still_open = refl; then_ended = e };
      none_refused = refl;
    }

    either :
        (t : Bool) → ends_draft n x ≡ t → (r : Option ℕ) →
        Found (cond (refuses_commit n x) (Some at) last) (suc at) later r →
        Found last at (x ∷ later) (cond t last r)
    either true e r s = inl (ended_here e, refl)
    either false e r s = goes_on_refused e (refuses_commit n x) refl r s

  found : (last : Option ℕ) (at : ℕ) (later : List Entry) → Found last at later (refused_of n last at later)
  unfolding refused_of none
  found last at [] = inl (
    record {
      while_open = record { during = []; after = []; split = refl; still_open = refl; then_ended = tt };
      none_refused = refl;
    },
    refl,
  )
  found last at (x ∷ later) =
      either last at x later (ends_draft n x) refl _
      (found (cond (refuses_commit n x) (Some at) last) (suc at) later)

  -- ---- back from the split

  unended :
      (last : Option ℕ) (at : ℕ) (x : Entry) (rest : List Entry) → ends_draft n x ≡ false →
      refused_of n last at (x ∷ rest) ≡ refused_of n (cond (refuses_commit n x) (Some at) last) (suc at) rest
  unfolding refused_of
  unended last at x rest e =
      ap (λ (z : Bool). cond z last (refused_of n (cond (refuses_commit n x) (Some at) last) (suc at) rest)) e

  ended_refused : (last : Option ℕ) (at : ℕ) (rest : List Entry) → EndsFirst n rest → refused_of n last at rest ≡ last
  unfolding refused_of
  ended_refused last at [] e = refl
  ended_refused last at (x ∷ rest) e =
      ap (λ (z : Bool). cond z last (refused_of n (cond (refuses_commit n x) (Some at) last) (suc at) rest)) e

  -- none since
  none_since :
      (last : Option ℕ) (at : ℕ) (since rest : List Entry) → none (ends_draft n) since ≡ true →
      none (refuses_commit n) since ≡ true → EndsFirst n rest → refused_of n last at (since ++ rest) ≡ last
  none_since last at [] rest h q e = ended_refused last at rest e
  none_since last at (x ∷ since) rest h q e =
      let f = none_first (ends_draft n) x since h in
      let g = none_first (refuses_commit n) x since q in
      unended last at x (since ++ rest) f.0
      ∙ ap (λ (z : Bool). refused_of n (cond z (Some at) last) (suc at) (since ++ rest)) g.0
      ∙ none_since last (suc at) since rest f.1 g.1 e

  -- the last one
  last_refused :
      (last : Option ℕ) (at : ℕ) (before since rest : List Entry) (x : Entry) →
      none (ends_draft n) (before ++ (x ∷ since)) ≡ true → x.call ≡ commit n → good x ≡ false →
      none (refuses_commit n) since ≡ true → EndsFirst n rest →
      refused_of n last at ((before ++ (x ∷ since)) ++ rest) ≡ Some (at + length before)
  last_refused last at [] since rest x h is g q e =
      let f = none_first (ends_draft n) x since h in
      let refuses : refuses_commit n x ≡ true =
      ap₂ (λ (c : Call) (b : Bool). is_refusing n (role_of c) b) is g ∙ ap (λ (z : Bool). z && true) (eq-eqb n n refl) in
      unended last at x (since ++ rest) f.0
      ∙ ap (λ (z : Bool). refused_of n (cond z (Some at) last) (suc at) (since ++ rest)) refuses
      ∙ none_since (Some at) (suc at) since rest f.1 q e
      ∙ ap Some (sym (add-zero at))
  last_refused last at (y ∷ before) since rest x h is g q e =
      let f = none_first (ends_draft n) y (before ++ (x ∷ since)) h in
      let place : suc at + length before ≡ at + length (y ∷ before) = omega arith in
      unended last at y ((before ++ (x ∷ since)) ++ rest) f.0
      ∙ last_refused (cond (refuses_commit n y) (Some at) last) (suc at) before since rest x f.1 is g q e
      ∙ ap Some place

-- ---- LAST REFUSED, NEVER REFUSED

pub refused_last :
    (n at p : ℕ) (later : List Entry) →
    (refused_of n None at later ≡ Some p) ↔ RefusedAt n at p later
refused_last n at p later = (λ h. go (found n None at later) h, back)
  where
    go :
        Found n None at later (refused_of n None at later) →
        refused_of n None at later ≡ Some p → RefusedAt n at p later
    go (inl (s, q)) h = absurd (never_at (sym q ∙ h))
    go (inr (k, s, q)) h = subst (λ (i : ℕ). RefusedAt n at i later) (same_at (sym q ∙ h)) s

    back : RefusedAt n at p later → refused_of n None at later ≡ Some p
    back s =
        let o = s.while_open in
        let open_too : none (ends_draft n) (s.before ++ (s.its_refusal ∷ s.since)) ≡ true =
        ap (none (ends_draft n)) (sym s.split) ∙ o.still_open in
        ap (refused_of n None at) (o.split ∙ ap (λ (l : List Entry). l ++ o.after) s.split)
        ∙ last_refused n None at s.before s.since o.after s.its_refusal open_too s.is_commit
        s.refused s.last o.then_ended
        ∙ ap Some s.its_place

pub refused_never :
    (n at : ℕ) (later : List Entry) → (refused_of n None at later ≡ None) ↔ NoneRefused n later
refused_never n at later = (λ h. go (found n None at later) h, back)
  where
    go :
        Found n None at later (refused_of n None at later) →
        refused_of n None at later ≡ None → NoneRefused n later
    go (inl (s, q)) h = s
    go (inr (k, s, q)) h = absurd (never_at (sym h ∙ q))

    back : NoneRefused n later → refused_of n None at later ≡ None
    back s =
        let o = s.while_open in
        ap (refused_of n None at) o.split
        ∙ none_since n None at o.during o.after o.still_open s.none_refused o.then_ended
