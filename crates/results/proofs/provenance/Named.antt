-- The change that is named for a part is the last standing one of it, and stands at its places: it is
-- an own change of a commit in force, whose draft was undisturbed, so it is found between the
-- draft's begin and the commit. Assumes nothing.
use Rattle.std.proofs.Common.{ℕ, ◌<◌, Bool, true, false, cond, not, ◌&&◌, List, [], ◌∷◌, ◌++◌, reverse, append_assoc, ◌⊎◌, inl, inr, ◌≡◌, refl, sym, ap, ap₂, subst, ◌∙◌, arith, eqb, length, length-append, eqb-true}
use mathlib.Core.Bool.{false≢true}
use mathlib.Core.List.{reverse_aux, reverse_aux-append, reverse-reverse, nil≢cons, head-eq_of_cons-eq, tail-eq_of_cons-eq, Memᴰ}
use lib.ListN.{length-reverse}
use Rattle.worksheet.specs.declared.inputs.Edit.{Edit}
use Rattle.worksheet.specs.declared.desks.Worksheet.{Worksheet}
use Rattle.worksheet.specs.Showing.{Source}
use Rattle.worksheet.specs.Journal.{Call, begin, commit, cancel, change, take_back, show, belonging, showing, role_of, Entry, role_in, good, run, is_begin, is_own, begins, belongs, none}
use Rattle.worksheet.specs.InForce.{edits_in, AcceptedCommit, commits_in_force, disturbs, CommitInForce, DraftUndisturbed}
use Rattle.worksheet.proofs.drafts.Drafts.{at_rest}
use Rattle.worksheet.proofs.drafts.Effects.{both_true}
use Rattle.auditing.specs.Provenance.{edit_part, StandingChange, standing_in, own_changes, standing_by, standing, last_of, last_standing}
use Rattle.results.specs.Audit.{none_of_part, StandsAt, LastOfPart}
use Rattle.results.proofs.lists.Kept.{none_first}
use Rattle.results.proofs.force.Tracked.{quiet_unbegun}
use Rattle.results.proofs.force.Insured.{undisturbed_draft, commit_source}
use Rattle.results.proofs.force.Unbroken.{commit_call}

-- ---- the last change of a part

module _ (part : ℕ) where
  -- there is none, or the last one
  abbrev Looked : List StandingChange → List StandingChange → Type 0
  Looked o l =
      ((none_of_part part l ≡ true) × (last_of part o l ≡ o))
      ⊎ ((x : StandingChange) × LastOfPart part x l × (last_of part o l ≡ x ∷ []))

  looked : (l o : List StandingChange) → Looked o l
  unfolding last_of none_of_part
  looked [] o = inl (refl, refl)
  looked (y ∷ l) o = of (eqb (edit_part y.edit) part) refl (looked l (cond (eqb (edit_part y.edit) part) (y ∷ []) o))
    where
      later : (x : StandingChange) → LastOfPart part x l → LastOfPart part x (y ∷ l)
      later x h = record {
        of_part = h.of_part;
        before = y ∷ h.before;
        later = h.later;
        split = ap (λ (k : List StandingChange). y ∷ k) h.split;
        last = h.last;
      }

      here : eqb (edit_part y.edit) part ≡ true → none_of_part part l ≡ true → LastOfPart part y (y ∷ l)
      here q n = record { of_part = eqb-true (edit_part y.edit) part q; before = []; later = l; split = refl; last = n }

      of : (b : Bool) → eqb (edit_part y.edit) part ≡ b → Looked (cond b (y ∷ []) o) l
          → ((not b && none_of_part part l ≡ true) × (last_of part (cond b (y ∷ []) o) l ≡ o))
          ⊎ ((x : StandingChange) × LastOfPart part x (y ∷ l) × (last_of part (cond b (y ∷ []) o) l ≡ x ∷ []))
      of true q (inl (n, e)) = inr (y, here q n, e)
      of true q (inr (x, h, e)) = inr (x, later x h, e)
      of false q (inl h) = inl h
      of false q (inr (x, h, e)) = inr (x, later x h, e)

  pub none_named : (l : List StandingChange) → last_of part [] l ≡ [] → none_of_part part l ≡ true
  none_named l h = go (looked l [])
    where
      go : Looked [] l → none_of_part part l ≡ true
      go (inl (n, e)) = n
      go (inr (x, last, e)) = absurd (nil≢cons (sym h ∙ e))

  named_last : (l others : List StandingChange) (x : StandingChange) → last_of part [] l ≡ x ∷ others → (others ≡ []) × LastOfPart part x l
  named_last l others x h = go (looked l [])
    where
      go : Looked [] l → (others ≡ []) × LastOfPart part x l
      go (inl (n, e)) = absurd (nil≢cons (sym e ∙ h))
      go (inr (y, last, e)) =
          let p = sym h ∙ e in
          (tail-eq_of_cons-eq p, subst (λ (z : StandingChange). LastOfPart part z l) (sym (head-eq_of_cons-eq p)) last)

-- ---- a standing change is one of a commit in force

commit_of_law : (x : StandingChange) (l : List AcceptedCommit) → Memᴰ x (standing_by l)
    → (c : AcceptedCommit) × Memᴰ c l × Memᴰ x (own_changes (length c.past) c.desk c.past)
unfolding standing_by
commit_of_law x [] h = absurd (mathlib.Core.List.Memᴰ.not-nil h)
commit_of_law x (c ∷ l) h = go (commit_of_law x l) (mathlib.Core.List.Memᴰ.append_cases (standing_by l) h)
  where
    go : (Memᴰ x (standing_by l) → (k : AcceptedCommit) × Memᴰ k l × Memᴰ x (own_changes (length k.past) k.desk k.past))
        → Memᴰ x (standing_by l) ⊎ Memᴰ x (own_changes (length c.past) c.desk c.past)
        → (k : AcceptedCommit) × Memᴰ k (c ∷ l) × Memᴰ x (own_changes (length k.past) k.desk k.past)
    go below (inl m) = let r = below m in (r.0, mathlib.Core.List.Memᴰ.tail r.1, r.2)
    go below (inr m) = (c, mathlib.Core.List.Memᴰ.head refl, m)

-- ---- where it stands among the entries since the draft's begin

-- of entries in their order after those of `past`: y made it
record Placed (n settled : ℕ) (x : StandingChange) (past later : List Entry) : Type 0 where
  front : List Entry
  its_change : Entry
  rest : List Entry
  split : later ≡ front ++ (its_change ∷ rest)
  is_own_law : belongs n its_change ≡ true
  is_change : Memᴰ x.edit (edits_in (role_in its_change))
  desk : x.desk ≡ n
  place : x.place ≡ length (reverse_aux front past)
  settled_at : x.settled ≡ settled

module _ (n settled : ℕ) (x : StandingChange) where
  -- one of an entry's changes
  made_here : (y : Entry) (past later : List Entry) → belongs n y ≡ true
      → (es : List Edit) → ((e : Edit) → Memᴰ e es → Memᴰ e (edits_in (role_in y)))
      → Memᴰ x (standing_in n (length past) settled es) → Placed n settled x past (y ∷ later)
  unfolding standing_in
  made_here y past later o [] sub h = absurd (mathlib.Core.List.Memᴰ.not-nil h)
  made_here y past later o (e ∷ es) sub h =
      go (made_here y past later o es (λ f m. sub f (mathlib.Core.List.Memᴰ.tail m))) (mathlib.Core.List.Memᴰ.cases_cons h)
    where
      go : (Memᴰ x (standing_in n (length past) settled es) → Placed n settled x past (y ∷ later))
          → (x ≡ record { edit = e; desk = n; place = length past; settled = settled }) ⊎ Memᴰ x (standing_in n (length past) settled es)
          → Placed n settled x past (y ∷ later)
      go below (inl p) = record {
        front = [];
        its_change = y;
        rest = later;
        split = refl;
        is_own_law = o;
        is_change = sub x.edit (subst (λ (z : Edit). Memᴰ z (e ∷ es)) (sym (ap (λ (z : StandingChange). z.edit) p)) (mathlib.Core.List.Memᴰ.head refl));
        desk = ap (λ (z : StandingChange). z.desk) p;
        place = ap (λ (z : StandingChange). z.place) p;
        settled_at = ap (λ (z : StandingChange). z.settled) p;
      }
      go below (inr m) = below m

  placed : (past later : List Entry) → none (begins n) later ≡ true → Memᴰ x (own_changes settled n (reverse_aux later past))
      → Memᴰ x (own_changes settled n past) ⊎ Placed n settled x past later
  unfolding own_changes
  placed past [] q h = inl h
  placed past (y ∷ later) q h =
      let f = none_first (begins n) y later q in
      deeper f.0 (placed (y ∷ past) later f.1 h)
    where
      here : (b o : Bool) → b ≡ false → belongs n y ≡ o
          → Memᴰ x (cond b [] (cond o (own_changes settled n past ++ standing_in n (length past) settled (edits_in (role_in y))) (own_changes settled n past)))
          → Memᴰ x (own_changes settled n past) ⊎ Placed n settled x past (y ∷ later)
      here true o p e m = absurd (mathlib.Core.List.Memᴰ.not-nil m)
      here false true p e m = either (mathlib.Core.List.Memᴰ.append_cases (own_changes settled n past) m)
        where
          either : Memᴰ x (own_changes settled n past) ⊎ Memᴰ x (standing_in n (length past) settled (edits_in (role_in y)))
              → Memᴰ x (own_changes settled n past) ⊎ Placed n settled x past (y ∷ later)
          either (inl k) = inl k
          either (inr k) = inr (made_here y past later e (edits_in (role_in y)) (λ f t. t) k)
      here false false p e m = inl m

      deeper : begins n y ≡ false → Memᴰ x (own_changes settled n (y ∷ past)) ⊎ Placed n settled x (y ∷ past) later
          → Memᴰ x (own_changes settled n past) ⊎ Placed n settled x past (y ∷ later)
      deeper p (inl m) = here (begins n y) (belongs n y) p refl m
      deeper p (inr k) = inr (record {
        front = y ∷ k.front;
        its_change = k.its_change;
        rest = k.rest;
        split = ap (λ (l : List Entry). y ∷ l) k.split;
        is_own_law = k.is_own_law;
        is_change = k.is_change;
        desk = k.desk;
        place = k.place;
        settled_at = k.settled_at;
      })

-- a draft that was just begun has none
just_begun : (settled n : ℕ) (b : Entry) (past : List Entry) → begins n b ≡ true → own_changes settled n (b ∷ past) ≡ []
unfolding own_changes
just_begun settled n b past h =
    let before = own_changes settled n past in
    ap (λ (z : Bool). cond z [] (cond (belongs n b) (before ++ standing_in n (length past) settled (edits_in (role_in b))) before)) h

-- ---- calls by their roles

pub begun_by : (n : ℕ) (c : Call) (b : Bool) → is_begin n (role_of c) b ≡ true → (c ≡ begin n) × (b ≡ true)
begun_by n (begin m) b h = let s = both_true (eqb m n) b h in (ap begin (eqb-true m n s.0), s.1)
begun_by n (commit m) b h = absurd (false≢true h)
begun_by n (cancel m) b h = absurd (false≢true h)
begun_by n (change m e) b h = absurd (false≢true h)
begun_by n take_back b h = absurd (false≢true h)
begun_by n (show m lent) b h = go (eqb m 0) h
  where
    go : (t : Bool) → is_begin n (cond t showing (belonging m true [])) b ≡ true → (show m lent ≡ begin n) × (b ≡ true)
    go true q = absurd (false≢true q)
    go false q = absurd (false≢true q)

changed_by : (n : ℕ) (e : Edit) (c : Call) (b : Bool) → is_own n (role_of c) b ≡ true → Memᴰ e (edits_in (role_of c)) → (c ≡ change n e) × (b ≡ true)
changed_by n e (begin m) b h k = absurd (false≢true h)
changed_by n e (commit m) b h k = absurd (false≢true h)
changed_by n e (cancel m) b h k = absurd (false≢true h)
changed_by n e (change m f) b h k =
    let s = both_true (eqb m n) b h in
    (ap₂ change (eqb-true m n s.0) (sym (mathlib.Core.List.Memᴰ.eq_of_singleton k)), s.1)
changed_by n e take_back b h k = absurd (false≢true h)
changed_by n e (show m lent) b h k = go (eqb m 0) k
  where
    go : (t : Bool) → Memᴰ e (edits_in (cond t showing (belonging m true []))) → (show m lent ≡ change n e) × (b ≡ true)
    go true q = absurd (mathlib.Core.List.Memᴰ.not-nil q)
    go false q = absurd (mathlib.Core.List.Memᴰ.not-nil q)

-- ---- lists

pub none_begun : (n : ℕ) (l : List Entry) → none (disturbs n) l ≡ true → none (begins n) l ≡ true
unfolding none
none_begun n [] h = refl
none_begun n (x ∷ l) h =
    let f = none_first (disturbs n) x l h in
    ap (λ (z : Bool). not z && none (begins n) l) (quiet_unbegun n (role_in x) (good x) f.0) ∙ none_begun n l f.1

none_both : (p : Entry → Bool) (l : List Entry) (y : Entry) (m : List Entry) → none p (l ++ (y ∷ m)) ≡ true → (none p l ≡ true) × (none p m ≡ true)
unfolding none
none_both p [] y m h = (refl, (none_first p y m h).1)
none_both p (x ∷ l) y m h =
    let f = none_first p x (l ++ (y ∷ m)) h in
    let r = none_both p l y m f.1 in
    (ap (λ (z : Bool). not z && none p l) f.0 ∙ r.0, r.1)

-- the entries of both, the latest first
pub back_to : (front later : List Entry) (b : Entry) → reverse (front ++ (b ∷ later)) ≡ reverse_aux later (b ∷ reverse front)
back_to front later b = reverse_aux-append front (b ∷ later) []

before_longer : (front l m : List Entry) (b y : Entry) → length (front ++ (b ∷ l)) < length (front ++ (b ∷ (l ++ (y ∷ m))))
before_longer front l m b y = omega (
  arith,
  length-append front (b ∷ l),
  length-append front (b ∷ (l ++ (y ∷ m))),
  length-append l (y ∷ m),
)

-- ---- IT STANDS

module _ (source : Source) (w : Worksheet) (rest : at_rest w ≡ w) (cs : List Call) where
  abbrev entries : List Entry
  entries = (run source cs w).entries

  module _ (x : StandingChange) (c : AcceptedCommit) (k : CommitInForce entries c) (d : DraftUndisturbed w c.desk (reverse c.past)) where
    abbrev b : Entry
    b = d.own_begin

    past_is : c.past ≡ reverse_aux d.between (b ∷ reverse d.front)
    past_is = sym (reverse-reverse c.past) ∙ ap reverse d.split ∙ back_to d.front d.between d.own_begin

    stands : Placed c.desk (length c.past) x (b ∷ reverse d.front) d.between → StandsAt entries x
    stands p =
        let n = c.desk in
        let quiet = none_both (disturbs n) p.front p.its_change p.rest (ap (none (disturbs n)) (sym p.split) ∙ d.quiet) in
        let begun = begun_by n b.call (good b) d.begun in
        let made = changed_by n x.edit p.its_change.call (good p.its_change) p.is_own_law p.is_change in
        let change_place : length (d.front ++ (b ∷ p.front)) ≡ x.place =
        sym (length-reverse (d.front ++ (b ∷ p.front))) ∙ ap length (back_to d.front p.front b) ∙ sym p.place in
        let whole : d.front ++ (b ∷ (p.front ++ (p.its_change ∷ p.rest))) ≡ reverse c.past =
        ap (λ (l : List Entry). d.front ++ (b ∷ l)) (sym p.split) ∙ sym d.split in
        let commit_place : length (d.front ++ (b ∷ (p.front ++ (p.its_change ∷ p.rest)))) ≡ x.settled =
        ap length whole ∙ length-reverse c.past ∙ sym p.settled_at in
        record {
          draft = record {
            desk = n;
            front = d.front;
            its_begin = b;
            to_change = p.front;
            its_change = p.its_change;
            to_commit = p.rest;
            its_commit = c.entry;
            after = k.after;
            in_order = k.split ∙ ap (λ (l : List Entry). l ++ (c.entry ∷ k.after)) (sym whole)
                ∙ append_assoc d.front (b ∷ (p.front ++ (p.its_change ∷ p.rest))) (c.entry ∷ k.after)
                ∙ ap (λ (l : List Entry). d.front ++ (b ∷ l)) (append_assoc p.front (p.its_change ∷ p.rest) (c.entry ∷ k.after));
            is_begin_law = begun.0;
            begun = begun.1;
            quiet_to_change = quiet.0;
            is_change = made.0;
            made = made.1;
            quiet_to_commit = quiet.1;
            is_commit = commit_call n c.entry.call k.is_commit;
            committed = k.committed;
            not_taken_back = k.not_taken_back;
          };
          its_desk = sym p.desk;
          change_place = change_place;
          commit_place = commit_place;
          change_first = subst (λ (l : ℕ). l < x.settled) change_place
              (subst (λ (l : ℕ). length (d.front ++ (b ∷ p.front)) < l) commit_place (before_longer d.front p.front p.rest b p.its_change));
        }

    its_draft : Memᴰ x (own_changes (length c.past) c.desk c.past) → StandsAt entries x
    its_draft m =
        let n = c.desk in
        go (placed n (length c.past) x (b ∷ reverse d.front) d.between (none_begun n d.between d.quiet)
        (subst (λ (l : List Entry). Memᴰ x (own_changes (length c.past) n l)) past_is m))
      where
        go : Memᴰ x (own_changes (length c.past) c.desk (b ∷ reverse d.front))
            ⊎ Placed c.desk (length c.past) x (b ∷ reverse d.front) d.between → StandsAt entries x
        go (inl h) =
            let none = just_begun (length c.past) c.desk b (reverse d.front) d.begun in
            absurd (mathlib.Core.List.Memᴰ.not-nil (subst (λ (l : List StandingChange). Memᴰ x l) none h))
        go (inr p) = stands p

  standing_stands : (x : StandingChange) → Memᴰ x (standing w entries) → StandsAt entries x
  standing_stands x m =
      let q = commit_of_law x (commits_in_force w entries) m in
      let c = q.0 in
      let k = commit_source source w rest cs c q.1 in
      let is = commit_call c.desk c.entry.call k.is_commit in
      let d = undisturbed_draft source w rest cs (reverse c.past) k.after c.entry c.desk k.split is k.committed in
      its_draft x c k d q.2

  -- THE CHANGE NAMED for a part stands, and is the last of it
  pub named_stands : (part : ℕ) (x : StandingChange) (others : List StandingChange) → last_standing part w entries ≡ x ∷ others
      → (others ≡ []) × (StandsAt entries x × LastOfPart part x (standing w entries))
  named_stands part x others h =
      let q = named_last part (standing w entries) others x h in
      let last = q.1 in
      let among : Memᴰ x (last.before ++ (x ∷ last.later)) = mathlib.Core.List.Memᴰ.append_right last.before (mathlib.Core.List.Memᴰ.head refl) in
      (q.0, (standing_stands x (subst (λ (l : List StandingChange). Memᴰ x l) (sym last.split) among), last))
