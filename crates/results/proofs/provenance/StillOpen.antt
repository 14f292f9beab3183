-- A draft stays open until its desk cancels or commits it, so a desk does not begin anew before: by
-- what each accepted call leaves at the desks. Assumes nothing.
use Rattle.std.proofs.Common.{Option, ℕ, Bool, true, false, cond, not, ◌&&◌, List, [], ◌∷◌, ◌++◌, ◌≡◌, refl, sym, ap, subst, ◌∙◌, eqb, eqb-true}
use mathlib.Core.Bool.{and-true, false≢true}
use mathlib.Core.List.{nil≢cons, head-eq_of_cons-eq, tail-eq_of_cons-eq}
use Rattle.maps.specs.declared.inputs.Inputs.{Inputs}
use Rattle.worksheet.specs.declared.inputs.Edit.{Edit}
use Rattle.worksheet.specs.declared.desks.Draft.{Draft}
use Rattle.worksheet.specs.declared.desks.Draft.TheVariants.{Closed, Fresh, Stale}
use Rattle.worksheet.specs.declared.desks.Worksheet.{Worksheet}
use Rattle.worksheet.specs.Desks.{draft_at, with_draft, stale_of, moved_to, edited_draft}
use Rattle.worksheet.specs.Showing.{Source}
use Rattle.worksheet.specs.Journal.{Call, begin, commit, cancel, change, take_back, show, role_of, Entry, accepted, Step, step, entry_of, run, begins, none}
use Rattle.worksheet.proofs.drafts.Drafts.{with_other}
use Rattle.worksheet.proofs.drafts.Effects.{desk_put, Accepts, refused_unmoved, begun, begin_leaves, was_changed, change_leaves, committed, commit_leaves, cancel_leaves, taken_back, take_back_leaves}
use Rattle.auditing.specs.Provenance.{is_ending, ends_draft}
use Rattle.results.proofs.lists.Kept.{none_first}
use Rattle.results.proofs.provenance.Named.{begun_by}

-- ---- open drafts

abbrev is_open : Draft → Bool
is_open Closed = false
is_open (Fresh x) = true
is_open (Stale x) = true

turned_open : (d : Draft) → is_open (stale_of d) ≡ is_open d
unfolding stale_of
turned_open Closed = refl
turned_open (Fresh x) = refl
turned_open (Stale x) = refl

edited_open : (e : Edit) (d : Draft) → is_open (edited_draft e d) ≡ is_open d
unfolding edited_draft
edited_open e Closed = refl
edited_open e (Fresh x) = refl
edited_open e (Stale x) = refl

moved_open : (n : ℕ) (i : Inputs) (e : Option Inputs) (w : Worksheet) → is_open (draft_at n (moved_to i e w)) ≡ is_open (draft_at n w)
unfolding draft_at moved_to
moved_open n i e w = go (eqb n 1) (eqb n 2) (eqb n 3) (eqb n 4)
  where
    go : (a b c d : Bool)
        → is_open (cond a (stale_of w.d1) (cond b (stale_of w.d2) (cond c (stale_of w.d3) (cond d (stale_of w.d4) Closed))))
        ≡ is_open (cond a w.d1 (cond b w.d2 (cond c w.d3 (cond d w.d4 Closed))))
    go true b c d = turned_open w.d1
    go false true c d = turned_open w.d2
    go false false true d = turned_open w.d3
    go false false false true = turned_open w.d4
    go false false false false = refl

-- ---- one call

module _ (source : Source) (n : ℕ) where
  abbrev Open : Worksheet → Type 0
  Open w = is_open (draft_at n w) ≡ true

  -- an accepted begin opens the desk's draft, and found none
  begin_opens : (w : Worksheet) → Accepts source (begin n) w → Open (step source (begin n) w).sheet
  begin_opens w a =
      let b = begun source n w a in
      ap (λ (s : Step). is_open (draft_at n s.sheet)) (begin_leaves source n w b)
      ∙ ap is_open (desk_put n (Fresh w.inputs) w b.desk)

  begin_refused : (w : Worksheet) → Open w → Accepts source (begin n) w → ⊥
  begin_refused w o a = false≢true (sym (ap is_open (begun source n w a).closed) ∙ o)

  -- where another desk's draft became d
  other_desk : (m : ℕ) (d : Draft) (w : Worksheet) (s : Step) → s.sheet ≡ with_draft m d w → eqb m n ≡ false → Open w → Open s.sheet
  other_desk m d w s h e o = ap (λ (v : Worksheet). is_open (draft_at n v)) h ∙ ap is_open (with_other m n d e w) ∙ o

  module _ (w : Worksheet) (o : Open w) where
    abbrev Stays : Call → Type 0
    Stays c = Open (step source c w).sheet

    begin_stays : (m : ℕ) → Accepts source (begin m) w → (t : Bool) → eqb m n ≡ t → Stays (begin m)
    begin_stays m a true e =
        absurd (begin_refused w o (subst (λ (k : ℕ). Accepts source (begin k) w) (eqb-true m n e) a))
    begin_stays m a false e =
        let is = begin_leaves source m w (begun source m w a) in
        other_desk m (Fresh w.inputs) w (step source (begin m) w) (ap (λ (s : Step). s.sheet) is) e o

    change_stays : (m : ℕ) (f : Edit) → Accepts source (change m f) w → (t : Bool) → eqb m n ≡ t → Stays (change m f)
    change_stays m f a true e =
        let b = was_changed source m f w a in
        let d = edited_draft f (draft_at m w) in
        let same = eqb-true m n e in
        ap (λ (k : ℕ). is_open (draft_at k (step source (change m f) w).sheet)) (sym same)
        ∙ ap (λ (s : Step). is_open (draft_at m s.sheet)) (change_leaves source m f w b)
        ∙ ap is_open (desk_put m d w b.desk)
        ∙ edited_open f (draft_at m w)
        ∙ ap (λ (k : ℕ). is_open (draft_at k w)) same
        ∙ o
    change_stays m f a false e =
        let is = change_leaves source m f w (was_changed source m f w a) in
        other_desk m (edited_draft f (draft_at m w)) w (step source (change m f) w) (ap (λ (s : Step). s.sheet) is) e o

    accepted_stays : (c : Call) → Accepts source c w → is_ending n (role_of c) true ≡ false → Stays c
    unfolding step
    accepted_stays (begin m) a h = begin_stays m a (eqb m n) refl
    accepted_stays (change m f) a h = change_stays m f a (eqb m n) refl
    accepted_stays (commit m) a h =
        let b = committed source m w a in
        let is = commit_leaves source m w b.draft b.desk b.fresh in
        other_desk m Closed (moved_to b.draft _ w) (step source (commit m) w) (ap (λ (s : Step). s.sheet) is) (sym (and-true (eqb m n)) ∙ h)
        (moved_open n b.draft _ w ∙ o)
    accepted_stays (cancel m) a h =
        other_desk m Closed w (step source (cancel m) w) (ap (λ (s : Step). s.sheet) (cancel_leaves source m w a)) (sym (and-true (eqb m n)) ∙ h) o
    accepted_stays take_back a h =
        let b = taken_back source w a in
        ap (λ (s : Step). is_open (draft_at n s.sheet)) (take_back_leaves source w b.0 b.1)
        ∙ moved_open n b.0 _ w
        ∙ o
    accepted_stays (show m lent) a h = o

    stays_open : (c : Call) → ends_draft n (entry_of source c w) ≡ false → Open (step source c w).sheet
    stays_open c h = go (accepted (step source c w).answer) refl
      where
        go : (b : Bool) → accepted (step source c w).answer ≡ b → Open (step source c w).sheet
        go true a = accepted_stays c a (ap (is_ending n (role_of c)) (sym a) ∙ h)
        go false a = ap (λ (v : Worksheet). is_open (draft_at n v)) (refused_unmoved source c w a) ∙ o

    begins_none : (c : Call) → begins n (entry_of source c w) ≡ false
    begins_none c = go (begins n (entry_of source c w)) refl
      where
        go : (b : Bool) → begins n (entry_of source c w) ≡ b → b ≡ false
        go true p =
            let s = begun_by n c (accepted (step source c w).answer) p in
            absurd (begin_refused w o (subst (λ (k : Call). Accepts source k w) s.0 s.1))
        go false p = refl

  -- ---- a run

  open_since : (cs : List Call) (w : Worksheet) (between rest : List Entry) → (run source cs w).entries ≡ between ++ rest → Open w
      → none (ends_draft n) between ≡ true → none (begins n) between ≡ true
  unfolding run none
  open_since cs w [] rest h o q = refl
  open_since [] w (y ∷ between) rest h o q = absurd (nil≢cons h)
  open_since (c ∷ cs) w (y ∷ between) rest h o q =
      let is = head-eq_of_cons-eq h in
      let f = none_first (ends_draft n) y between q in
      let next = stays_open w o c (ap (ends_draft n) is ∙ f.0) in
      ap (λ (z : Bool). not z && none (begins n) between) (sym (ap (begins n) is) ∙ begins_none w o c)
      ∙ open_since cs (step source c w).sheet between rest (tail-eq_of_cons-eq h) next f.1

  -- A DESK BEGINS NO OTHER DRAFT while one is open
  pub begun_once : (cs : List Call) (w : Worksheet) (front between rest : List Entry) (b : Entry)
      → (run source cs w).entries ≡ front ++ (b ∷ (between ++ rest)) → begins n b ≡ true
      → none (ends_draft n) between ≡ true → none (begins n) between ≡ true
  unfolding run
  begun_once [] w [] between rest b h g q = absurd (nil≢cons h)
  begun_once [] w (z ∷ front) between rest b h g q = absurd (nil≢cons h)
  begun_once (c ∷ cs) w [] between rest b h g q =
      let s = begun_by n c (accepted (step source c w).answer) (ap (begins n) (head-eq_of_cons-eq h) ∙ g) in
      let a : Accepts source (begin n) w = subst (λ (k : Call). Accepts source k w) s.0 s.1 in
      let o : Open (step source c w).sheet = subst (λ (k : Call). Open (step source k w).sheet) (sym s.0) (begin_opens w a) in
      open_since cs (step source c w).sheet between rest (tail-eq_of_cons-eq h) o q
  begun_once (c ∷ cs) w (z ∷ front) between rest b h g q =
      begun_once cs (step source c w).sheet front between rest b (tail-eq_of_cons-eq h) g q
