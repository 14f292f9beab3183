-- The inputs in force, said without the fold: those at the start with the changes of exactly the
-- commits that were accepted and not taken back, in their order, each once. By an invariant of the
-- run: the set in force and the one before it are those that the entries leave, where what comes
-- next takes back and where it does not. Assumes nothing.
use Rattle.std.proofs.Common.{None, Ok, Option, Some, Bool, true, false, cond, not, ◌&&◌, List, [], ◌∷◌, ◌++◌, reverse, append_assoc, append-nil, ◌⊎◌, inl, inr, ◌≡◌, refl, sym, ap, ap₂, subst, ◌∙◌, ℕ}
use mathlib.Core.List.Memᴰ
use mathlib.Core.List.{reverse_aux, reverse-cons, Memᴰ}
use Rattle.maps.specs.declared.inputs.Inputs.{Inputs}
use Rattle.worksheet.specs.declared.desks.Worksheet.{Worksheet}
use Rattle.worksheet.specs.Desks.{set_of, fresh_sheet, open_of}
use Rattle.worksheet.specs.Showing.{Source}
use Rattle.worksheet.specs.Journal.{Call, Role, beginning, ending, settling, belonging, returning, showing, role_of, Entry, accepted, role_in, good, step, entry_of, run}
use Rattle.worksheet.specs.InForce.{changed, AcceptedCommit, Standing, changes_by, inputs_by, Force, standing_at, standing_before, force_in, pushed, returned_to, force_by, force_after, commits_in_force, in_force, taken_back_by, taken_back, left_by, commits_left, start_left, CommitInForce}
use Rattle.worksheet.proofs.drafts.Drafts.{at_rest, rest_none}
use Rattle.worksheet.proofs.lists.Replay.{Law}
use Rattle.worksheet.proofs.lists.Rules.{law}
use Rattle.results.proofs.force.Tracked.{nothing_not_set, earlier_by, Holds, next, start_holds}

-- ---- the set that some entries leave, from the inputs i on, with e as the earlier set

module _ (e i : Inputs) where
  -- of entries, the latest first; u says whether what comes next takes back
  leaves : Bool → List Entry → Standing
  leaves u [] = record { start = cond u e i; commits = [] }
  leaves u (x ∷ past) =
      let s = leaves (taken_back_by (role_in x) (good x) u) past in
      record { start = s.start; commits = left_by past x (role_in x) (good x) u ++ s.commits }

  -- the same of entries in their order
  leaves_all : (later past : List Entry) → let s = leaves (taken_back later) past in
      leaves false (reverse_aux later past) ≡ record { start = s.start; commits = commits_left past later ++ s.commits }
  unfolding leaves taken_back commits_left
  leaves_all [] past = refl
  leaves_all (x ∷ later) past =
      let u = taken_back later in
      let s = leaves (taken_back_by (role_in x) (good x) u) past in
      leaves_all later (x ∷ past)
      ∙ ap (λ (l : List AcceptedCommit). record { start = s.start; commits = l })
      (sym (append_assoc (commits_left (x ∷ past) later) (left_by past x (role_in x) (good x) u) s.commits))

  leaves_run : (entries : List Entry) → leaves false (reverse entries) ≡ record { start = cond (taken_back entries) e i; commits = commits_left [] entries }
  unfolding leaves
  leaves_run entries =
      leaves_all entries []
      ∙ ap (λ (l : List AcceptedCommit). record { start = cond (taken_back entries) e i; commits = l }) (append-nil (commits_left [] entries))

  -- THE INVARIANT, after the entries `past`
  record Leaves (past : List Entry) (f : Force) : Type 0 where
    present : f.present ≡ leaves false past
    before : (s : Standing) → Memᴰ s f.before → s ≡ leaves true past

  -- an earlier set is there
  abbrev Earlier_there : Force → Type 0
  Earlier_there f = (s : Standing) × ((l : List Standing) × (f.before ≡ s ∷ l))

  module _ (past : List Entry) (x : Entry) (f : Force) (k : Leaves past f) where
    -- what is left with x, by its role and whether it was accepted
    abbrev with_entry : Role → Bool → Bool → Standing
    with_entry r b u = record { start = (leaves (taken_back_by r b u) past).start; commits = left_by past x r b u ++ (leaves (taken_back_by r b u) past).commits }

    by_role : (r : Role) (b : Bool) → role_in x ≡ r → good x ≡ b → (u : Bool) → leaves u (x ∷ past) ≡ with_entry r b u
    unfolding leaves
    by_role r b p q u = ap₂ (λ (z : Role) (t : Bool). with_entry z t u) p q

    still : ((u : Bool) → leaves u (x ∷ past) ≡ leaves u past) → Leaves (x ∷ past) f
    still h = record { present = k.present ∙ sym (h false); before = λ s m. k.before s m ∙ sym (h true) }

    push : (n : ℕ) → ((u : Bool) → leaves u (x ∷ past) ≡ with_entry (settling n) true u) → Leaves (x ∷ past) (pushed (record { desk = n; past = past; entry = x }) f)
    push n h = record {
      present = ap (λ (s : Standing). record { start = s.start; commits = record { desk = n; past = past; entry = x } ∷ s.commits }) k.present ∙ sym (h false);
      before = λ s m. Memᴰ.eq_of_singleton m ∙ k.present ∙ sym (h true);
    }

    give_back : (s : Standing) (l : List Standing) → f.before ≡ s ∷ l → ((u : Bool) → leaves u (x ∷ past) ≡ leaves true past) → Leaves (x ∷ past) (returned_to (s ∷ l) f)
    give_back s l q h = record {
      present = k.before s (subst (λ (z : List Standing). Memᴰ s z) (sym q) (Memᴰ.head refl)) ∙ sym (h false);
      before = λ z m. absurd (Memᴰ.not-nil m);
    }

    one_more : (role_in x ≡ returning → good x ≡ true → Earlier_there f) → Leaves (x ∷ past) (force_by past x (role_in x) (good x) f)
    one_more back = go (role_in x) (good x) refl refl
      where
        returns : role_in x ≡ returning → good x ≡ true → Earlier_there f → Leaves (x ∷ past) (returned_to f.before f)
        returns p q t =
            subst (λ (z : List Standing). Leaves (x ∷ past) (returned_to z f)) (sym t.1.1) (give_back t.0 t.1.0 t.1.1 (by_role returning true p q))

        go : (r : Role) (b : Bool) → role_in x ≡ r → good x ≡ b → Leaves (x ∷ past) (force_by past x r b f)
        go (beginning n) b p q = still (by_role (beginning n) b p q)
        go (ending n) b p q = still (by_role (ending n) b p q)
        go (settling n) true p q = push n (by_role (settling n) true p q)
        go (settling n) false p q = still (by_role (settling n) false p q)
        go (belonging n even es) b p q = still (by_role (belonging n even es) b p q)
        go returning true p q = returns p q (back p q)
        go returning false p q = still (by_role returning false p q)
        go showing b p q = still (by_role showing b p q)

-- ---- the run

-- an earlier set is there where the worksheet has one
set_before : (l : List Standing) (i : Inputs) → earlier_by l ≡ Some i → (s : Standing) × ((k : List Standing) × (l ≡ s ∷ k))
set_before [] i h = absurd (nothing_not_set h)
set_before (s ∷ k) i h = (s, (k, refl))

module _ (source : Source) (f : Force) (e i : Inputs) where
  -- an accepted take-back had an earlier set
  had_earlier : (past : List Entry) (w : Worksheet) (c : Call) → Holds f past w → role_of c ≡ returning → accepted (step source c w).answer ≡ true
      → (s : Standing) × ((l : List Standing) × ((force_after f past).before ≡ s ∷ l))
  had_earlier past w c g p a =
      let d = go (role_of c) p (law source c w) in
      set_before (force_after f past).before d.0 (sym g.at_earlier ∙ d.1)
    where
      was : Law source returning c w → (j : Inputs) × (w.earlier ≡ Some j)
      was l = let d = l.done a in (d.set, d.was)

      go : (r : Role) → r ≡ returning → Law source r c w → (j : Inputs) × (w.earlier ≡ Some j)
      go r q l = was (subst (λ (z : Role). Law source z c w) q l)

  run_leaves : (cs : List Call) (past : List Entry) (w : Worksheet) → Holds f past w → Leaves e i past (force_after f past)
      → Leaves e i (reverse_aux (run source cs w).entries past) (force_after f (reverse_aux (run source cs w).entries past))
  unfolding run force_after
  run_leaves [] past w g k = k
  run_leaves (c ∷ cs) past w g k =
      let y = entry_of source c w in
      run_leaves cs (y ∷ past) (step source c w).sheet (next source f past w g c)
      (one_more e i past y (force_after f past) k (had_earlier past w c g))

start_leaves : (w : Worksheet) → Leaves (set_of w.earlier w.inputs) w.inputs [] (force_after (force_in w) [])
unfolding force_after leaves set_of
start_leaves w = record { present = refl; before = λ s m. go w.earlier s m }
  where
    go : (e : Option Inputs) (s : Standing) → Memᴰ s (standing_before e) → s ≡ standing_at (set_of e w.inputs)
    go None s m = absurd (Memᴰ.not-nil m)
    go (Some j) s m = Memᴰ.eq_of_singleton m

-- over any source of files, of every worksheet whose desks are closed and every list of calls
module _ (source : Source) (w : Worksheet) (rest : at_rest w ≡ w) (cs : List Call) where
  abbrev entries : List Entry
  entries = (run source cs w).entries

  in_force_set : (force_after (force_in w) (reverse entries)).present ≡ record { start = start_left w entries; commits = commits_left [] entries }
  in_force_set =
      let e = set_of w.earlier w.inputs in
      (run_leaves source (force_in w) e w.inputs cs [] w (start_holds w (rest_none w rest)) (start_leaves w)).present
      ∙ leaves_run e w.inputs entries

  -- THE COMMITS IN FORCE are those that were accepted and not taken back, all of them, in their
  -- order
  pub commits_exactly : commits_in_force w entries ≡ commits_left [] entries
  unfolding commits_in_force
  commits_exactly = ap (λ (s : Standing). s.commits) in_force_set

  -- THE INPUTS IN FORCE are the start's with the changes of those commits
  pub in_force_exactly : in_force w entries ≡ changed (start_left w entries) (changes_by (commits_left [] entries))
  unfolding in_force inputs_by
  in_force_exactly = ap inputs_by in_force_set

pub same_start : (b : Bool) (i : Inputs) → cond b i i ≡ i
same_start true i = refl
same_start false i = refl

-- of a worksheet that open gives, the inputs that it was opened with
pub opened_exactly : (source : Source) (opened : Inputs) → (open_of opened).answer ≡ Ok tt → (cs : List Call)
    → let w = (open_of opened).sheet in let entries = (run source cs w).entries in
    in_force w entries ≡ changed opened (changes_by (commits_left [] entries))
unfolding open_of fresh_sheet set_of
opened_exactly source opened given cs =
    let w = (open_of opened).sheet in
    let l = (run source cs w).entries in
    in_force_exactly source w refl cs
    ∙ ap (λ (i : Inputs). changed i (changes_by (commits_left [] l))) (same_start (taken_back l) opened)

-- ---- each of them was accepted and not taken back

left_here : (past later : List Entry) (x : Entry) (c : AcceptedCommit) → Memᴰ c (left_by past x (role_in x) (good x) (taken_back later))
    → CommitInForce (reverse past ++ (x ∷ later)) c
left_here past later x c m = go (role_in x) refl m
  where
    Here : Type 0
    Here = CommitInForce (reverse past ++ (x ∷ later)) c

    settles : (n : ℕ) → role_in x ≡ settling n → (b t : Bool) → good x ≡ b → taken_back later ≡ t
        → Memᴰ c (cond (b && not t) (record { desk = n; past = past; entry = x } ∷ []) []) → Here
    settles n p true true q s h = absurd (Memᴰ.not-nil h)
    settles n p true false q s h =
        subst (λ (z : AcceptedCommit). CommitInForce (reverse past ++ (x ∷ later)) z) (sym (Memᴰ.eq_of_singleton h))
        (record { after = later; split = refl; is_commit = p; committed = q; not_taken_back = s })
    settles n p false t q s h = absurd (Memᴰ.not-nil h)

    go : (r : Role) → role_in x ≡ r → Memᴰ c (left_by past x r (good x) (taken_back later)) → Here
    go (beginning n) p h = absurd (Memᴰ.not-nil h)
    go (ending n) p h = absurd (Memᴰ.not-nil h)
    go (settling n) p h = settles n p (good x) (taken_back later) refl refl h
    go (belonging n even es) p h = absurd (Memᴰ.not-nil h)
    go returning p h = absurd (Memᴰ.not-nil h)
    go showing p h = absurd (Memᴰ.not-nil h)

pub left_source : (past later : List Entry) (c : AcceptedCommit) → Memᴰ c (commits_left past later) → CommitInForce (reverse past ++ later) c
unfolding commits_left
left_source past [] c m = absurd (Memᴰ.not-nil m)
left_source past (x ∷ later) c m = go (left_source (x ∷ past) later c) (Memᴰ.append_cases (commits_left (x ∷ past) later) m)
  where
    same : reverse (x ∷ past) ++ later ≡ reverse past ++ (x ∷ later)
    same = ap (λ (k : List Entry). k ++ later) (reverse-cons x past) ∙ append_assoc (reverse past) (x ∷ []) later

    go : (Memᴰ c (commits_left (x ∷ past) later) → CommitInForce (reverse (x ∷ past) ++ later) c)
        → Memᴰ c (commits_left (x ∷ past) later) ⊎ Memᴰ c (left_by past x (role_in x) (good x) (taken_back later))
        → CommitInForce (reverse past ++ (x ∷ later)) c
    go below (inl h) = subst (λ (k : List Entry). CommitInForce k c) same (below h)
    go below (inr h) = left_here past later x c h
