-- The insurer's line: of every list of calls, each accepted showing of the worksheet gave, whole,
-- the figures of the inputs in force; and where those come from. By the invariant of the run at the
-- showing or the commit. Assumes nothing.
use Rattle.std.proofs.Common.{Err, Ok, ℕ, Bool, true, false, cond, not, ◌&&◌, List, [], ◌∷◌, ◌++◌, reverse, append_assoc, ◌⊎◌, inl, inr, ◌≡◌, refl, sym, ap, ap₂, subst, ◌∙◌, arith, eqb, length, Float}
use mathlib.Core.Bool.{false≢true}
use mathlib.Core.List.Memᴰ
use mathlib.Core.List.{reverse_aux, reverse-cons, reverse-append, reverse-reverse, nil≢cons, head-eq_of_cons-eq, tail-eq_of_cons-eq, Memᴰ}
use Rattle.base.specs.Refusal.{Verdict}
use Rattle.base.specs.Refusal.{◌then◌, written_over}
use Rattle.base.proofs.verdicts.Refusals.{then_both}
use Rattle.maps.specs.declared.inputs.Inputs.{Inputs}
use Rattle.base.specs.Files.{files_check}
use Rattle.maps.specs.Figures.{sheet_path, figures_of, points_or}
use Rattle.worksheet.specs.declared.inputs.Edit.{Edit}
use Rattle.worksheet.specs.declared.desks.Worksheet.{Worksheet}
use Rattle.worksheet.specs.declared.desks.Draft.TheVariants.{Fresh}
use Rattle.worksheet.specs.Desks.{draft_at, fresh_sheet, open_of}
use Rattle.worksheet.specs.Showing.{Source, inputs_shown, buffer_check, drawn_check, judged_check, show_check, show_of, show_buffer}
use Rattle.worksheet.specs.Journal.{Call, begin, commit, cancel, change, take_back, show, shown, Role, beginning, ending, settling, belonging, returning, showing, role_of, Entry, accepted, role_in, good, Step, step, entry_of, run, is_begin, is_own, begins, belongs, own, none}
use Rattle.worksheet.specs.InForce.{edits_in, edits_of, AcceptedCommit, changes_by, inputs_by, Force, force_in, force_after, commits_in_force, in_force, FiguresOf, disturbs, DraftUndisturbed, CommitInForce, InForceBy}
use Rattle.worksheet.proofs.drafts.Drafts.{at_rest, rest_none}
use Rattle.worksheet.proofs.drafts.Effects.{Accepts, begun, begin_leaves, desk_put}
use Rattle.worksheet.proofs.lists.Rules.{law}
use Rattle.results.proofs.lists.Kept.{◌∈◌, own_member, own_calls, none_first}
use Rattle.results.proofs.force.Tracked.{force_still, quiet_still, begin_still, quiet_unbegun, Holds, start_holds, run_holds}
use Rattle.results.proofs.force.Lasting.{commits_exactly, left_source}

-- ---- lists read backwards

reverse_split : (late : List Entry) (b : Entry) (front : List Entry) → reverse (late ++ (b ∷ front)) ≡ reverse front ++ (b ∷ reverse late)
reverse_split late b front =
    reverse-append late (b ∷ front)
    ∙ ap (λ (l : List Entry). l ++ reverse late) (reverse-cons b front)
    ∙ append_assoc (reverse front) (b ∷ []) (reverse late)

none_reverse : (p : Entry → Bool) (l r : List Entry) → none p l ≡ true → none p r ≡ true → none p (reverse_aux l r) ≡ true
unfolding none
none_reverse p [] r g h = h
none_reverse p (x ∷ l) r g h =
    let f = none_first p x l g in
    none_reverse p l (x ∷ r) f.1 (ap (λ (z : Bool). not z && none p r) f.0 ∙ h)

none_begins : (n : ℕ) (l : List Entry) → none (disturbs n) l ≡ true → none (begins n) l ≡ true
unfolding none
none_begins n [] h = refl
none_begins n (x ∷ l) h =
    let f = none_first (disturbs n) x l h in
    ap (λ (z : Bool). not z && none (begins n) l) (quiet_unbegun n (role_in x) (good x) f.0) ∙ none_begins n l f.1

-- what is in force stays from desk n's begin on, while nothing disturbs its draft
force_since : (f : Force) (n : ℕ) (late : List Entry) (b : Entry) (front : List Entry) → begins n b ≡ true → none (disturbs n) late ≡ true
    → force_after f (late ++ (b ∷ front)) ≡ force_after f front
force_since f n [] b front g h = force_still f b front (begin_still n (role_in b) (good b) g)
force_since f n (x ∷ late) b front g h =
    let d = none_first (disturbs n) x late h in
    force_still f x (late ++ (b ∷ front)) (quiet_still n (role_in x) (good x) d.0) ∙ force_since f n late b front g d.1

-- ---- an entry of a run

module _ (source : Source) (w : Worksheet) where
  -- the entry x, after `before`: it is its call's on the worksheet that the calls before it left
  pub record At (before : List Entry) (x : Entry) : Type 0 where
    pub calls : List Call
    pub ran : (run source calls w).entries ≡ before
    pub there : x ≡ entry_of source x.call (run source calls w).sheet

pub run_split : (source : Source) (cs : List Call) (w : Worksheet) (before : List Entry) (x : Entry) (later : List Entry)
    → (run source cs w).entries ≡ before ++ (x ∷ later) → At source w before x
unfolding run
run_split source [] w [] x later h = absurd (nil≢cons h)
run_split source [] w (z ∷ before) x later h = absurd (nil≢cons h)
run_split source (c ∷ cs) w [] x later h = record {
  calls = [];
  ran = refl;
  there = subst (λ (z : Entry). z ≡ entry_of source z.call w) (head-eq_of_cons-eq h) refl;
}
run_split source (c ∷ cs) w (z ∷ before) x later h =
    let r = run_split source cs (step source c w).sheet before x later (tail-eq_of_cons-eq h) in
    record {
      calls = c ∷ r.calls;
      ran = ap₂ (λ (y : Entry) (l : List Entry). y ∷ l) (head-eq_of_cons-eq h) r.ran;
      there = r.there;
    }

-- what stands before an entry of a run is the run of the calls before
pub run_before : (source : Source) (cs : List Call) (w : Worksheet) (before : List Entry) (x : Entry) (later : List Entry)
    → (run source cs w).entries ≡ before ++ (x ∷ later) → (calls : List Call) × ((run source calls w).entries ≡ before)
run_before source cs w before x later h = let a = run_split source cs w before x later h in (a.calls, a.ran)

-- the invariant holds at every entry
at_holds : (source : Source) (w : Worksheet) → at_rest w ≡ w → (before : List Entry) (x : Entry) (a : At source w before x)
    → Holds (force_in w) (reverse before) (run source a.calls w).sheet
at_holds source w rest before x a =
    subst (λ (l : List Entry). Holds (force_in w) (reverse l) (run source a.calls w).sheet) a.ran
    (run_holds source (force_in w) a.calls [] w (start_holds w (rest_none w rest)))

-- ---- THE INPUTS IN FORCE ARE THE WORKSHEET'S

-- over any source of files, of every worksheet whose desks are closed, after every list of calls
pub in_force_law : (source : Source) (w : Worksheet) → at_rest w ≡ w → (cs : List Call)
    → (run source cs w).sheet.inputs ≡ in_force w (run source cs w).entries
unfolding in_force
in_force_law source w rest cs = (run_holds source (force_in w) cs [] w (start_holds w (rest_none w rest))).at_present

-- and what an accepted begin copies, after every list of calls, is the inputs in force then
pub begun_in_force : (source : Source) (w : Worksheet) → at_rest w ≡ w → (cs : List Call) (n : ℕ) → let s = run source cs w in
    Accepts source (begin n) s.sheet → draft_at n (step source (begin n) s.sheet).sheet ≡ Fresh (in_force w s.entries)
begun_in_force source w rest cs n a =
    let s = (run source cs w).sheet in
    let b = begun source n s a in
    ap (λ (t : Step). draft_at n t.sheet) (begin_leaves source n s b)
    ∙ desk_put n (Fresh s.inputs) s b.desk
    ∙ ap Fresh (in_force_law source w rest cs)

-- the same of every worksheet that open gives
pub opened_in_force : (source : Source) (opened : Inputs) → (open_of opened).answer ≡ Ok tt → (cs : List Call)
    → (run source cs (open_of opened).sheet).sheet.inputs ≡ in_force (open_of opened).sheet (run source cs (open_of opened).sheet).entries
unfolding open_of fresh_sheet
opened_in_force source opened given cs = in_force_law source (open_of opened).sheet refl cs

-- ---- THE INSURER'S LINE

-- an accepted showing on the worksheet s, of its inputs or of a desk
pub shown_figures : (source : Source) (n : ℕ) (s : Worksheet) (lent after : List Float) (count : ℕ)
    → shown (Ok count) after ≡ (step source (show n lent) s).answer → FiguresOf source (inputs_shown n s) count after
unfolding step show_of show_buffer show_check drawn_check
shown_figures source n s lent after count h =
    go (judged_check n s then drawn_check (source i) (length lent)) refl h
  where
    i : Inputs
    i = inputs_shown n s

    files : Verdict
    files = (source i).verdict then files_check (source i).f2 (source i).file

    go : (v : Verdict) → (judged_check n s then buffer_check (length lent) then files) ≡ v
        → shown (Ok count) after ≡ shown (points_or v (sheet_path i).count) (written_over v (figures_of (source i).f2 (source i).file i) lent)
        → FiguresOf source i count after
    go (Ok _) c e =
        let a = then_both (judged_check n s) (buffer_check (length lent) then files) c in
        let b = then_both (buffer_check (length lent)) files a.1 in
        let d = then_both (source i).verdict (files_check (source i).f2 (source i).file) b.1 in
        record { lent = d.0; checked = d.1; points = (cc); whole = (cc) }
    go (Err why) c e = let z : ◌≡◌ {A = ℕ} 0 1 = cc in absurd (omega arith)

-- Over any source of files, of every worksheet whose desks are closed and every list of calls: each
-- accepted showing of the worksheet, with the entries before it, gave the number of points and the
-- whole figures of the inputs in force after those entries.
pub insurers_line_lent : (source : Source) (w : Worksheet) → at_rest w ≡ w
    → (cs : List Call) (before later : List Entry) (lent figures : List Float) (count : ℕ)
    → (run source cs w).entries ≡ before ++ (record { call = show 0 lent; answer = shown (Ok count) figures } ∷ later)
    → FiguresOf source (in_force w before) count figures
unfolding in_force inputs_shown
insurers_line_lent source w rest cs before later lent figures count h =
    let x : Entry = record { call = show 0 lent; answer = shown (Ok count) figures } in
    let a = run_split source cs w before x later h in
    let s = (run source a.calls w).sheet in
    subst (λ (j : Inputs). FiguresOf source j count figures) (at_holds source w rest before x a).at_present
    (shown_figures source 0 s lent figures count (ap (λ (y : Entry). y.answer) a.there))

-- THE INSURER'S LINE for every source of files and every worksheet that open gives
pub insurers_line : (source : Source) (opened : Inputs) → (open_of opened).answer ≡ Ok tt
    → (cs : List Call) (before later : List Entry) (lent figures : List Float) (count : ℕ)
    → (run source cs (open_of opened).sheet).entries ≡ before ++ (record { call = show 0 lent; answer = shown (Ok count) figures } ∷ later)
    → FiguresOf source (in_force (open_of opened).sheet before) count figures
unfolding open_of fresh_sheet
insurers_line source opened given = insurers_line_lent source (open_of opened).sheet refl

-- ---- A COMMIT'S DRAFT: since its own begin nobody committed or took back, and it was not
-- cancelled; so it started from the inputs in force

pub undisturbed_draft : (source : Source) (w : Worksheet) → at_rest w ≡ w
    → (cs : List Call) (before later : List Entry) (x : Entry) (n : ℕ) → (run source cs w).entries ≡ before ++ (x ∷ later)
    → x.call ≡ commit n → accepted x.answer ≡ true → DraftUndisturbed w n before
unfolding in_force none
undisturbed_draft source w rest cs before later x n h c good =
    let a = run_split source cs w before x later h in
    let s = (run source a.calls w).sheet in
    let ok : accepted (step source (commit n) s).answer ≡ true = ap (λ (k : Call). accepted (step source k s).answer) (sym c) ∙ sym (ap (λ (y : Entry). accepted y.answer) a.there) ∙ good in
    let b = (law source (commit n) s).done ok in
    let d = (at_holds source w rest before x a).drafts n b.draft b.fresh in
    record {
      front = reverse d.front;
      own_begin = d.its_begin;
      between = reverse d.late;
      split = sym (reverse-reverse before) ∙ ap reverse d.split ∙ reverse_split d.late d.its_begin d.front;
      begun = d.begun;
      quiet = none_reverse (disturbs n) d.late [] d.quiet refl;
      own_calls = ap (own n) d.split ∙ own_calls n d.late d.its_begin d.front d.begun (none_begins n d.late d.quiet);
      same_inputs =
          ap (λ (k : Force). inputs_by k.present)
          (ap (force_after (force_in w)) d.split
          ∙ force_since (force_in w) n d.late d.its_begin d.front d.begun d.quiet
          ∙ ap (force_after (force_in w)) (sym (reverse-reverse d.front)));
    }

-- ---- WHERE A CHANGE IN FORCE COMES FROM: it was accepted, it is among the own calls of an
-- accepted commit, and that commit was not taken back

-- EVERY COMMIT IN FORCE was accepted and not taken back
pub commit_source : (source : Source) (w : Worksheet) → at_rest w ≡ w → (cs : List Call) (c : AcceptedCommit)
    → Memᴰ c (commits_in_force w (run source cs w).entries) → CommitInForce (run source cs w).entries c
commit_source source w rest cs c m =
    left_source [] (run source cs w).entries c (subst (λ (l : List AcceptedCommit). Memᴰ c l) (commits_exactly source w rest cs) m)

-- a change among some entries is one of theirs
edit_entry : (e : Edit) (l : List Entry) → Memᴰ e (edits_of l) → (y : Entry) × (y ∈ l) × Memᴰ e (edits_in (role_in y))
unfolding edits_of
edit_entry e [] h = absurd (Memᴰ.not-nil h)
edit_entry e (x ∷ l) h = either (edit_entry e l) (Memᴰ.append_cases (edits_in (role_in x)) h)
  where
    either : (Memᴰ e (edits_of l) → (y : Entry) × (y ∈ l) × Memᴰ e (edits_in (role_in y)))
        → Memᴰ e (edits_in (role_in x)) ⊎ Memᴰ e (edits_of l) → (y : Entry) × (y ∈ (x ∷ l)) × Memᴰ e (edits_in (role_in y))
    either below (inl m) = (x, Memᴰ.head refl, m)
    either below (inr m) = let r = below m in (r.0, Memᴰ.tail r.1, r.2)

-- a change of some commits is among the own calls of one of them
commit_entry : (e : Edit) (l : List AcceptedCommit) → Memᴰ e (changes_by l) → (c : AcceptedCommit) × Memᴰ c l × Memᴰ e (edits_of (own c.desk c.past))
unfolding changes_by
commit_entry e [] h = absurd (Memᴰ.not-nil h)
commit_entry e (x ∷ l) h = either (commit_entry e l) (Memᴰ.append_cases (changes_by l) h)
  where
    either : (Memᴰ e (changes_by l) → (c : AcceptedCommit) × Memᴰ c l × Memᴰ e (edits_of (own c.desk c.past)))
        → Memᴰ e (changes_by l) ⊎ Memᴰ e (edits_of (own x.desk x.past))
        → (c : AcceptedCommit) × Memᴰ c (x ∷ l) × Memᴰ e (edits_of (own c.desk c.past))
    either below (inl m) = let r = below m in (r.0, Memᴰ.tail r.1, r.2)
    either below (inr m) = (x, Memᴰ.head refl, m)

-- a begin makes no change
begin_no_edit : (n : ℕ) (r : Role) (b : Bool) (e : Edit) → is_begin n r b ≡ true → Memᴰ e (edits_in r) → ⊥
begin_no_edit n (beginning m) b e h k = Memᴰ.not-nil k
begin_no_edit n (ending m) b e h k = Memᴰ.not-nil k
begin_no_edit n (settling m) b e h k = Memᴰ.not-nil k
begin_no_edit n (belonging m even es) b e h k = false≢true h
begin_no_edit n returning b e h k = Memᴰ.not-nil k
begin_no_edit n showing b e h k = Memᴰ.not-nil k

-- an own call that makes a change was accepted: by the table of roles
edit_accepted : (n : ℕ) (c : Call) (b : Bool) (e : Edit) → is_own n (role_of c) b ≡ true → Memᴰ e (edits_in (role_of c)) → b ≡ true
edit_accepted n (begin m) b e h k = absurd (Memᴰ.not-nil k)
edit_accepted n (commit m) b e h k = absurd (Memᴰ.not-nil k)
edit_accepted n (cancel m) b e h k = absurd (Memᴰ.not-nil k)
edit_accepted n (change m x) b e h k = go (eqb m n) h
  where
    go : (t : Bool) → (t && b) ≡ true → b ≡ true
    go true q = q
    go false q = absurd (false≢true q)
edit_accepted n take_back b e h k = absurd (Memᴰ.not-nil k)
edit_accepted n (show m lent) b e h k = go (eqb m 0) k
  where
    go : (t : Bool) → Memᴰ e (edits_in (cond t showing (belonging m true []))) → b ≡ true
    go true q = absurd (Memᴰ.not-nil q)
    go false q = absurd (Memᴰ.not-nil q)

-- WHERE A CHANGE IN FORCE COMES FROM
pub change_source : (source : Source) (w : Worksheet) → at_rest w ≡ w → (cs : List Call) (e : Edit)
    → Memᴰ e (changes_by (commits_in_force w (run source cs w).entries)) → InForceBy (run source cs w).entries e
change_source source w rest cs e h =
    let q = commit_entry e (commits_in_force w (run source cs w).entries) h in
    let c = q.0 in
    let r = edit_entry e (own c.desk c.past) q.2 in
    let its = go c.desk r.0 r.2 (own_member c.desk r.0 c.past r.1) in
    record {
      its_commit = c;
      in_force_law = commit_source source w rest cs c q.1;
      its_change = r.0;
      is_own_law = r.1;
      is_change = r.2;
      belongs_to_it = its;
      accepted_too = edit_accepted c.desk r.0.call (good r.0) e its r.2;
    }
  where
    go : (n : ℕ) (y : Entry) → Memᴰ e (edits_in (role_in y)) → (begins n y ≡ true) ⊎ (belongs n y ≡ true) → belongs n y ≡ true
    go n y m (inl b) = absurd (begin_no_edit n (role_in y) (good y) e b m)
    go n y m (inr o) = o
