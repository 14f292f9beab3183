-- The insurer's 'from no edit that somebody had cancelled': every change in force stands between
-- its desk's accepted begin and accepted commit, with nothing that disturbs the draft between, and
-- the commit was not taken back. By the commit that it is an own call of, and what stands since
-- that commit's begin. Assumes nothing.
use Rattle.std.proofs.Common.{Ok, ℕ, Bool, true, false, cond, not, ◌&&◌, List, [], ◌∷◌, ◌++◌, reverse, append_assoc, ◌⊎◌, inl, inr, ◌≡◌, refl, sym, ap, ap₂, subst, ◌∙◌, eqb, Float, eqb-true, eq-eqb}
use mathlib.Core.Bool.{false≢true}
use mathlib.Core.List.Memᴰ
use mathlib.Core.List.{reverse-reverse, nil≢cons, head-eq_of_cons-eq, Memᴰ}
use Rattle.maps.specs.declared.inputs.Inputs.{Inputs}
use Rattle.worksheet.specs.declared.inputs.Edit.{Edit}
use Rattle.worksheet.specs.declared.desks.Worksheet.{Worksheet}
use Rattle.worksheet.specs.Desks.{set_of, fresh_sheet, open_of}
use Rattle.worksheet.specs.Showing.{Source}
use Rattle.worksheet.specs.Journal.{Call, begin, commit, cancel, change, take_back, show, shown, Role, beginning, ending, settling, belonging, returning, showing, role_of, Entry, good, run, is_begin, is_own, belongs, own, keep, none}
use Rattle.worksheet.specs.InForce.{edits_in, changed, changes_by, commits_in_force, in_force, taken_back, commits_left, start_left, FiguresOf, disturbs, NeverCancelled, Insured}
use Rattle.worksheet.proofs.drafts.Drafts.{at_rest}
use Rattle.worksheet.proofs.drafts.Effects.{both_true}
use Rattle.results.proofs.lists.Kept.{◌∈◌, none_first}
use Rattle.results.proofs.force.Lasting.{same_start, commits_exactly, in_force_exactly}
use Rattle.results.proofs.force.Insured.{run_before, insurers_line_lent, undisturbed_draft, change_source}

-- ---- calls by their roles

begin_call : (n : ℕ) (c : Call) (b : Bool) → is_begin n (role_of c) b ≡ true → (c ≡ begin n) × (b ≡ true)
begin_call n (begin m) b h = let s = both_true (eqb m n) b h in (ap begin (eqb-true m n s.0), s.1)
begin_call n (commit m) b h = absurd (false≢true h)
begin_call n (cancel m) b h = absurd (false≢true h)
begin_call n (change m e) b h = absurd (false≢true h)
begin_call n take_back b h = absurd (false≢true h)
begin_call n (show m lent) b h = go (eqb m 0) h
  where
    go : (t : Bool) → is_begin n (cond t showing (belonging m true [])) b ≡ true → (show m lent ≡ begin n) × (b ≡ true)
    go true q = absurd (false≢true q)
    go false q = absurd (false≢true q)

change_call : (n : ℕ) (e : Edit) (c : Call) (b : Bool) → is_own n (role_of c) b ≡ true → Memᴰ e (edits_in (role_of c)) → c ≡ change n e
change_call n e (begin m) b h k = absurd (false≢true h)
change_call n e (commit m) b h k = absurd (false≢true h)
change_call n e (cancel m) b h k = absurd (false≢true h)
change_call n e (change m x) b h k = ap₂ change (eqb-true m n (both_true (eqb m n) b h).0) (sym (Memᴰ.eq_of_singleton k))
change_call n e take_back b h k = absurd (false≢true h)
change_call n e (show m lent) b h k = go (eqb m 0) k
  where
    go : (t : Bool) → Memᴰ e (edits_in (cond t showing (belonging m true []))) → show m lent ≡ change n e
    go true q = absurd (Memᴰ.not-nil q)
    go false q = absurd (Memᴰ.not-nil q)

-- the one call that has this role, if there is one
abbrev call_for : Role → List Call
call_for (beginning n) = begin n ∷ []
call_for (ending n) = cancel n ∷ []
call_for (settling n) = commit n ∷ []
call_for (belonging n even es) = []
call_for returning = take_back ∷ []
call_for showing = []

pub call_for_law : (c d : Call) (r : Role) → call_for r ≡ d ∷ [] → role_of c ≡ r → c ≡ d
call_for_law c d r is e = go c (ap call_for e ∙ is)
  where
    shows : (m : ℕ) (t : Bool) → call_for (cond t showing (belonging m true [])) ≡ d ∷ [] → ⊥
    shows m true q = nil≢cons q
    shows m false q = nil≢cons q

    go : (k : Call) → call_for (role_of k) ≡ d ∷ [] → k ≡ d
    go (begin m) q = head-eq_of_cons-eq q
    go (commit m) q = head-eq_of_cons-eq q
    go (cancel m) q = head-eq_of_cons-eq q
    go (change m x) q = absurd (nil≢cons q)
    go take_back q = head-eq_of_cons-eq q
    go (show m lent) q = absurd (shows m (eqb m 0) q)

pub commit_call : (n : ℕ) (c : Call) → role_of c ≡ settling n → c ≡ commit n
commit_call n c = call_for_law c (commit n) (settling n) refl

-- ---- where an entry stands

keep_among : (p : Entry → Bool) (y : Entry) (l : List Entry) → y ∈ (keep p l) → y ∈ l
unfolding keep
keep_among p y [] h = absurd (Memᴰ.not-nil h)
keep_among p y (x ∷ l) h = go (p x) (keep_among p y l) h
  where
    first : (y ∈ (keep p l) → y ∈ l) → (y ≡ x) ⊎ (y ∈ (keep p l)) → y ∈ (x ∷ l)
    first below (inl e) = Memᴰ.head e
    first below (inr m) = Memᴰ.tail (below m)

    go : (b : Bool) → (y ∈ (keep p l) → y ∈ l) → y ∈ (cond b (x ∷ keep p l) (keep p l)) → y ∈ (x ∷ l)
    go true below m = first below (Memᴰ.cases_cons m)
    go false below m = Memᴰ.tail (below m)

-- y in l, with what is before it and after it
record Found (y : Entry) (l : List Entry) : Type 0 where
  before : List Entry
  after : List Entry
  split : l ≡ before ++ (y ∷ after)

found : (y : Entry) (l : List Entry) → y ∈ l → Found y l
found y [] h = absurd (Memᴰ.not-nil h)
found y (x ∷ l) h = go (found y l) (Memᴰ.cases_cons h)
  where
    go : (y ∈ l → Found y l) → (y ≡ x) ⊎ (y ∈ l) → Found y (x ∷ l)
    go below (inl e) = record { before = []; after = l; split = ap (λ (z : Entry). z ∷ l) (sym e) }
    go below (inr m) =
        let s = below m in
        record { before = x ∷ s.before; after = s.after; split = ap (λ (k : List Entry). x ∷ k) s.split }

none_around : (p : Entry → Bool) (l : List Entry) (y : Entry) (m : List Entry) → none p (l ++ (y ∷ m)) ≡ true → (none p l ≡ true) × (none p m ≡ true)
unfolding none
none_around p [] y m h = (refl, (none_first p y m h).1)
none_around p (x ∷ l) y m h =
    let f = none_first p x (l ++ (y ∷ m)) h in
    let r = none_around p l y m f.1 in
    (ap (λ (z : Bool). not z && none p l) f.0 ∙ r.0, r.1)

-- a change is no begin, so it stands since the begin
since_begin : (n : ℕ) (e : Edit) (y b : Entry) (between : List Entry) → y.call ≡ change n e → b.call ≡ begin n
    → y ∈ (b ∷ keep (belongs n) between) → y ∈ between
since_begin n e y b between p q h = go (Memᴰ.cases_cons h)
  where
    go : (y ≡ b) ⊎ (y ∈ (keep (belongs n) between)) → y ∈ between
    go (inl s) = absurd (false≢true (ap (λ (c : Call). is_begin n (role_of c) true) (sym p ∙ ap (λ (z : Entry). z.call) s ∙ q) ∙ ap (λ (z : Bool). z && true) (eq-eqb n n refl)))
    go (inr m) = keep_among (belongs n) y between m

in_one : (front between l m after : List Entry) (b y c : Entry) → between ≡ l ++ (y ∷ m)
    → (front ++ (b ∷ between)) ++ (c ∷ after) ≡ front ++ (b ∷ (l ++ (y ∷ (m ++ (c ∷ after)))))
in_one front between l m after b y c e =
    ap (λ (k : List Entry). (front ++ (b ∷ k)) ++ (c ∷ after)) e
    ∙ append_assoc front (b ∷ (l ++ (y ∷ m))) (c ∷ after)
    ∙ ap (λ (k : List Entry). front ++ (b ∷ k)) (append_assoc l (y ∷ m) (c ∷ after))

-- FROM NO EDIT THAT SOMEBODY HAD CANCELLED: over any source of files, of every worksheet whose
-- desks are closed and every list of calls, every change in force
pub never_cancelled : (source : Source) (w : Worksheet) → at_rest w ≡ w → (cs : List Call) (e : Edit)
    → Memᴰ e (changes_by (commits_in_force w (run source cs w).entries)) → NeverCancelled (run source cs w).entries e
never_cancelled source w rest cs e h =
    let f = change_source source w rest cs e h in
    let n = f.its_commit.desk in
    let past = f.its_commit.past in
    let k = f.in_force_law in
    let x = f.its_commit.entry in
    let at-commit = commit_call n x.call k.is_commit in
    let d = undisturbed_draft source w rest cs (reverse past) k.after x n k.split at-commit k.committed in
    let y = f.its_change in
    let at-begin = begin_call n d.own_begin.call (good d.own_begin) d.begun in
    let at-change = change_call n e y.call (good y) f.belongs_to_it f.is_change in
    let its : y ∈ (d.own_begin ∷ keep (belongs n) d.between) =
    subst (λ (l : List Entry). y ∈ l) (ap (own n) (sym (reverse-reverse past)) ∙ d.own_calls) f.is_own_law in
    let at = found y d.between (since_begin n e y d.own_begin d.between at-change at-begin.0 its) in
    let quiet = none_around (disturbs n) at.before y at.after (ap (none (disturbs n)) (sym at.split) ∙ d.quiet) in
    record {
      desk = n;
      front = d.front;
      its_begin = d.own_begin;
      to_change = at.before;
      its_change = y;
      to_commit = at.after;
      its_commit = x;
      after = k.after;
      in_order = k.split ∙ ap (λ (l : List Entry). l ++ (x ∷ k.after)) d.split
          ∙ in_one d.front d.between at.before at.after k.after d.own_begin y x at.split;
      is_begin_law = at-begin.0;
      begun = at-begin.1;
      quiet_to_change = quiet.0;
      is_change = at-change;
      made = f.accepted_too;
      quiet_to_commit = quiet.1;
      is_commit = at-commit;
      committed = k.committed;
      not_taken_back = k.not_taken_back;
    }

-- ---- THE INSURER'S SENTENCE

-- over any source of files, of every worksheet whose desks are closed and every list of calls: each
-- accepted showing of the worksheet
pub insurers_sentence_lent : (source : Source) (w : Worksheet) → at_rest w ≡ w
    → (cs : List Call) (before later : List Entry) (lent figures : List Float) (count : ℕ)
    → (run source cs w).entries ≡ before ++ (record { call = show 0 lent; answer = shown (Ok count) figures } ∷ later)
    → Insured source (start_left w before) before count figures
insurers_sentence_lent source w rest cs before later lent figures count h =
    let r = run_before source cs w before (record { call = show 0 lent; answer = shown (Ok count) figures }) later h in
    let l = (run source r.0 w).entries in
    let exactly : in_force w before ≡ changed (start_left w before) (changes_by (commits_left [] before)) =
    subst (λ (k : List Entry). in_force w k ≡ changed (start_left w k) (changes_by (commits_left [] k))) r.1 (in_force_exactly source w rest r.0) in
    let edits : changes_by (commits_left [] before) ≡ changes_by (commits_in_force w l) =
    ap (λ (k : List Entry). changes_by (commits_left [] k)) (sym r.1) ∙ sym (ap changes_by (commits_exactly source w rest r.0)) in
    record {
      edits = changes_by (commits_left [] before);
      one_set = subst (λ (i : Inputs). FiguresOf source i count figures) exactly (insurers_line_lent source w rest cs before later lent figures count h);
      all_edits = refl;
      none_cancelled = λ e m.
          subst (λ (k : List Entry). NeverCancelled k e) r.1
          (never_cancelled source w rest r.0 e (subst (λ (k : List Edit). Memᴰ e k) edits m));
    }

-- for every source of files and every worksheet that open gives: from the inputs that it was opened
-- with
pub insurers_sentence : (source : Source) (opened : Inputs) → (open_of opened).answer ≡ Ok tt
    → (cs : List Call) (before later : List Entry) (lent figures : List Float) (count : ℕ)
    → (run source cs (open_of opened).sheet).entries ≡ before ++ (record { call = show 0 lent; answer = shown (Ok count) figures } ∷ later)
    → Insured source opened before count figures
unfolding open_of fresh_sheet set_of
insurers_sentence source opened given cs before later lent figures count h =
    subst (λ (i : Inputs). Insured source i before count figures) (same_start (taken_back before) opened)
    (insurers_sentence_lent source (open_of opened).sheet refl cs before later lent figures count h)
