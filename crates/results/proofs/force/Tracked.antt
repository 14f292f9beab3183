-- After every list of calls the worksheet's inputs are those in force, its earlier set the one that
-- a take-back returns, and a fresh draft is what its begin copied with its own changes made: an
-- invariant of the run, seen to for each role. Assumes nothing.
use Rattle.std.proofs.Common.{None, Option, Some, ℕ, Bool, true, false, cond, not, ◌&&◌, ◌||◌, List, [], ◌∷◌, ◌++◌, append-nil, append_assoc, ◌≡◌, refl, sym, ap, ap₂, subst, ◌∙◌, arith, eqb, eqb-true, eq-eqb}
use mathlib.Core.Bool.{and-false, false≢true}
use mathlib.Core.List.{reverse_aux}
use Rattle.maps.specs.declared.inputs.Inputs.{Inputs}
use Rattle.worksheet.specs.declared.inputs.Edit.{Edit}
use Rattle.worksheet.specs.declared.desks.Worksheet.{Worksheet}
use Rattle.worksheet.specs.Inputs.{edited}
use Rattle.worksheet.specs.Showing.{Source}
use Rattle.worksheet.specs.Journal.{Call, Role, beginning, ending, settling, belonging, returning, showing, role_of, Entry, accepted, role_in, good, step, entry_of, run, is_begin, is_own, begins, belongs, own, none}
use Rattle.worksheet.specs.InForce.{edits_in, edits_of, changed, Standing, changes_by, inputs_by, Force, standing_before, force_in, pushed, returned_to, force_by, force_after, is_disturbing, disturbs}
use Rattle.worksheet.proofs.drafts.Drafts.{at_rest, FreshAt}
use Rattle.worksheet.proofs.lists.Replay.{Local, sheet_of, Law}
use Rattle.worksheet.proofs.lists.Rules.{law}
use Rattle.results.specs.Audit.{is_moving}

-- ---- changes one after the other

changed_append : (i : Inputs) (l m : List Edit) → changed i (l ++ m) ≡ changed (changed i l) m
unfolding changed
changed_append i [] m = refl
changed_append i (e ∷ l) m = changed_append (edited e i) l m

edits_append : (l m : List Entry) → edits_of (l ++ m) ≡ edits_of l ++ edits_of m
unfolding edits_of
edits_append [] m = refl
edits_append (x ∷ l) m = ap (λ (k : List Edit). edits_in (role_in x) ++ k) (edits_append l m) ∙ sym (append_assoc (edits_in (role_in x)) (edits_of l) (edits_of m))

-- ---- what a role does, and `b`, whether the call was accepted

still : (past : List Entry) (x : Entry) (r : Role) (b : Bool) (f : Force) → is_moving r b ≡ false → force_by past x r b f ≡ f
still past x (beginning n) b f h = refl
still past x (ending n) b f h = refl
still past x (settling n) b f h = ap (λ (z : Bool). cond z (pushed (record { desk = n; past = past; entry = x }) f) f) h
still past x (belonging n even es) b f h = refl
still past x returning b f h = ap (λ (z : Bool). cond z (returned_to f.before f) f) h
still past x showing b f h = refl

-- a call that moves nothing leaves what is in force
pub force_still : (f : Force) (x : Entry) (past : List Entry) → is_moving (role_in x) (good x) ≡ false → force_after f (x ∷ past) ≡ force_after f past
unfolding force_after
force_still f x past h = still past x (role_in x) (good x) (force_after f past) h

pub quiet_still : (n : ℕ) (r : Role) (b : Bool) → is_disturbing n r b ≡ false → is_moving r b ≡ false
quiet_still n (beginning m) b h = refl
quiet_still n (ending m) b h = refl
quiet_still n (settling m) b h = h
quiet_still n (belonging m even es) b h = refl
quiet_still n returning b h = h
quiet_still n showing b h = refl

pub begin_still : (n : ℕ) (r : Role) (b : Bool) → is_begin n r b ≡ true → is_moving r b ≡ false
begin_still n (beginning m) b h = refl
begin_still n (ending m) b h = refl
begin_still n (settling m) b h = absurd (false≢true h)
begin_still n (belonging m even es) b h = refl
begin_still n returning b h = absurd (false≢true h)
begin_still n showing b h = refl

pub quiet_unbegun : (n : ℕ) (r : Role) (b : Bool) → is_disturbing n r b ≡ false → is_begin n r b ≡ false
quiet_unbegun n (beginning m) b h = h
quiet_unbegun n (ending m) b h = refl
quiet_unbegun n (settling m) b h = refl
quiet_unbegun n (belonging m even es) b h = refl
quiet_unbegun n returning b h = refl
quiet_unbegun n showing b h = refl

-- ---- what a fresh draft is, from the entries

-- desk n's draft x of the inputs j: begun after `front`, undisturbed since, with its own changes
-- made
pub record Drafting (n : ℕ) (past : List Entry) (j x : Inputs) : Type 0 where
  pub late : List Entry
  pub its_begin : Entry
  pub front : List Entry
  pub split : past ≡ late ++ (its_begin ∷ front)
  pub begun : begins n its_begin ≡ true
  pub quiet : none (disturbs n) late ≡ true
  pub made : x ≡ changed j (edits_of (own n past))

-- one entry more that does not disturb it, by which the draft and its own calls went on alike
drafting_on : (n : ℕ) (past : List Entry) (j x v : Inputs) (y : Entry) → disturbs n y ≡ false
    → v ≡ changed j (edits_of (own n (y ∷ past))) → Drafting n past j x → Drafting n (y ∷ past) j v
unfolding none
drafting_on n past j x v y p q d = record {
  late = y ∷ d.late;
  its_begin = d.its_begin;
  front = d.front;
  split = ap (λ (k : List Entry). y ∷ k) d.split;
  begun = d.begun;
  quiet = ap (λ (z : Bool). not z && none (disturbs n) d.late) p ∙ d.quiet;
  made = q;
}

-- the own changes after an entry that is no begin and no own call
pub edits_stay : (n : ℕ) (past : List Entry) (y : Entry) → begins n y ≡ false → belongs n y ≡ false → own n (y ∷ past) ≡ own n past
unfolding own
edits_stay n past y p q =
    ap (λ (z : Bool). cond z (y ∷ []) (cond (belongs n y) (own n past ++ (y ∷ [])) (own n past))) p
    ∙ ap (λ (z : Bool). cond z (own n past ++ (y ∷ [])) (own n past)) q

-- the own changes after an own call
edits_more : (n : ℕ) (past : List Entry) (y : Entry) → begins n y ≡ false → belongs n y ≡ true
    → edits_of (own n (y ∷ past)) ≡ edits_of (own n past) ++ edits_in (role_in y)
unfolding own edits_of
edits_more n past y p q =
    ap (λ (z : Bool). edits_of (cond z (y ∷ []) (cond (belongs n y) (own n past ++ (y ∷ [])) (own n past)))) p
    ∙ ap (λ (z : Bool). edits_of (cond z (own n past ++ (y ∷ [])) (own n past))) q
    ∙ edits_append (own n past) (y ∷ [])
    ∙ ap (λ (k : List Edit). edits_of (own n past) ++ k) (append-nil (edits_in (role_in y)))

-- ---- THE INVARIANT, after the entries `past` of a run that began with f in force

-- the earlier set of what is in force
abbrev pub earlier_by : List Standing → Option Inputs
earlier_by [] = None
earlier_by (s ∷ l) = Some (inputs_by s)

pub record Holds (f : Force) (past : List Entry) (w : Worksheet) : Type 0 where
  pub at_present : w.inputs ≡ inputs_by (force_after f past).present
  pub at_earlier : w.earlier ≡ earlier_by (force_after f past).before
  pub drafts : (n : ℕ) (x : Inputs) → FreshAt n x w → Drafting n past w.inputs x

set_same : {j k : Inputs} → Some j ≡ Some k → j ≡ k
set_same p = cc

pub nothing_not_set : {j : Inputs} → None ≡ Some j → ⊥
nothing_not_set p = let z : ◌≡◌ {A = ℕ} 0 1 = cc in omega arith

-- a take-back returns the set that the worksheet has as its earlier one
returned : (before : List Standing) (f : Force) (i : Inputs) → earlier_by before ≡ Some i
    → (i ≡ inputs_by (returned_to before f).present) × (None ≡ earlier_by (returned_to before f).before)
returned [] f i h = absurd (nothing_not_set h)
returned (s ∷ l) f i h = (sym (set_same h), refl)

module _ (source : Source) (f : Force) (past : List Entry) (w : Worksheet) (g : Holds f past w) (c : Call) where
  abbrev y : Entry
  y = entry_of source c w

  abbrev v : Worksheet
  v = sheet_of source c w

  abbrev After : Role → Type 0
  After r = role_of c ≡ r → Holds f (y ∷ past) v

  -- where inputs and earlier set stay and the call moves nothing, only drafts are to be seen to
  resting : is_moving (role_in y) (good y) ≡ false → at_rest v ≡ at_rest w
      → ((n : ℕ) (x : Inputs) → FreshAt n x v → Drafting n (y ∷ past) w.inputs x) → Holds f (y ∷ past) v
  resting q h d =
      let same : v.inputs ≡ w.inputs = ap (λ (u : Worksheet). u.inputs) h in
      let force = force_still f y past q in
      record {
        at_present = same ∙ g.at_present ∙ sym (ap (λ (k : Force). inputs_by k.present) force);
        at_earlier = ap (λ (u : Worksheet). u.earlier) h ∙ g.at_earlier ∙ sym (ap (λ (k : Force). earlier_by k.before) force);
        drafts = λ n x e. subst (λ (j : Inputs). Drafting n (y ∷ past) j x) (sym same) (d n x e);
      }

  -- a draft that the call has nothing to do with
  untouched : (n : ℕ) (x : Inputs) → disturbs n y ≡ false → belongs n y ≡ false → FreshAt n x w → Drafting n (y ∷ past) w.inputs x
  untouched n x p q e =
      let d = g.drafts n x e in
      drafting_on n past w.inputs x x y p
      (d.made ∙ ap (λ (l : List Entry). changed w.inputs (edits_of l)) (sym (edits_stay n past y (quiet_unbegun n (role_in y) (good y) p) q))) d

  -- nothing moved
  unmoved : v ≡ w → ((n : ℕ) → disturbs n y ≡ false) → ((n : ℕ) → belongs n y ≡ false) → Holds f (y ∷ past) v
  unmoved h p q =
      resting (quiet_still 0 (role_in y) (good y) (p 0)) (ap at_rest h)
      (λ n x e. untouched n x (p n) (q n) (subst (λ (u : Worksheet). FreshAt n x u) h e))

  -- a call of desk n alone
  locally : (n : ℕ) → is_moving (role_in y) (good y) ≡ false → Local n w v
      → ((m : ℕ) → eqb n m ≡ false → (disturbs m y ≡ false) × (belongs m y ≡ false))
      → ((x : Inputs) → FreshAt n x v → Drafting n (y ∷ past) w.inputs x) → Holds f (y ∷ past) v
  locally n q loc other its = resting q loc.at_rest (λ m x e. go m x (eqb n m) refl e)
    where
      go : (m : ℕ) (x : Inputs) (b : Bool) → eqb n m ≡ b → FreshAt m x v → Drafting m (y ∷ past) w.inputs x
      go m x true t e =
          subst (λ (k : ℕ). FreshAt k x v → Drafting k (y ∷ past) w.inputs x) (eqb-true n m t) (its x) e
      go m x false t e = let o = other m t in untouched m x o.0 o.1 (loc.others m x t e)

  -- ---- each role

  module _ {A : Type 0} (h : Role → Bool → A) (r : Role) (e : role_of c ≡ r) where
    -- a test of the entry's role and acceptance
    with_role : (b : Bool) → accepted y.answer ≡ b → h (role_in y) (good y) ≡ h r b
    with_role b a = ap₂ h e a

  begun_after : (n : ℕ) → Law source (beginning n) c w → (b : Bool) → accepted y.answer ≡ b → After (beginning n)
  unfolding own edits_of changed none
  begun_after n l false a e =
      unmoved (l.refused a)
      (λ m. with_role (is_disturbing m) (beginning n) e false a ∙ and-false (eqb n m))
      (λ m. with_role (is_own m) (beginning n) e false a)
  begun_after n l true a e =
      let d = l.done a in
      let its : begins n y ≡ true = with_role (is_begin n) (beginning n) e true a ∙ ap (λ (z : Bool). z && true) (eq-eqb n n refl) in
      locally n (with_role is_moving (beginning n) e true a) d.local
      (λ m t. (with_role (is_disturbing m) (beginning n) e true a ∙ ap (λ (z : Bool). z && true) t, with_role (is_own m) (beginning n) e true a))
      (λ x k. record {
        late = [];
        its_begin = y;
        front = past;
        split = refl;
        begun = its;
        quiet = refl;
        made = d.copied x k
            ∙ sym (ap (λ (l : List Edit). changed w.inputs (l ++ [])) (ap edits_in e))
            ∙ ap (λ (z : Bool). changed w.inputs (edits_of (cond z (y ∷ []) (cond (belongs n y) (own n past ++ (y ∷ [])) (own n past))))) (sym its);
      })

  own_after : (n : ℕ) (even : Bool) (es : List Edit) → Law source (belonging n even es) c w → (b : Bool) → (even || accepted y.answer) ≡ b
      → After (belonging n even es)
  unfolding own edits_of changed none
  own_after n even es l false a e =
      unmoved (l.refused a)
      (λ m. with_role (is_disturbing m) (belonging n even es) e _ refl)
      (λ m. with_role (is_own m) (belonging n even es) e _ refl ∙ ap (λ (z : Bool). eqb n m && z) a ∙ and-false (eqb n m))
  own_after n even es l true a e =
      let d = l.done a in
      let r = belonging n even es in
      let its : belongs n y ≡ true = with_role (is_own n) r e _ refl ∙ ap₂ ◌&&◌ (eq-eqb n n refl) a in
      let quiet : (m : ℕ) → disturbs m y ≡ false = λ m. with_role (is_disturbing m) r e _ refl in
      locally n (with_role is_moving r e _ refl) d.local
      (λ m t. (quiet m, with_role (is_own m) r e _ refl ∙ ap (λ (z : Bool). z && (even || good y)) t))
      (λ x k.
      let o = d.alike x k in
      let before = g.drafts n o.0 o.1 in
      drafting_on n past w.inputs o.0 x y (quiet n)
      (o.2
      ∙ ap (λ (i : Inputs). changed i es) before.made
      ∙ sym (changed_append w.inputs (edits_of (own n past)) es)
      ∙ ap (λ (l : List Edit). changed w.inputs (edits_of (own n past) ++ l)) (sym (ap edits_in e))
      ∙ ap (changed w.inputs) (sym (edits_more n past y (quiet_unbegun n (role_in y) (good y) (quiet n)) its)))
      before)

  ended_after : (n : ℕ) → Law source (ending n) c w → (b : Bool) → accepted y.answer ≡ b → After (ending n)
  ended_after n l false a e =
      unmoved (l.refused a)
      (λ m. with_role (is_disturbing m) (ending n) e false a ∙ and-false (eqb n m))
      (λ m. with_role (is_own m) (ending n) e false a)
  ended_after n l true a e =
      let d = l.done a in
      locally n (with_role is_moving (ending n) e true a) d.local
      (λ m t. (with_role (is_disturbing m) (ending n) e true a ∙ ap (λ (z : Bool). z && true) t, with_role (is_own m) (ending n) e true a))
      (λ x k. absurd (d.none x k))

  settled_after : (n : ℕ) → Law source (settling n) c w → (b : Bool) → accepted y.answer ≡ b → After (settling n)
  unfolding force_after inputs_by changes_by
  settled_after n l false a e =
      unmoved (l.refused a)
      (λ m. with_role (is_disturbing m) (settling n) e false a)
      (λ m. with_role (is_own m) (settling n) e false a)
  settled_after n l true a e =
      let d = l.done a in
      let F = force_after f past in
      let es = edits_of (own n past) in
      let force : force_after f (y ∷ past) ≡ pushed (record { desk = n; past = past; entry = y }) F = with_role (λ (r : Role) (b : Bool). force_by past y r b F) (settling n) e true a in
      let draft = g.drafts n d.draft d.fresh in
      record {
        at_present =
            d.inputs ∙ draft.made
            ∙ ap (λ (i : Inputs). changed i es) g.at_present
            ∙ sym (changed_append F.present.start (changes_by F.present.commits) es)
            ∙ sym (ap (λ (k : Force). inputs_by k.present) force);
        at_earlier = d.earlier ∙ ap Some g.at_present ∙ sym (ap (λ (k : Force). earlier_by k.before) force);
        drafts = λ m x k. absurd (d.none m x k);
      }

  returned_after : Law source returning c w → (b : Bool) → accepted y.answer ≡ b → After returning
  unfolding force_after
  returned_after l false a e =
      unmoved (l.refused a)
      (λ m. with_role (is_disturbing m) returning e false a)
      (λ m. with_role (is_own m) returning e false a)
  returned_after l true a e =
      let d = l.done a in
      let F = force_after f past in
      let force : force_after f (y ∷ past) ≡ returned_to F.before F = with_role (λ (r : Role) (b : Bool). force_by past y r b F) returning e true a in
      let back = returned F.before F d.set (sym g.at_earlier ∙ d.was) in
      record {
        at_present = d.inputs ∙ back.0 ∙ sym (ap (λ (k : Force). inputs_by k.present) force);
        at_earlier = d.earlier ∙ back.1 ∙ sym (ap (λ (k : Force). earlier_by k.before) force);
        drafts = λ m x k. absurd (d.none m x k);
      }

  shown_after : Law source showing c w → After showing
  shown_after l e =
      unmoved l.same
      (λ m. with_role (is_disturbing m) showing e _ refl)
      (λ m. with_role (is_own m) showing e _ refl)

  after : (r : Role) → Law source r c w → After r
  after (beginning n) l = begun_after n l (accepted y.answer) refl
  after (ending n) l = ended_after n l (accepted y.answer) refl
  after (settling n) l = settled_after n l (accepted y.answer) refl
  after (belonging n even es) l = own_after n even es l (even || accepted y.answer) refl
  after returning l = returned_after l (accepted y.answer) refl
  after showing l = shown_after l

  pub next : Holds f (y ∷ past) v
  next = after (role_of c) (law source c w) refl

-- ---- the run

-- a worksheet whose desks are closed, with nothing called yet
pub start_holds : (w : Worksheet) → ((n : ℕ) (x : Inputs) → FreshAt n x w → ⊥) → Holds (force_in w) [] w
unfolding force_after inputs_by changes_by changed
start_holds w none = record {
  at_present = refl;
  at_earlier = go w.earlier;
  drafts = λ n x h. absurd (none n x h);
}
  where
    go : (e : Option Inputs) → e ≡ earlier_by (standing_before e)
    go None = refl
    go (Some i) = refl

module _ (source : Source) (f : Force) where
  pub run_holds : (cs : List Call) (past : List Entry) (w : Worksheet) → Holds f past w
      → Holds f (reverse_aux (run source cs w).entries past) (run source cs w).sheet
  unfolding run
  run_holds [] past w g = g
  run_holds (c ∷ cs) past w g = run_holds cs (entry_of source c w ∷ past) (step source c w).sheet (next source f past w g c)
