-- Demand 3 from one law for each role that a call has in a list. The invariant: the own calls of a
-- fresh draft, run on the worksheet as it is now with every desk closed, get the answers that they
-- got and make that draft. No rule of the desks and no file is looked into. Assumes nothing.
use Rattle.std.proofs.Common.{None, Some, ℕ, Bool, true, false, cond, ◌&&◌, ◌||◌, List, [], ◌∷◌, ◌++◌, ◌≡◌, refl, sym, ap, ap₂, subst, ◌∙◌, eqb, eqb-true, eq-eqb}
use mathlib.Core.Bool.{and-false}
use Rattle.maps.specs.declared.inputs.Inputs.{Inputs}
use Rattle.worksheet.specs.declared.inputs.Edit.{Edit}
use Rattle.worksheet.specs.declared.desks.Draft.TheVariants.{Fresh}
use Rattle.worksheet.specs.declared.desks.Worksheet.{Worksheet}
use Rattle.worksheet.specs.Desks.{with_draft}
use Rattle.worksheet.specs.Showing.{Source}
use Rattle.worksheet.specs.Journal.{Call, Role, beginning, ending, settling, belonging, returning, showing, role_of, Answer, Entry, accepted, good, Step, step, entry_of, run, is_begin, is_own, own, kept_for, shorter, calls_of, kept_of, short_run, Demand3}
use Rattle.worksheet.specs.InForce.{changed}
use Rattle.worksheet.proofs.drafts.Drafts.{at_rest, FreshAt, alone, rest_draft, closed_not_fresh}

-- from w to v, inputs and earlier set stay, and so does every fresh draft that v has at another
-- desk than n
pub record Local (n : ℕ) (w v : Worksheet) : Type 0 where
  pub at_rest : at_rest v ≡ at_rest w
  pub others : (m : ℕ) (x : Inputs) → eqb n m ≡ false → FreshAt m x v → FreshAt m x w

-- from w to v, a fresh draft that v has was there, and then inputs and earlier set stayed
abbrev pub Settled : Worksheet → Worksheet → Type 0
Settled w v = (m : ℕ) (x : Inputs) → FreshAt m x v → (at_rest v ≡ at_rest w) × FreshAt m x w

module _ (source : Source) where
  abbrev pub answer_of : Call → Worksheet → Answer
  answer_of c w = (step source c w).answer

  abbrev pub sheet_of : Call → Worksheet → Worksheet
  sheet_of c w = (step source c w).sheet

  -- on v the call c answers as on w, and leaves u
  abbrev pub Like : Call → Worksheet → Worksheet → Worksheet → Type 0
  Like c w v u = step source c v ≡ record { answer = answer_of c w; sheet = u }

  -- ---- THE LAW of each role, of a call c that has it on w

  -- where the test fails the worksheet stays; P holds where it succeeds
  pub record Ruled (test : Bool) (c : Call) (w : Worksheet) (P : Type 0) : Type 0 where
    pub refused : test ≡ false → sheet_of c w ≡ w
    pub done : test ≡ true → P

  -- a begin moves desk n's draft alone, and makes a fresh one of the worksheet at rest
  pub record BeginLaw (n : ℕ) (c : Call) (w : Worksheet) : Type 0 where
    pub local : Local n w (sheet_of c w)
    pub copied : (x : Inputs) → FreshAt n x (sheet_of c w) → x ≡ w.inputs
    pub alike : (x : Inputs) → FreshAt n x (sheet_of c w) → Like c w (at_rest w) (alone n x w)

  -- an own call moves desk n's draft alone, and makes a fresh one of the fresh one that was there,
  -- by its changes
  pub record OwnLaw (n : ℕ) (es : List Edit) (c : Call) (w : Worksheet) : Type 0 where
    pub local : Local n w (sheet_of c w)
    pub alike : (x : Inputs) → FreshAt n x (sheet_of c w)
        → (y : Inputs) × FreshAt n y w × (x ≡ changed y es) × Like c w (alone n y w) (alone n x w)

  -- an end moves desk n's draft alone, which is not fresh then
  pub record EndLaw (n : ℕ) (c : Call) (w : Worksheet) : Type 0 where
    pub local : Local n w (sheet_of c w)
    pub none : (x : Inputs) → FreshAt n x (sheet_of c w) → ⊥

  -- a settling is of a fresh draft, whose inputs it puts in the place of the worksheet's; the other
  -- drafts make no difference, and none is fresh afterwards
  pub record SettleLaw (n : ℕ) (c : Call) (w : Worksheet) : Type 0 where
    pub draft : Inputs
    pub fresh : FreshAt n draft w
    pub inputs : (sheet_of c w).inputs ≡ draft
    pub earlier : (sheet_of c w).earlier ≡ Some w.inputs
    pub alike : Like c w (alone n draft w) (at_rest (sheet_of c w))
    pub settled : Settled w (sheet_of c w)
    pub none : (m : ℕ) (x : Inputs) → FreshAt m x (sheet_of c w) → ⊥

  -- a return puts the earlier set in the place of the inputs; the drafts make no difference, and
  -- none is fresh afterwards
  pub record ReturnLaw (c : Call) (w : Worksheet) : Type 0 where
    pub set : Inputs
    pub was : w.earlier ≡ Some set
    pub inputs : (sheet_of c w).inputs ≡ set
    pub earlier : (sheet_of c w).earlier ≡ None
    pub alike : Like c w (at_rest w) (at_rest (sheet_of c w))
    pub settled : Settled w (sheet_of c w)
    pub none : (m : ℕ) (x : Inputs) → FreshAt m x (sheet_of c w) → ⊥

  -- a showing of the worksheet moves nothing and goes by no draft
  pub record ShowingLaw (c : Call) (w : Worksheet) : Type 0 where
    pub same : sheet_of c w ≡ w
    pub alike : Like c w (at_rest w) (at_rest w)

  abbrev pub Law : Role → Call → Worksheet → Type 0
  Law (beginning n) c w = Ruled (accepted (answer_of c w)) c w (BeginLaw n c w)
  Law (ending n) c w = Ruled (accepted (answer_of c w)) c w (EndLaw n c w)
  Law (settling n) c w = Ruled (accepted (answer_of c w)) c w (SettleLaw n c w)
  Law (belonging n even es) c w = Ruled (even || accepted (answer_of c w)) c w (OwnLaw n es c w)
  Law returning c w = Ruled (accepted (answer_of c w)) c w (ReturnLaw c w)
  Law showing c w = ShowingLaw c w

  -- ---- replaying

  -- from s the calls of the list get the answers that stand there, and leave t
  abbrev Replays : List Entry → Worksheet → Worksheet → Type 0
  Replays [] s t = s ≡ t
  Replays (x ∷ l) s t = (answer_of x.call s ≡ x.answer) × Replays l (sheet_of x.call s) t

  replays_append : (l m : List Entry) (s t u : Worksheet) → Replays l s t → Replays m t u → Replays (l ++ m) s u
  replays_append [] m s t u p q = subst (λ (v : Worksheet). Replays m v u) (sym p) q
  replays_append (x ∷ l) m s t u p q = (p.0, replays_append l m (sheet_of x.call s) t u p.1 q)

  -- one call more
  replays_one : (x : Entry) (l : List Entry) (s t u : Worksheet) → Replays l s t
      → step source x.call t ≡ record { answer = x.answer; sheet = u } → Replays (l ++ (x ∷ [])) s u
  replays_one x l s t u p q = replays_append l (x ∷ []) s t u p (ap (λ (r : Step). r.answer) q, ap (λ (r : Step). r.sheet) q)

  if_true : (b : Bool) (k l : List Entry) (s t : Worksheet) → b ≡ true → Replays k s t → Replays (cond b k l) s t
  if_true b k l s t e r = subst (λ (z : Bool). Replays (cond z k l) s t) (sym e) r

  if_false : (b : Bool) (k l : List Entry) (s t : Worksheet) → b ≡ false → Replays l s t → Replays (cond b k l) s t
  if_false b k l s t e r = subst (λ (z : Bool). Replays (cond z k l) s t) (sym e) r

  -- THE INVARIANT of the worksheet w after the entries `past`
  abbrev Good : List Entry → Worksheet → Type 0
  Good past w = (n : ℕ) (x : Inputs) → FreshAt n x w → Replays (own n past) (at_rest w) (alone n x w)

  -- the own calls of desk m after the entry y, which has the role r
  abbrev own_with : ℕ → List Entry → Entry → Role → List Entry
  own_with m past y r = cond (is_begin m r (good y)) (y ∷ []) (cond (is_own m r (good y)) (own m past ++ (y ∷ [])) (own m past))

  abbrev GoodWith : List Entry → Entry → Role → Worksheet → Type 0
  GoodWith past y r v = (m : ℕ) (x : Inputs) → FreshAt m x v → Replays (own_with m past y r) (at_rest v) (alone m x v)

  -- a call's part in the role r: what the shorter list has for it replays at rest, and the
  -- invariant stays
  abbrev Keeps : List Entry → Worksheet → Call → Role → Worksheet → Type 0
  Keeps past w c r v = Replays (kept_for past r (entry_of source c w)) (at_rest w) (at_rest v) × GoodWith past (entry_of source c w) r v

  module _ (past : List Entry) (w : Worksheet) (g : Good past w) (c : Call) where
    -- the invariant, where the worksheet at rest is the same
    carried : (v : Worksheet) (m : ℕ) (x : Inputs) → at_rest v ≡ at_rest w → FreshAt m x w → Replays (own m past) (at_rest v) (alone m x v)
    carried v m x e h = subst (λ (u : Worksheet). Replays (own m past) u (with_draft m (Fresh x) u)) (sym e) (g m x h)

    -- a call of desk n alone: the other desks' own calls stay, and desk n's are seen to apart
    locally : (n : ℕ) (r : Role) (v : Worksheet) → Local n w v
        → ((m : ℕ) → eqb n m ≡ false → own_with m past (entry_of source c w) r ≡ own m past)
        → ((x : Inputs) → FreshAt n x v → Replays (own_with n past (entry_of source c w) r) (at_rest w) (alone n x w))
        → GoodWith past (entry_of source c w) r v
    locally n r v loc other same m x h = go (eqb n m) refl
      where
        go : (b : Bool) → eqb n m ≡ b → Replays (own_with m past (entry_of source c w) r) (at_rest v) (alone m x v)
        go true e =
            subst (λ (u : Worksheet). Replays (own_with m past (entry_of source c w) r) u (with_draft m (Fresh x) u)) (sym loc.at_rest)
            (subst (λ (j : ℕ). FreshAt j x v → Replays (own_with j past (entry_of source c w) r) (at_rest w) (alone j x w)) (eqb-true n m e) (same x) h)
        go false e =
            subst (λ (l : List Entry). Replays l (at_rest v) (alone m x v)) (sym (other m e))
            (carried v m x loc.at_rest (loc.others m x e h))

    -- a call that is dropped: nothing is kept of it, nothing moves
    unmoved : (r : Role) → Keeps past w c r w → sheet_of c w ≡ w → Keeps past w c r (sheet_of c w)
    unmoved r h u = subst (λ (v : Worksheet). Keeps past w c r v) (sym u) h

    dropped : (n m : ℕ) (t : Bool) → t ≡ false → (eqb n m && t) ≡ false
    dropped n m t e = ap (λ (z : Bool). eqb n m && z) e ∙ and-false (eqb n m)

    -- ---- each role

    keeps_begin : (n : ℕ) → Law (beginning n) c w → (b : Bool) → accepted (answer_of c w) ≡ b → Keeps past w c (beginning n) (sheet_of c w)
    unfolding kept_for
    keeps_begin n l false e =
        unmoved (beginning n)
        (refl, λ m x h. if_false (eqb n m && accepted (answer_of c w)) _ _ _ _ (dropped n m _ e) (g m x h))
        (l.refused e)
    keeps_begin n l true e =
        let d = l.done e in
        let z = entry_of source c w in (
          sym d.local.at_rest,
          locally n (beginning n) (sheet_of c w) d.local
              (λ m q. ap (λ (t : Bool). cond (t && good z) (z ∷ []) (own m past)) q)
              (λ x h. if_true (eqb n n && good z) _ _ _ _ (ap₂ ◌&&◌ (eq-eqb n n refl) e)
              (replays_one z [] (at_rest w) (at_rest w) (alone n x w) refl (d.alike x h))),
        )

    keeps_own : (n : ℕ) (even : Bool) (es : List Edit) → Law (belonging n even es) c w → (b : Bool) → (even || accepted (answer_of c w)) ≡ b
        → Keeps past w c (belonging n even es) (sheet_of c w)
    unfolding kept_for
    keeps_own n even es l false e =
        unmoved (belonging n even es)
        (refl, λ m x h. if_false (eqb n m && (even || accepted (answer_of c w))) _ _ _ _ (dropped n m _ e) (g m x h))
        (l.refused e)
    keeps_own n even es l true e =
        let d = l.done e in
        let z = entry_of source c w in (
          sym d.local.at_rest,
          locally n (belonging n even es) (sheet_of c w) d.local
              (λ m q. ap (λ (t : Bool). cond (t && (even || good z)) (own m past ++ (z ∷ [])) (own m past)) q)
              (λ x h. let f = d.alike x h in
              if_true (eqb n n && (even || good z)) _ _ _ _ (ap₂ ◌&&◌ (eq-eqb n n refl) e)
              (replays_one z (own n past) (at_rest w) (alone n f.0 w) (alone n x w) (g n f.0 f.1) f.3)),
        )

    keeps_end : (n : ℕ) → Law (ending n) c w → (b : Bool) → accepted (answer_of c w) ≡ b → Keeps past w c (ending n) (sheet_of c w)
    unfolding kept_for
    keeps_end n l false e = unmoved (ending n) (refl, g) (l.refused e)
    keeps_end n l true e =
        let d = l.done e in
        (sym d.local.at_rest, locally n (ending n) (sheet_of c w) d.local (λ m q. refl) (λ x h. absurd (d.none x h)))

    keeps_settle : (n : ℕ) → Law (settling n) c w → (b : Bool) → accepted (answer_of c w) ≡ b → Keeps past w c (settling n) (sheet_of c w)
    unfolding kept_for
    keeps_settle n l false e = unmoved (settling n) (if_false (accepted (answer_of c w)) _ _ _ _ e refl, g) (l.refused e)
    keeps_settle n l true e =
        let d = l.done e in
        let v = sheet_of c w in (
          if_true (accepted (answer_of c w)) _ _ _ _ e
              (replays_one (entry_of source c w) (own n past) (at_rest w) (alone n d.draft w) (at_rest v) (g n d.draft d.fresh) d.alike),
          λ m x h. let s = d.settled m x h in carried v m x s.0 s.1,
        )

    keeps_return : Law returning c w → (b : Bool) → accepted (answer_of c w) ≡ b → Keeps past w c returning (sheet_of c w)
    unfolding kept_for
    keeps_return l false e = unmoved returning (if_false (accepted (answer_of c w)) _ _ _ _ e refl, g) (l.refused e)
    keeps_return l true e =
        let d = l.done e in
        let v = sheet_of c w in (
          if_true (accepted (answer_of c w)) _ _ _ _ e (replays_one (entry_of source c w) [] (at_rest w) (at_rest w) (at_rest v) refl d.alike),
          λ m x h. let s = d.settled m x h in carried v m x s.0 s.1,
        )

    keeps_showing : Law showing c w → Keeps past w c showing (sheet_of c w)
    unfolding kept_for
    keeps_showing l = unmoved showing (replays_one (entry_of source c w) [] (at_rest w) (at_rest w) (at_rest w) refl l.alike, g) l.same

    keeps : (r : Role) → Law r c w → Keeps past w c r (sheet_of c w)
    keeps (beginning n) l = keeps_begin n l (accepted (answer_of c w)) refl
    keeps (ending n) l = keeps_end n l (accepted (answer_of c w)) refl
    keeps (settling n) l = keeps_settle n l (accepted (answer_of c w)) refl
    keeps (belonging n even es) l = keeps_own n even es l (even || accepted (answer_of c w)) refl
    keeps returning l = keeps_return l (accepted (answer_of c w)) refl
    keeps showing l = keeps_showing l

  -- ---- both runs

  -- what replays is what a run gives
  replays_entries : (l : List Entry) (s t : Worksheet) → Replays l s t → (run source (calls_of l) s).entries ≡ l
  unfolding run calls_of
  replays_entries [] s t q = refl
  replays_entries (x ∷ l) s t q =
      ap₂ (λ (a : Answer) (k : List Entry). record { call = x.call; answer = a } ∷ k) q.0 (replays_entries l (sheet_of x.call s) t q.1)

  replays_sheet : (l : List Entry) (s t : Worksheet) → Replays l s t → (run source (calls_of l) s).sheet ≡ t
  unfolding run calls_of
  replays_sheet [] s t q = q
  replays_sheet (x ∷ l) s t q = replays_sheet l (sheet_of x.call s) t q.1

  module _ (law : (c : Call) (w : Worksheet) → Law (role_of c) c w) where
    run_keeps : (cs : List Call) (past : List Entry) (w : Worksheet) → Good past w
        → Replays (shorter past (run source cs w).entries) (at_rest w) (at_rest (run source cs w).sheet)
    unfolding run shorter own
    run_keeps [] past w g = refl
    run_keeps (c ∷ cs) past w g =
        let v = sheet_of c w in
        let z = entry_of source c w in
        let k = keeps past w g c (role_of c) (law c w) in
        replays_append
        (kept_for past (role_of c) z)
        (shorter (z ∷ past) (run source cs v).entries)
        (at_rest w) (at_rest v) (at_rest (run source cs v).sheet)
        k.0
        (run_keeps cs (z ∷ past) v k.1)

    -- demand 3 of every worksheet whose desks are closed
    pub alike : (w : Worksheet) → at_rest w ≡ w → (cs : List Call) → Demand3 source w cs
    unfolding kept_of short_run
    alike w h cs =
        let full = run source cs w in
        let short = shorter [] full.entries in
        let g : Good [] w = λ n x f. absurd (closed_not_fresh (rest_draft n w) (subst (λ (v : Worksheet). FreshAt n x v) (sym h) f)) in
        let q : Replays short w (at_rest full.sheet) = subst (λ (v : Worksheet). Replays short v (at_rest full.sheet)) h (run_keeps cs [] w g) in
        let s = replays_sheet short w (at_rest full.sheet) q in
        record {
          answers = replays_entries short w (at_rest full.sheet) q;
          inputs = ap (λ (u : Worksheet). u.inputs) s;
          earlier = ap (λ (u : Worksheet). u.earlier) s;
        }
