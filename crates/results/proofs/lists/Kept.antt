-- What the shorter list holds: every accepted commit and take-back and every showing of 0, in their
-- order, each commit with its own calls just before it, and nothing else. By going through the full
-- list. Assumes nothing.
use Rattle.std.proofs.Common.{ℕ, Bool, true, false, cond, not, ◌&&◌, List, [], ◌∷◌, ◌++◌, reverse, append-nil, append_assoc, ◌⊎◌, inl, inr, ◌≡◌, refl, sym, ap, ap₂, subst, ◌∙◌}
use mathlib.Core.Bool.{false≢true}
use mathlib.Core.List.Memᴰ
use mathlib.Core.List.{reverse_aux, reverse-cons, reverse-reverse, Memᴰ}
use Rattle.worksheet.specs.declared.desks.Worksheet.{Worksheet}
use Rattle.worksheet.specs.Showing.{Source}
use Rattle.worksheet.specs.Journal.{Call, commit, Role, beginning, ending, settling, belonging, returning, showing, role_of, Entry, accepted, role_in, good, run, is_begin, is_own, begins, belongs, own, kept_for, shorter, kept_of, keep, none, is_kept_by_itself, kept_by_itself, OwnCall}

-- ---- lists

keep_append : (p : Entry → Bool) (l m : List Entry) → keep p (l ++ m) ≡ keep p l ++ keep p m
unfolding keep
keep_append p [] m = refl
keep_append p (x ∷ l) m = go (p x) (keep_append p l m)
  where
    go : (b : Bool) → keep p (l ++ m) ≡ keep p l ++ keep p m
        → cond b (x ∷ keep p (l ++ m)) (keep p (l ++ m)) ≡ cond b (x ∷ keep p l) (keep p l) ++ keep p m
    go true e = ap (λ (k : List Entry). x ∷ k) e
    go false e = e

-- the entry alone, or nothing
abbrev only_if : Bool → Entry → List Entry
only_if b x = cond b (x ∷ []) []

keep_first : (b : Bool) (x : Entry) (l : List Entry) → cond b (x ∷ l) l ≡ only_if b x ++ l
keep_first true x l = refl
keep_first false x l = refl

keep_one : (p : Entry → Bool) (b : Bool) (x : Entry) → p x ≡ b → keep p (x ∷ []) ≡ only_if b x
unfolding keep
keep_one p b x e = ap (λ (z : Bool). only_if z x) e

-- ---- own calls are no settled ones

begin_unsettled : (n : ℕ) (r : Role) (b : Bool) → is_begin n r b ≡ true → is_kept_by_itself r b ≡ false
begin_unsettled n (beginning m) b e = refl
begin_unsettled n (ending m) b e = refl
begin_unsettled n (settling m) b e = absurd (false≢true e)
begin_unsettled n (belonging m even es) b e = refl
begin_unsettled n returning b e = absurd (false≢true e)
begin_unsettled n showing b e = absurd (false≢true e)

own_call_unsettled : (n : ℕ) (r : Role) (b : Bool) → is_own n r b ≡ true → is_kept_by_itself r b ≡ false
own_call_unsettled n (beginning m) b e = refl
own_call_unsettled n (ending m) b e = refl
own_call_unsettled n (settling m) b e = absurd (false≢true e)
own_call_unsettled n (belonging m even es) b e = refl
own_call_unsettled n returning b e = absurd (false≢true e)
own_call_unsettled n showing b e = absurd (false≢true e)

own_unsettled : (n : ℕ) (past : List Entry) → keep kept_by_itself (own n past) ≡ []
unfolding own keep
own_unsettled n [] = refl
own_unsettled n (x ∷ past) = go (begins n x) (belongs n x) refl refl (own_unsettled n past)
  where
    go : (b o : Bool) → begins n x ≡ b → belongs n x ≡ o → keep kept_by_itself (own n past) ≡ []
        → keep kept_by_itself (cond b (x ∷ []) (cond o (own n past ++ (x ∷ [])) (own n past))) ≡ []
    go true o p q h = keep_one kept_by_itself false x (begin_unsettled n (role_in x) (good x) p)
    go false true p q h =
        keep_append kept_by_itself (own n past) (x ∷ [])
        ∙ ap₂ ◌++◌ h (keep_one kept_by_itself false x (own_call_unsettled n (role_in x) (good x) q))
    go false false p q h = h

-- ---- KEPT IN ORDER: of the accepted commits and take-backs and the showings of the worksheet, the
-- shorter list has all, in their order

block : (past : List Entry) (x : Entry) (r : Role) → role_in x ≡ r → keep kept_by_itself (kept_for past r x) ≡ only_if (is_kept_by_itself r (good x)) x
unfolding kept_for keep
block past x (beginning n) e = refl
block past x (ending n) e = refl
block past x (belonging n even es) e = refl
block past x showing e = keep_one kept_by_itself true x (ap (λ (r : Role). is_kept_by_itself r (good x)) e)
block past x returning e = go (good x) refl
  where
    go : (b : Bool) → good x ≡ b → keep kept_by_itself (only_if b x) ≡ only_if b x
    go true g = keep_one kept_by_itself true x (ap (λ (r : Role). is_kept_by_itself r (good x)) e ∙ g)
    go false g = refl
block past x (settling n) e = go (good x) refl
  where
    go : (b : Bool) → good x ≡ b → keep kept_by_itself (cond b (own n past ++ (x ∷ [])) []) ≡ only_if b x
    go true g =
        keep_append kept_by_itself (own n past) (x ∷ [])
        ∙ ap₂ ◌++◌ (own_unsettled n past) (keep_one kept_by_itself true x (ap (λ (r : Role). is_kept_by_itself r (good x)) e ∙ g))
    go false g = refl

in_order : (past l : List Entry) → keep kept_by_itself (shorter past l) ≡ keep kept_by_itself l
unfolding shorter keep
in_order past [] = refl
in_order past (x ∷ l) =
    keep_append kept_by_itself (kept_for past (role_in x) x) (shorter (x ∷ past) l)
    ∙ ap₂ ◌++◌ (block past x (role_in x) refl) (in_order (x ∷ past) l)
    ∙ sym (keep_first (kept_by_itself x) x (keep kept_by_itself l))

pub kept_in_order : (source : Source) (w : Worksheet) (cs : List Call) → keep kept_by_itself (kept_of source w cs) ≡ keep kept_by_itself (run source cs w).entries
unfolding kept_of
kept_in_order source w cs = in_order [] (run source cs w).entries

-- ---- JUST BEFORE: the shorter list goes entry by entry, and own calls stand just before their
-- commit

pub shorter_append : (past l m : List Entry) → shorter past (l ++ m) ≡ shorter past l ++ shorter (reverse_aux l past) m
unfolding shorter
shorter_append past [] m = refl
shorter_append past (x ∷ l) m =
    ap (λ (k : List Entry). kept_for past (role_in x) x ++ k) (shorter_append (x ∷ past) l m)
    ∙ sym (append_assoc (kept_for past (role_in x) x) (shorter (x ∷ past) l) (shorter (reverse_aux l (x ∷ past)) m))

pub just_before : (n : ℕ) (before after : List Entry) (x : Entry) → x.call ≡ commit n → accepted x.answer ≡ true
    → shorter [] (before ++ (x ∷ after)) ≡ shorter [] before ++ (own n (reverse before) ++ (x ∷ shorter (x ∷ reverse before) after))
unfolding shorter kept_for
just_before n before after x c good =
    let past = reverse before in
    let later = shorter (x ∷ past) after in
    shorter_append [] before (x ∷ after)
    ∙ ap (λ (k : List Entry). shorter [] before ++ k)
    (ap (λ (z : Call). kept_for past (role_of z) x ++ later) c
    ∙ ap (λ (z : Bool). cond z (own n past ++ (x ∷ [])) [] ++ later) good
    ∙ append_assoc (own n past) (x ∷ []) later)

-- ---- NOTHING ELSE

infix 20 ◌∈◌
abbrev pub ◌∈◌ : Entry → List Entry → Type 0
y ∈ l = Memᴰ y l

-- an own call is an accepted begin of its desk, or belongs to it
pub own_member : (n : ℕ) (y : Entry) (past : List Entry) → y ∈ (own n past) → (begins n y ≡ true) ⊎ (belongs n y ≡ true)
unfolding own
own_member n y [] h = absurd (Memᴰ.not-nil h)
own_member n y (x ∷ past) h = go (begins n x) (belongs n x) refl refl (own_member n y past) h
  where
    is_x : y ∈ (x ∷ []) → y ≡ x
    is_x m = Memᴰ.eq_of_singleton m

    go : (b o : Bool) → begins n x ≡ b → belongs n x ≡ o
        → (y ∈ (own n past) → (begins n y ≡ true) ⊎ (belongs n y ≡ true))
        → y ∈ (cond b (x ∷ []) (cond o (own n past ++ (x ∷ [])) (own n past))) → (begins n y ≡ true) ⊎ (belongs n y ≡ true)
    go true o p q below m = inl (ap (begins n) (is_x m) ∙ p)
    go false true p q below m = either (Memᴰ.append_cases (own n past) m)
      where
        either : y ∈ (own n past) ⊎ y ∈ (x ∷ []) → (begins n y ≡ true) ⊎ (belongs n y ≡ true)
        either (inl k) = below k
        either (inr k) = inr (ap (belongs n) (is_x k) ∙ q)
    go false false p q below m = below m

-- and it stands before the commit
own_among : (n : ℕ) (y : Entry) (past : List Entry) → y ∈ (own n past) → y ∈ past
unfolding own
own_among n y [] h = absurd (Memᴰ.not-nil h)
own_among n y (x ∷ past) h = go (begins n x) (belongs n x) (own_among n y past) h
  where
    first : y ∈ (x ∷ []) → y ∈ (x ∷ past)
    first m = Memᴰ.head (Memᴰ.eq_of_singleton m)

    go : (b o : Bool) → (y ∈ (own n past) → y ∈ past) → y ∈ (cond b (x ∷ []) (cond o (own n past ++ (x ∷ [])) (own n past))) → y ∈ (x ∷ past)
    go true o below m = first m
    go false true below m = either (Memᴰ.append_cases (own n past) m)
      where
        either : y ∈ (own n past) ⊎ y ∈ (x ∷ []) → y ∈ (x ∷ past)
        either (inl k) = Memᴰ.tail (below k)
        either (inr k) = first k
    go false false below m = Memᴰ.tail (below m)

among_reverse : (y : Entry) (l r : List Entry) → (y ∈ l) ⊎ (y ∈ r) → y ∈ (reverse_aux l r)
among_reverse y [] r (inl m) = absurd (Memᴰ.not-nil m)
among_reverse y [] r (inr m) = m
among_reverse y (x ∷ l) r h = among_reverse y l (x ∷ r) (shift h)
  where
    of : (y ≡ x) ⊎ (y ∈ l) → (y ∈ l) ⊎ (y ∈ (x ∷ r))
    of (inl e) = inr (Memᴰ.head e)
    of (inr m) = inl m

    shift : (y ∈ (x ∷ l)) ⊎ (y ∈ r) → (y ∈ l) ⊎ (y ∈ (x ∷ r))
    shift (inl m) = of (Memᴰ.cases_cons m)
    shift (inr m) = inr (Memᴰ.tail m)

in_block : (past later : List Entry) (x y : Entry) → y ∈ (kept_for past (role_in x) x) → (kept_by_itself y ≡ true) ⊎ OwnCall (reverse past ++ (x ∷ later)) y
unfolding kept_for
in_block past later x y h = of (role_in x) refl h
  where
    Good : Type 0
    Good = (kept_by_itself y ≡ true) ⊎ OwnCall (reverse past ++ (x ∷ later)) y

    as_x : kept_by_itself x ≡ true → y ∈ (x ∷ []) → Good
    as_x e m = inl (ap kept_by_itself (Memᴰ.eq_of_singleton m) ∙ e)

    if_x : (b : Bool) → (b ≡ true → kept_by_itself x ≡ true) → y ∈ (only_if b x) → Good
    if_x true e m = as_x (e refl) m
    if_x false e m = absurd (Memᴰ.not-nil m)

    committed_by : (n : ℕ) → role_in x ≡ settling n → (b : Bool) → good x ≡ b → y ∈ (cond b (own n past ++ (x ∷ [])) []) → Good
    committed_by n c true e m = either (Memᴰ.append_cases (own n past) m)
      where
        either : y ∈ (own n past) ⊎ y ∈ (x ∷ []) → Good
        either (inl k) = inr (record {
          desk = n;
          before = reverse past;
          its_commit = x;
          after = later;
          split = refl;
          is_commit = c;
          committed = e;
          is_own_law = subst (λ (l : List Entry). y ∈ (own n l)) (sym (reverse-reverse past)) k;
          stands_before = among_reverse y past [] (inl (own_among n y past k));
          begins_or_belongs = own_member n y past k;
        })
        either (inr k) = as_x (ap (λ (r : Role). is_kept_by_itself r (good x)) c ∙ e) k
    committed_by n c false e m = absurd (Memᴰ.not-nil m)

    of : (r : Role) → role_in x ≡ r → y ∈ (kept_for past r x) → Good
    of (beginning n) e m = absurd (Memᴰ.not-nil m)
    of (ending n) e m = absurd (Memᴰ.not-nil m)
    of (belonging n even es) e m = absurd (Memᴰ.not-nil m)
    of returning e m = if_x (good x) (λ g. ap (λ (r : Role). is_kept_by_itself r (good x)) e ∙ g) m
    of showing e m = as_x (ap (λ (r : Role). is_kept_by_itself r (good x)) e) m
    of (settling n) e m = committed_by n e (good x) refl m

all_blocks : (past l : List Entry) (y : Entry) → y ∈ (shorter past l) → (kept_by_itself y ≡ true) ⊎ OwnCall (reverse past ++ l) y
unfolding shorter
all_blocks past [] y h = absurd (Memᴰ.not-nil h)
all_blocks past (x ∷ later) y h = go (all_blocks (x ∷ past) later y) (Memᴰ.append_cases (kept_for past (role_in x) x) h)
  where
    same : reverse (x ∷ past) ++ later ≡ reverse past ++ (x ∷ later)
    same = ap (λ (k : List Entry). k ++ later) (reverse-cons x past) ∙ append_assoc (reverse past) (x ∷ []) later

    go : (y ∈ (shorter (x ∷ past) later) → (kept_by_itself y ≡ true) ⊎ OwnCall (reverse (x ∷ past) ++ later) y)
        → y ∈ (kept_for past (role_in x) x) ⊎ y ∈ (shorter (x ∷ past) later) → (kept_by_itself y ≡ true) ⊎ OwnCall (reverse past ++ (x ∷ later)) y
    go below (inl m) = in_block past later x y m
    go below (inr m) = subst (λ (k : List Entry). (kept_by_itself y ≡ true) ⊎ OwnCall k y) same (below m)

pub nothing_else : (full : List Entry) (y : Entry) → y ∈ (shorter [] full) → (kept_by_itself y ≡ true) ⊎ OwnCall full y
nothing_else full y h = all_blocks [] full y h

-- ---- OWN CALLS: the last accepted begin, and what belongs to the desk since

pub none_first : (p : Entry → Bool) (x : Entry) (l : List Entry) → none p (x ∷ l) ≡ true → (p x ≡ false) × (none p l ≡ true)
unfolding none
none_first p x l h = go (p x) (none p l) h
  where
    go : (a b : Bool) → (not a && b) ≡ true → (a ≡ false) × (b ≡ true)
    go true b e = absurd (false≢true e)
    go false b e = (refl, e)

pub own_calls : (n : ℕ) (late : List Entry) (b : Entry) (front : List Entry) → begins n b ≡ true → none (begins n) late ≡ true
    → own n (late ++ (b ∷ front)) ≡ b ∷ keep (belongs n) (reverse late)
unfolding own keep
own_calls n [] b front h q = ap (λ (z : Bool). cond z (b ∷ []) (cond (belongs n b) (own n front ++ (b ∷ [])) (own n front))) h
own_calls n (x ∷ late) b front h q =
    let f = none_first (begins n) x late q in
    ap (λ (z : Bool). cond z (x ∷ []) (cond (belongs n x) (own n l ++ (x ∷ [])) (own n l))) f.0
    ∙ ap (λ (k : List Entry). cond (belongs n x) (k ++ (x ∷ [])) k) (own_calls n late b front h f.1)
    ∙ pull (belongs n x) refl
  where
    l : List Entry
    l = late ++ (b ∷ front)

    since : List Entry
    since = keep (belongs n) (reverse late)

    one_more : (o : Bool) → cond o (b ∷ (since ++ (x ∷ []))) (b ∷ since) ≡ b ∷ (since ++ only_if o x)
    one_more true = refl
    one_more false = ap (λ (k : List Entry). b ∷ k) (sym (append-nil since))

    pull : (o : Bool) → belongs n x ≡ o → cond o (b ∷ (since ++ (x ∷ []))) (b ∷ since) ≡ b ∷ keep (belongs n) (reverse (x ∷ late))
    pull o e =
        one_more o
        ∙ ap (λ (k : List Entry). b ∷ k)
        (ap (λ (k : List Entry). since ++ k) (sym (keep_one (belongs n) o x e))
        ∙ sym (keep_append (belongs n) (reverse late) (x ∷ []))
        ∙ ap (keep (belongs n)) (sym (reverse-cons x late)))
