-- A desk's draft in a worksheet, put there, turned stale, or alone with every other desk closed: by
-- the tests of the desk's number. Assumes nothing.
use Rattle.std.proofs.Common.{Option, ℕ, ◌≤◌, Bool, true, false, cond, ◌≡◌, refl, sym, ap, ◌∙◌, subst, arith, eqb, eqb-true}
use borrow.Author.Tests.{eqb-false}
use Rattle.maps.specs.declared.inputs.Inputs.{Inputs}
use Rattle.worksheet.specs.declared.desks.Draft.{Draft}
use Rattle.worksheet.specs.declared.desks.Draft.TheVariants.{Closed, Fresh, Stale}
use Rattle.worksheet.specs.declared.desks.Worksheet.{Worksheet}
use Rattle.worksheet.specs.Desks.{draft_at, with_draft, stale_of, moved_to}

-- the worksheet with every desk closed
abbrev pub at_rest : Worksheet → Worksheet
at_rest w = record { inputs = w.inputs; earlier = w.earlier; d1 = Closed; d2 = Closed; d3 = Closed; d4 = Closed }

-- desk n has a fresh draft, x
abbrev pub FreshAt : ℕ → Inputs → Worksheet → Type 0
FreshAt n x w = draft_at n w ≡ Fresh x

-- the worksheet with that draft and no other
abbrev pub alone : ℕ → Inputs → Worksheet → Worksheet
alone n x w = with_draft n (Fresh x) (at_rest w)

-- ---- the three kinds of draft differ

pub closed_not_fresh : {d : Draft} {x : Inputs} → d ≡ Closed → d ≡ Fresh x → ⊥
closed_not_fresh p q = let z : ◌≡◌ {A = ℕ} 0 1 = cc in omega arith

pub stale_not_fresh : {x y : Inputs} → Stale x ≡ Fresh y → ⊥
stale_not_fresh p = let z : ◌≡◌ {A = ℕ} 0 1 = cc in omega arith

pub fresh_same : {x y : Inputs} → Fresh x ≡ Fresh y → x ≡ y
fresh_same p = cc

turned_not_fresh : (d : Draft) (x : Inputs) → stale_of d ≡ Fresh x → ⊥
unfolding stale_of
turned_not_fresh Closed x h = closed_not_fresh refl h
turned_not_fresh (Fresh y) x h = stale_not_fresh h
turned_not_fresh (Stale y) x h = stale_not_fresh h

-- ---- one of four drafts, by four tests

abbrev chosen : (a b c d : Bool) → Draft → Draft → Draft → Draft → Draft
chosen a b c d w x y z = cond a w (cond b x (cond c y (cond d z Closed)))

none_chosen : (a b c d : Bool) → chosen a b c d Closed Closed Closed Closed ≡ Closed
none_chosen true b c d = refl
none_chosen false true c d = refl
none_chosen false false true d = refl
none_chosen false false false true = refl
none_chosen false false false false = refl

-- where each draft became n if its own test held
same_chosen : (a b c d : Bool) (n w x y z : Draft) (t : Inputs)
    → chosen a b c d (cond a n w) (cond b n x) (cond c n y) (cond d n z) ≡ Fresh t → n ≡ Fresh t
same_chosen true b c d n w x y z t h = h
same_chosen false true c d n w x y z t h = h
same_chosen false false true d n w x y z t h = h
same_chosen false false false true n w x y z t h = h
same_chosen false false false false n w x y z t h = absurd (closed_not_fresh refl h)

-- and some test holds, since some draft was found
put_chosen : (a b c d : Bool) (k l m o : Draft) (n w x y z : Draft) (t : Draft)
    → chosen a b c d k l m o ≡ t → (t ≡ Closed → ⊥) → chosen a b c d (cond a n w) (cond b n x) (cond c n y) (cond d n z) ≡ n
put_chosen true b c d k l m o n w x y z t h q = refl
put_chosen false true c d k l m o n w x y z t h q = refl
put_chosen false false true d k l m o n w x y z t h q = refl
put_chosen false false false true k l m o n w x y z t h q = refl
put_chosen false false false false k l m o n w x y z t h q = absurd (q (sym h))

turned_chosen : (a b c d : Bool) (w x y z : Draft) → chosen a b c d (stale_of w) (stale_of x) (stale_of y) (stale_of z) ≡ stale_of (chosen a b c d w x y z)
unfolding stale_of
turned_chosen true b c d w x y z = refl
turned_chosen false true c d w x y z = refl
turned_chosen false false true d w x y z = refl
turned_chosen false false false true w x y z = refl
turned_chosen false false false false w x y z = refl

again : (b : Bool) (d e x : Draft) → cond b d (cond b e x) ≡ cond b d x
again true d e x = refl
again false d e x = refl

gone : (b : Bool) (x : Inputs) → cond b Closed (stale_of (cond b (Fresh x) Closed)) ≡ Closed
unfolding stale_of
gone true x = refl
gone false x = refl

-- ---- a worksheet's drafts

pub rest_draft : (n : ℕ) (w : Worksheet) → draft_at n (at_rest w) ≡ Closed
unfolding draft_at
rest_draft n w = none_chosen (eqb n 1) (eqb n 2) (eqb n 3) (eqb n 4)

-- a worksheet whose desks are closed has no fresh draft
pub rest_none : (w : Worksheet) → at_rest w ≡ w → (n : ℕ) (x : Inputs) → FreshAt n x w → ⊥
rest_none w h n x f = closed_not_fresh (rest_draft n w) (subst (λ (v : Worksheet). FreshAt n x v) (sym h) f)

pub rest_with : (n : ℕ) (d : Draft) (w : Worksheet) → at_rest (with_draft n d w) ≡ at_rest w
unfolding with_draft
rest_with n d w = refl

pub inputs_with : (n : ℕ) (d : Draft) (w : Worksheet) → (with_draft n d w).inputs ≡ w.inputs
unfolding with_draft
inputs_with n d w = refl

pub earlier_with : (n : ℕ) (d : Draft) (w : Worksheet) → (with_draft n d w).earlier ≡ w.earlier
unfolding with_draft
earlier_with n d w = refl

-- what was put last stays
pub with_with : (n : ℕ) (d e : Draft) (w : Worksheet) → with_draft n d (with_draft n e w) ≡ with_draft n d w
unfolding with_draft
with_with n d e w = λ i. record {
  inputs = w.inputs;
  earlier = w.earlier;
  d1 = again (eqb n 1) d e w.d1 i;
  d2 = again (eqb n 2) d e w.d2 i;
  d3 = again (eqb n 3) d e w.d3 i;
  d4 = again (eqb n 4) d e w.d4 i;
}

-- what stands at desk n was put there, if it is fresh
pub with_fresh : (n : ℕ) (d : Draft) (w : Worksheet) (x : Inputs) → FreshAt n x (with_draft n d w) → d ≡ Fresh x
unfolding draft_at with_draft
with_fresh n d w x h = same_chosen (eqb n 1) (eqb n 2) (eqb n 3) (eqb n 4) d w.d1 w.d2 w.d3 w.d4 x h

-- a desk that has a fresh draft is a desk, so it has what is put there
pub with_draft_law : (n : ℕ) (v w : Worksheet) (d : Draft) (x : Inputs) → FreshAt n x v → draft_at n (with_draft n d w) ≡ d
unfolding draft_at with_draft
with_draft_law n v w d x h =
    put_chosen (eqb n 1) (eqb n 2) (eqb n 3) (eqb n 4) v.d1 v.d2 v.d3 v.d4 d w.d1 w.d2 w.d3 w.d4 (Fresh x) h (λ e. closed_not_fresh e refl)

-- so has every desk 1 to 4
pub desk_draft : (n : ℕ) (d : Draft) (w : Worksheet) → 1 ≤ n → n ≤ 4 → draft_at n (with_draft n d w) ≡ d
unfolding draft_at with_draft
desk_draft n d w l h = go (eqb n 1) (eqb n 2) (eqb n 3) (eqb n 4) refl refl refl refl
  where
    go : (a b c e : Bool) → eqb n 1 ≡ a → eqb n 2 ≡ b → eqb n 3 ≡ c → eqb n 4 ≡ e
        → chosen a b c e (cond a d w.d1) (cond b d w.d2) (cond c d w.d3) (cond e d w.d4) ≡ d
    go true b c e p q r s = refl
    go false true c e p q r s = refl
    go false false true e p q r s = refl
    go false false false true p q r s = refl
    go false false false false p q r s =
        let a : 2 ≤ n = omega (arith, eqb-false n 1 p) in
        let b : 3 ≤ n = omega (arith, eqb-false n 2 q) in
        let c : 4 ≤ n = omega (arith, eqb-false n 3 r) in
        let e : 5 ≤ n = omega (arith, eqb-false n 4 s) in
        absurd (omega arith)

-- another desk's draft stays
module _ (n m : ℕ) (d : Draft) (e : eqb n m ≡ false) where
  other : (k : ℕ) (x y : Draft) → cond (eqb m k) (cond (eqb n k) d x) y ≡ cond (eqb m k) x y
  other k x y = go (eqb m k) (eqb n k) refl refl
    where
      go : (a b : Bool) → eqb m k ≡ a → eqb n k ≡ b → cond a (cond b d x) y ≡ cond a x y
      go true true p q = absurd (eqb-false n m e (eqb-true n k q ∙ sym (eqb-true m k p)))
      go true false p q = refl
      go false b p q = refl

  pub with_other : (w : Worksheet) → draft_at m (with_draft n d w) ≡ draft_at m w
  unfolding draft_at with_draft
  with_other w =
      other 1 w.d1 _
      ∙ ap (cond (eqb m 1) w.d1) (other 2 w.d2 _
      ∙ ap (cond (eqb m 2) w.d2) (other 3 w.d3 _
      ∙ ap (cond (eqb m 3) w.d3) (other 4 w.d4 _)))

-- no draft is fresh after the inputs moved, nor where moreover desk n was closed
pub moved_not_fresh : (m : ℕ) (i : Inputs) (e : Option Inputs) (w : Worksheet) (x : Inputs) → FreshAt m x (moved_to i e w) → ⊥
unfolding draft_at moved_to
moved_not_fresh m i e w x h =
    turned_not_fresh (draft_at m w) x (sym (turned_chosen (eqb m 1) (eqb m 2) (eqb m 3) (eqb m 4) w.d1 w.d2 w.d3 w.d4) ∙ h)

pub settled_not_fresh : (n m : ℕ) (i : Inputs) (e : Option Inputs) (w : Worksheet) (x : Inputs) → FreshAt m x (with_draft n Closed (moved_to i e w)) → ⊥
settled_not_fresh n m i e w x h = go (eqb n m) refl
  where
    v : Worksheet
    v = moved_to i e w

    go : (b : Bool) → eqb n m ≡ b → ⊥
    go true q = closed_not_fresh refl (with_fresh n Closed v x (subst (λ (k : ℕ). FreshAt k x (with_draft n Closed v)) (sym (eqb-true n m q)) h))
    go false q = moved_not_fresh m i e w x (sym (with_other n m Closed q v) ∙ h)

-- of closed desks nothing turns stale
pub moved_rest : (i : Inputs) (e : Option Inputs) (w : Worksheet) → moved_to i e (at_rest w) ≡ at_rest (moved_to i e w)
unfolding moved_to stale_of
moved_rest i e w = refl

-- a draft that was alone leaves, settled, what it leaves in any worksheet, at rest
pub settled_rest : (n : ℕ) (x i : Inputs) (e : Option Inputs) (w : Worksheet)
    → with_draft n Closed (moved_to i e (alone n x w)) ≡ at_rest (with_draft n Closed (moved_to i e w))
unfolding with_draft moved_to
settled_rest n x i e w = λ k. record {
  inputs = i;
  earlier = e;
  d1 = gone (eqb n 1) x k;
  d2 = gone (eqb n 2) x k;
  d3 = gone (eqb n 3) x k;
  d4 = gone (eqb n 4) x k;
}
