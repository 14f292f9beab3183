-- Document 01, Figures: 'Where `min` or `max` meets one NaN it gives the other operand; of equals,
-- the left'; otherwise it gives the lesser or the greater. Two numbers are equal or one is less,
-- and never two of these, so that these laws leave one `min` and one `max`. Assumes nothing.
use Rattle.std.proofs.Common.{◌≡◌, refl, sym, ap, ◌∙◌, subst, ◌⊎◌, inl, inr, Bool, true, false, not, ◌||◌, ◌+◌, ◌*◌, arith, T, eqb, ltb→lt, eqb→eq, Float, le-ltb}
use lib.Ieee.{nan, inf, fin, up, down, lt, eq, le, is_nan}
use lib.Ieee.Fits.{and_l, and_r}
use lib.Ieee.Bits.{is_true}
use Rattle.base.specs.Number.{min_of, max_of}
use Rattle.results.specs.ElementarySteps.{Chooses}
use Rattle.base.proofs.verdicts.Picks.{cond_true, cond_false}
use Rattle.base.proofs.order.Order.{not-lt→le}

-- ---- less, equal and greater shut each other out

-- of two numbers that are less or equal none is a NaN
lt_left : (a b : Float) → T (lt a b) → is_nan a ≡ false
unfolding lt is_nan
lt_left nan b h = absurd h
lt_left (inf s) b h = refl
lt_left (fin s m e) b h = refl

lt_right : (a b : Float) → T (lt a b) → is_nan b ≡ false
unfolding lt is_nan
lt_right nan nan h = absurd h
lt_right (inf s) nan h = absurd h
lt_right (fin s m e) nan h = absurd h
lt_right a (inf t) h = refl
lt_right a (fin t n d) h = refl

eq_left : (a b : Float) → T (eq a b) → is_nan a ≡ false
unfolding eq is_nan
eq_left nan b h = absurd h
eq_left (inf s) b h = refl
eq_left (fin s m e) b h = refl

pub lt_asym : (a b : Float) → T (lt a b) → lt b a ≡ false
unfolding lt
lt_asym nan b h = absurd h
lt_asym (inf s) nan h = absurd h
lt_asym (inf true) (inf true) h = absurd h
lt_asym (inf true) (inf false) h = refl
lt_asym (inf false) (inf t) h = absurd h
lt_asym (inf true) (fin t n d) h = refl
lt_asym (inf false) (fin t n d) h = absurd h
lt_asym (fin s m e) nan h = absurd h
lt_asym (fin s m e) (inf true) h = absurd h
lt_asym (fin s m e) (inf false) h = refl
lt_asym (fin false m e) (fin false n d) h =
    let A = m * up e * down d in
    let B = n * up d * down e in
    let l = ltb→lt A B h in
    le-ltb B A (omega arith)
lt_asym (fin false m e) (fin true n d) h = absurd h
lt_asym (fin true m e) (fin false n d) h = refl
lt_asym (fin true m e) (fin true n d) h =
    let A = m * up e * down d in
    let B = n * up d * down e in
    let l = ltb→lt B A h in
    le-ltb A B (omega arith)

eq_neither : (a b : Float) → T (eq a b) → (lt a b ≡ false) × (lt b a ≡ false)
unfolding lt eq
eq_neither nan b h = absurd h
eq_neither (inf s) nan h = absurd h
eq_neither (inf true) (inf true) h = (refl, refl)
eq_neither (inf true) (inf false) h = absurd h
eq_neither (inf false) (inf true) h = absurd h
eq_neither (inf false) (inf false) h = (refl, refl)
eq_neither (inf s) (fin t n d) h = absurd h
eq_neither (fin s m e) nan h = absurd h
eq_neither (fin s m e) (inf t) h = absurd h
eq_neither (fin false m e) (fin false n d) h =
    let A = m * up e * down d in
    let B = n * up d * down e in
    let q = eqb→eq A B (and_l (eqb A B) true h) in
    (le-ltb A B (omega arith), le-ltb B A (omega arith))
eq_neither (fin false m e) (fin true n d) h =
    let A = m * up e * down d in
    let B = n * up d * down e in
    let q = eqb→eq A B (and_l (eqb A B) (eqb A 0) h) in
    let z = eqb→eq A 0 (and_r (eqb A B) (eqb A 0) h) in
    (refl, le-ltb 0 (B + A) (omega arith))
eq_neither (fin true m e) (fin false n d) h =
    let A = m * up e * down d in
    let B = n * up d * down e in
    let q = eqb→eq A B (and_l (eqb A B) (eqb A 0) h) in
    let z = eqb→eq A 0 (and_r (eqb A B) (eqb A 0) h) in
    (le-ltb 0 (A + B) (omega arith), refl)
eq_neither (fin true m e) (fin true n d) h =
    let A = m * up e * down d in
    let B = n * up d * down e in
    let q = eqb→eq A B (and_l (eqb A B) true h) in
    (le-ltb B A (omega arith), le-ltb A B (omega arith))

-- ---- min and max

min_right_nan : (a : Float) → min_of a nan ≡ a
unfolding min_of is_nan lt
min_right_nan nan = refl
min_right_nan (inf s) = refl
min_right_nan (fin s m e) = refl

pub min_law : Chooses lt min_of
unfolding min_of is_nan
min_law =
    record {
      nan_left = λ b. refl;
      nan_right = min_right_nan;
      equals = λ a b h. cond_false _ _ (eq_left a b h) ∙ cond_false _ _ (eq_neither a b h).1;
      left = λ a b h. cond_false _ _ (lt_left a b h) ∙ cond_false _ _ (lt_asym a b h);
      right = λ a b h. cond_false _ _ (lt_right b a h) ∙ cond_true _ _ (is_true (lt b a) h);
    }

max_right_nan : (a : Float) → max_of a nan ≡ a
unfolding max_of is_nan lt
max_right_nan nan = refl
max_right_nan (inf s) = refl
max_right_nan (fin s m e) = refl

pub max_law : Chooses (λ a b. lt b a) max_of
unfolding max_of is_nan
max_law =
    record {
      nan_left = λ b. refl;
      nan_right = max_right_nan;
      equals = λ a b h. cond_false _ _ (eq_left a b h) ∙ cond_false _ _ (eq_neither a b h).0;
      left = λ a b h. cond_false _ _ (lt_right b a h) ∙ cond_false _ _ (lt_asym b a h);
      right = λ a b h. cond_false _ _ (lt_left a b h) ∙ cond_true _ _ (is_true (lt a b) h);
    }

-- ---- and no other

-- a NaN or a number
nan_or : (x : Float) → (x ≡ nan) ⊎ T (not (is_nan x))
unfolding is_nan
nan_or nan = inl refl
nan_or (inf s) = inr tt
nan_or (fin s m e) = inr tt

-- what is at most and not less is equal
at_most : (a b : Float) → T (le a b) → lt a b ≡ false → T (eq a b)
unfolding le
at_most a b h e = subst (λ (t : Bool). T (t || eq a b)) e h

trichotomy : (a b : Float) → T (not (is_nan a)) → T (not (is_nan b)) → T (lt a b) ⊎ (T (lt b a) ⊎ T (eq a b))
trichotomy a b p q = go (lt a b) (lt b a) refl refl
  where
    go : (s t : Bool) → lt a b ≡ s → lt b a ≡ t → T s ⊎ (T t ⊎ T (eq a b))
    go true t e f = inl tt
    go false true e f = inr (inl tt)
    go false false e f = inr (inr (at_most a b (not-lt→le b a q p f) e))

-- two that choose alike are the same
pub one_choice : (before : Float → Float → Bool) (f g : Float → Float → Float) → ((a b : Float) → T (lt a b) → T (before a b) ⊎ T (before b a)) →
    Chooses before f → Chooses before g → (a b : Float) → f a b ≡ g a b
one_choice before f g o x y a b = elim (nan_or a) [
  | inl e ↦ ap (λ (z : Float). f z b) e ∙ (x.nan_left b ∙ sym (y.nan_left b)) ∙ ap (λ (z : Float). g z b) (sym e)
  | inr p ↦ elim (nan_or b) [
    | inl e ↦ ap (λ (z : Float). f a z) e ∙ (x.nan_right a ∙ sym (y.nan_right a)) ∙ ap (λ (z : Float). g a z) (sym e)
    | inr q ↦ elim (trichotomy a b p q) [
      | inl h ↦ elim (o a b h) [ inl u ↦ by_left u | inr u ↦ by_right u ]
      | inr (inl h) ↦ elim (o b a h) [ inl u ↦ by_right u | inr u ↦ by_left u ]
      | inr (inr h) ↦ x.equals a b h ∙ sym (y.equals a b h)
    ]
  ]
]
  where
    by_left : T (before a b) → f a b ≡ g a b
    by_left u = x.left a b u ∙ sym (y.left a b u)

    by_right : T (before b a) → f a b ≡ g a b
    by_right u = x.right a b u ∙ sym (y.right a b u)

pub min_only : (f : Float → Float → Float) → Chooses lt f → (a b : Float) → f a b ≡ min_of a b
min_only f c = one_choice lt f min_of (λ a b h. inl h) c min_law

pub max_only : (f : Float → Float → Float) → Chooses (λ a b. lt b a) f → (a b : Float) → f a b ≡ max_of a b
max_only f c = one_choice (λ a b. lt b a) f max_of (λ a b h. inr h) c max_law
