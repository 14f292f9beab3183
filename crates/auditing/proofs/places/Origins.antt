-- The origin of a part, a call at a time from the last to the first: the change that a commit brings,
-- or else the origin by the calls before it. Assumes nothing.
use Rattle.std.proofs.Common.{ℕ, zero, suc, ◌-◌, ◌<◌, ◌≤◌, Bool, true, false, cond, ◌≡◌, refl, sym, ap, ◌∙◌, arith, List, eqb-true, ne_eqb}
use Rattle.base.proofs.ladder.Ladders.{and_left, not_left}
use Rattle.base.proofs.verdicts.Picks.{never'}
use Rattle.auditing.specs.declared.marks.Origin.{Origin}
use Rattle.auditing.specs.declared.marks.Origin.TheVariants.{Opened, Set}
use Rattle.auditing.specs.Marks.{mark_sort, mark_good, mark_desk, is_done, is_done_by, mark_at, change_before, origin_before, back_before, brought_by}

-- the first where it is a change, else the other
abbrev pub or_else : Origin → Origin → Origin
or_else Opened other = other
or_else (Set place settled) other = Set place settled

-- the place before k
pub down : (k : ℕ) → 0 < k → k ≡ suc (k - 1)
down k h = omega arith

pub start : (k : ℕ) → k ≤ 0 → k ≡ 0
start k h = omega arith

module _ (ms : List ℕ) (part n settled : ℕ) where
  -- one call more, by the mark m of the call before place k
  pub change_next :
      (other : Origin) (k m : ℕ) → 0 < k → m ≡ mark_at ms (k - 1) →
      change_before ms part n settled other k
      ≡ cond (is_done_by 8 n m) other (cond (is_done_by part n m) (Set (k - 1) settled) (change_before ms part n settled other (k - 1)))
  unfolding change_before
  change_next other k m h e =
      ap (change_before ms part n settled other) (down k h)
      ∙ ap (λ (x : ℕ). cond (is_done_by 8 n x) other (cond (is_done_by part n x) (Set (k - 1) settled) (change_before ms part n settled other (k - 1)))) (sym e)

  pub change_start : (other : Origin) (k : ℕ) → k ≤ 0 → change_before ms part n settled other k ≡ other
  unfolding change_before
  change_start other k h = ap (change_before ms part n settled other) (start k h)

  -- the change that is found, or what else there is
  pub change_else : (other : Origin) (j : ℕ) → change_before ms part n settled other j ≡ or_else (change_before ms part n settled Opened j) other
  unfolding change_before
  change_else other zero = refl
  change_else other (suc j) = go (is_done_by 8 n (mark_at ms j)) (is_done_by part n (mark_at ms j)) (change_before ms part n settled other j) (change_before ms part n settled Opened j) (change_else other j)
    where
      go :
          (begun found : Bool) (x y : Origin) → x ≡ or_else y other →
          cond begun other (cond found (Set j settled) x) ≡ or_else (cond begun Opened (cond found (Set j settled) y)) other
      go true found x y e = refl
      go false true x y e = refl
      go false false x y e = e

-- no call is a commit and a take-back
one_sort : (m : ℕ) → is_done 11 m ≡ true → is_done 9 m ≡ false
one_sort m e =
    let a : mark_sort m ≡ 11 = eqb-true (mark_sort m) 11 (and_left _ (mark_good m) e) in
    not_left (mark_good m) (ne_eqb (mark_sort m) 9 (λ b. omega arith))

module _ (ms : List ℕ) (part : ℕ) where
  -- what the call at place j brings, or else the origin by the calls before it
  origin_suc :
      (back : Bool) (j : ℕ) →
      origin_before ms part back (suc j) ≡ or_else (brought_by ms part back j) (origin_before ms part (back_before back (mark_at ms j)) j)
  unfolding origin_before brought_by back_before
  origin_suc back j = go (is_done 11 m) (is_done 9 m) back (one_sort m)
    where
      m : ℕ
      m = mark_at ms j

      O : Bool → Origin
      O b = origin_before ms part b j

      go :
          (returned settled back : Bool) → (returned ≡ true → settled ≡ false) →
          cond returned (O true) (cond settled (cond back (O false) (change_before ms part (mark_desk m) j (O false) j)) (O back))
          ≡ or_else (cond back Opened (cond settled (change_before ms part (mark_desk m) j Opened j) Opened))
          (O (cond returned true (cond settled false back)))
      go true true back h = never' (h refl)
      go true false true h = refl
      go true false false h = refl
      go false true true h = refl
      go false true false h = change_else ms part (mark_desk m) j (O false) j
      go false false true h = refl
      go false false false h = refl

  pub origin_start : (back : Bool) (k : ℕ) → k ≤ 0 → origin_before ms part back k ≡ Opened
  unfolding origin_before
  origin_start back k h = ap (origin_before ms part back) (start k h)

  origin_next :
      (back : Bool) (k : ℕ) {x : Origin} → 0 < k → x ≡ brought_by ms part back (k - 1) →
      origin_before ms part back k ≡ or_else x (origin_before ms part (back_before back (mark_at ms (k - 1))) (k - 1))
  origin_next back k h e =
      ap (origin_before ms part back) (down k h)
      ∙ origin_suc back (k - 1)
      ∙ ap (λ (o : Origin). or_else o (origin_before ms part (back_before back (mark_at ms (k - 1))) (k - 1))) (sym e)

  -- x is what the call before place k brings: a change
  pub origin_found :
      (back : Bool) (k : ℕ) {x : Origin} (place settled : ℕ) → 0 < k → x ≡ brought_by ms part back (k - 1) → x ≡ Set place settled →
      origin_before ms part back k ≡ Set place settled
  origin_found back k place settled h e f =
      origin_next back k h e ∙ ap (λ (o : Origin). or_else o (origin_before ms part (back_before back (mark_at ms (k - 1))) (k - 1))) f

  -- or none
  pub origin_on :
      (back : Bool) (k m : ℕ) {x : Origin} → 0 < k → x ≡ brought_by ms part back (k - 1) → x ≡ Opened → m ≡ mark_at ms (k - 1) →
      origin_before ms part back k ≡ origin_before ms part (back_before back m) (k - 1)
  origin_on back k m h e f g =
      origin_next back k h e
      ∙ ap (λ (o : Origin). or_else o (origin_before ms part (back_before back (mark_at ms (k - 1))) (k - 1))) f
      ∙ ap (λ (x : ℕ). origin_before ms part (back_before back x) (k - 1)) (sym g)

  -- what the call at place j brings, by its mark
  pub brought_at :
      (back : Bool) (j m : ℕ) → m ≡ mark_at ms j →
      brought_by ms part back j ≡ cond back Opened (cond (is_done 9 m) (change_before ms part (mark_desk m) j Opened j) Opened)
  unfolding brought_by
  brought_at back j m e =
      ap (λ (x : ℕ). cond back Opened (cond (is_done 9 x) (change_before ms part (mark_desk x) j Opened j) Opened)) (sym e)
