-- A year file's directory is accepted exactly where it keeps document 02's rule, and 19 names the
-- lowest pair that breaks it: the check goes through the pairs in order, and each pair's test is its
-- rule. Of an accepted one the parts lie within the file and do not overlap: their ends rise.
-- Assumes nothing.
use Rattle.std.proofs.Common.{Err, Ok, ◌≡◌, refl, sym, ap, subst, ◌∙◌, Bool, true, false, cond, ◌&&◌, ◌||◌, true≢false, List, ◌⊎◌, inl, inr, ℕ, zero, suc, ◌+◌, ◌-◌, ◌*◌, ◌≤◌, ◌<◌, arith, leb, ltb, length, le-leb, leb-true, leb-false, lt-ltb, ltb-true, ltb-false, ne_eqb}
use native.Mathlib.Decide.{dec_lt}
use Rattle.base.specs.declared.refusal.Refusal.TheVariants.{Year}
use Rattle.base.specs.Refusal.{Verdict}
use Rattle.base.specs.Refusal.{verdict_report}
use Rattle.base.specs.Year.{directory_size, offset_at, length_at, end_at, floor_at, is_there, is_after, is_within, keeps_rules, pairs_check, year_check, pair_part}
use Rattle.base.proofs.verdicts.Picks.{cond_true, cond_false}
use Rattle.base.proofs.verdicts.Refusals.{refused_not_accepted}
use Rattle.base.proofs.layout.Directories.{part_there}
use Rattle.results.specs.OneYear.{GoodYear, BrokenPair, cut, early, beyond, LowestBroken, YearAnswer, taken, broken}

-- ---- a pair and its rules

-- pair k, counted from 0, is wholly there and keeps its rules
record Kept (s : List ℕ) (k : ℕ) : Type 0 where
  there : 8 * k + 8 ≤ length s
  after : floor_at s k ≤ offset_at s k
  within : (k < 13) ⊎ (end_at s k ≤ length s)

module _ (s : List ℕ) (k : ℕ) where
  kept : keeps_rules s k ≡ true → Kept s k
  unfolding keeps_rules
  kept e =
      go (is_there s k) (is_after s k) (ltb k 13) (leb (end_at s k) (length s)) (leb-true _ _) (leb-true _ _) (ltb-true _ _) (leb-true _ _) e
    where
      go :
          (a b c d : Bool) → (a ≡ true → 8 * k + 8 ≤ length s) → (b ≡ true → floor_at s k ≤ offset_at s k) →
          (c ≡ true → k < 13) → (d ≡ true → end_at s k ≤ length s) → (a && (b && (c || d))) ≡ true → Kept s k
      go true true true d f g h i e = record { there = f refl; after = g refl; within = inl (h refl) }
      go true true false true f g h i e = record { there = f refl; after = g refl; within = inr (i refl) }
      go true true false false f g h i e = absurd (true≢false (sym e))
      go true false c d f g h i e = absurd (true≢false (sym e))
      go false b c d f g h i e = absurd (true≢false (sym e))

  keeps : Kept s k → keeps_rules s k ≡ true
  unfolding keeps_rules
  keeps h =
      let a = le-leb (8 * k + 8) (length s) h.there in
      let b = le-leb (floor_at s k) (offset_at s k) h.after in
      let c = last h.within in
      λ t. a t && (b t && c t)
    where
      last : (k < 13) ⊎ (end_at s k ≤ length s) → is_within s k ≡ true
      last (inl l) = ap (λ (b : Bool). b || leb (end_at s k) (length s)) (lt-ltb k 13 l)
      last (inr l) = or_true (ltb k 13) (le-leb (end_at s k) (length s) l)
        where
          or_true : (a : Bool) {b : Bool} → b ≡ true → (a || b) ≡ true
          or_true true e = refl
          or_true false e = e

  -- a broken one, counted from 1 in a refusal
  breaks : k < 14 → keeps_rules s k ≡ false → BrokenPair s (k + 1)
  unfolding keeps_rules
  breaks l e =
      go (is_there s k) (is_after s k) (ltb k 13) (leb (end_at s k) (length s)) (leb-false _ _) (leb-false _ _) (ltb-false _ _) (leb-false _ _) e
    where
      same : k + 1 - 1 ≡ k
      same = omega arith

      go :
          (a b c d : Bool) → (a ≡ false → length s < 8 * k + 8) → (b ≡ false → offset_at s k < floor_at s k) →
          (c ≡ false → 13 ≤ k) → (d ≡ false → length s < end_at s k) → (a && (b && (c || d))) ≡ false → BrokenPair s (k + 1)
      go false b c d f g h i e = cut (let x = f refl in omega arith)
      go true false c d f g h i e =
          early (subst (λ (j : ℕ). offset_at s j < floor_at s j) (sym same) (g refl))
      go true true true d f g h i e = absurd (true≢false e)
      go true true false true f g h i e = absurd (true≢false e)
      go true true false false f g h i e =
          let x = h refl in
          let last : k ≡ 13 = omega arith in
          beyond (omega arith) (subst (λ (j : ℕ). length s < end_at s j) last (i refl))

  unkept : Kept s k → BrokenPair s (k + 1) → ⊥
  unkept h (cut x) = let a = h.there in omega arith
  unkept h (early x) =
      let e : k + 1 - 1 ≡ k = omega arith in
      let a = h.after in
      let b = subst (λ (j : ℕ). offset_at s j < floor_at s j) e x in
      omega (arith, a, b)
  unkept h (beyond e x) =
      let last : k ≡ 13 = omega arith in
      go last h.within
    where
      go : k ≡ 13 → (k < 13) ⊎ (end_at s k ≤ length s) → ⊥
      go last (inl l) = omega (arith, l, last)
      go last (inr l) = let y = subst (λ (j : ℕ). end_at s j ≤ length s) last l in omega (arith, x, y)

-- ---- the check goes through the pairs in order

module _ (s : List ℕ) where
  all_kept : (k n : ℕ) → pairs_check s k n ≡ Ok tt → (j : ℕ) → k ≤ j → j < k + n → keeps_rules s j ≡ true
  unfolding pairs_check
  all_kept k zero e j a b = absurd (omega arith)
  all_kept k (suc n) e j a b = go (λ q. all_kept (k + 1) n q j) (keeps_rules s k) refl e
    where
      go :
          (pairs_check s (k + 1) n ≡ Ok tt → k + 1 ≤ j → j < k + 1 + n → keeps_rules s j ≡ true) →
          (t : Bool) → keeps_rules s k ≡ t → cond t (pairs_check s (k + 1) n) (Err (Year (k + 1))) ≡ Ok tt → keeps_rules s j ≡ true
      go rest false p q = refused_not_accepted q
      go rest true p q = elim (dec_lt k j) [
        | yes h ↦ rest q (omega arith) (omega arith)
        | no h ↦ let same : j ≡ k = omega (arith, h) in ap (keeps_rules s) same ∙ p
      ]

  none_broken : (k n : ℕ) → ((j : ℕ) → k ≤ j → j < k + n → keeps_rules s j ≡ true) → pairs_check s k n ≡ Ok tt
  unfolding pairs_check
  none_broken k zero h = refl
  none_broken k (suc n) h =
      cond_true _ _ (h k (omega arith) (omega arith)) ∙ none_broken (k + 1) n (λ j a b. h j (omega arith) (omega arith))

  -- the first broken pair from k on is q, counted from 0
  record FirstBroken (k n q : ℕ) : Type 0 where
    low : k ≤ q
    high : q < k + n
    fails : keeps_rules s q ≡ false
    before : (j : ℕ) → k ≤ j → j < q → keeps_rules s j ≡ true

  refused_at : (k n p : ℕ) → pairs_check s k n ≡ Err (Year p) → (q : ℕ) × ((p ≡ q + 1) × FirstBroken k n q)
  unfolding pairs_check
  refused_at k zero p e = refused_not_accepted (sym e)
  refused_at k (suc n) p e = go (refused_at (k + 1) n p) (keeps_rules s k) refl e
    where
      Found : Type 0
      Found = (q : ℕ) × ((p ≡ q + 1) × FirstBroken k (suc n) q)

      further : (q : ℕ) × ((p ≡ q + 1) × FirstBroken (k + 1) n q) → keeps_rules s k ≡ true → Found
      further (q, (e, f)) t = (
        q,
        (
          e,
          record {
            low = let a = f.low in omega arith;
            high = let a = f.high in omega arith;
            fails = f.fails;
            before = λ j a b. elim (dec_lt k j) [
              | yes h ↦ f.before j (omega arith) b
              | no h ↦ let same : j ≡ k = omega (arith, h) in ap (keeps_rules s) same ∙ t
            ];
          },
        ),
      )

      go :
          (pairs_check s (k + 1) n ≡ Err (Year p) → (q : ℕ) × ((p ≡ q + 1) × FirstBroken (k + 1) n q)) →
          (t : Bool) → keeps_rules s k ≡ t → cond t (pairs_check s (k + 1) n) (Err (Year (k + 1))) ≡ Err (Year p) → Found
      go rest true t q = further (rest q) t
      go rest false t q = (
        k,
        (
          ap (λ (v : Verdict). (verdict_report v).1) (sym q),
          record { low = omega arith; high = omega arith; fails = t; before = λ j a b. absurd (omega arith) },
        ),
      )

  at_refused : (k n q : ℕ) → FirstBroken k n q → pairs_check s k n ≡ Err (Year (q + 1))
  unfolding pairs_check
  at_refused k zero q f = let a = f.low in let b = f.high in absurd (omega arith)
  at_refused k (suc n) q f = elim (dec_lt k q) [
    | yes h ↦
        cond_true _ _ (f.before k (omega arith) h)
        ∙ at_refused (k + 1) n q
        (record {
          low = omega arith;
          high = let a = f.high in omega arith;
          fails = f.fails;
          before = λ j a b. f.before j (omega arith) b;
        })
    | no h ↦
        let l = f.low in
        let same : k ≡ q = omega (arith, h, l) in
        cond_false _ _ (ap (keeps_rules s) same ∙ f.fails) ∙ ap (λ (j : ℕ). Err (Year (j + 1))) same
  ]

-- ---- accepted: the rule as document 02 has it

floor_next : (s : List ℕ) (k : ℕ) → floor_at s (k + 1) ≡ end_at s k
unfolding floor_at
floor_next s k =
    let e : k + 1 - 1 ≡ k = omega arith in
    cond_false _ _ (ne_eqb (k + 1) 0 (λ z. omega arith)) ∙ ap (end_at s) e

module _ (s : List ℕ) where
  good : year_check s ≡ Ok tt → GoodYear s
  unfolding year_check floor_at
  good e =
      let at : (k : ℕ) → k < 14 → Kept s k = λ k l. kept s k (all_kept s 0 14 e k (omega arith) (omega arith)) in
      record {
        whole = let a = (at 13 (omega arith)).there in omega arith;
        first = (at 0 (omega arith)).after;
        ordered = λ k l.
            let a = (at (k + 1) (omega arith)).after in
            let f = floor_next s k in
            omega (arith, a, f);
        last = go (at 13 (omega arith)).within;
      }
    where
      go : (13 < 13) ⊎ (end_at s 13 ≤ length s) → end_at s 13 ≤ length s
      go (inl l) = absurd (omega arith)
      go (inr l) = l

  accepted : GoodYear s → year_check s ≡ Ok tt
  unfolding year_check floor_at
  accepted g = none_broken s 0 14 (λ k a b. keeps s k (record { there = there k b; after = after k b; within = within k b }))
    where
      there : (k : ℕ) → k < 0 + 14 → 8 * k + 8 ≤ length s
      there k b = let w = g.whole in omega arith

      after : (k : ℕ) → k < 0 + 14 → floor_at s k ≤ offset_at s k
      after zero b = g.first
      after (suc k) b =
          let e : suc k ≡ k + 1 = omega arith in
          let o = g.ordered k (omega arith) in
          let f = floor_next s k in
          subst (λ (j : ℕ). floor_at s j ≤ offset_at s j) (sym e) (omega (arith, o, f))

      within : (k : ℕ) → k < 0 + 14 → (k < 13) ⊎ (end_at s k ≤ length s)
      within k b = elim (dec_lt k 13) [
        | yes h ↦ inl h
        | no h ↦ let e : 13 ≡ k = omega (arith, h, b) in inr (subst (λ (j : ℕ). end_at s j ≤ length s) e g.last)
      ]

pub year_good : (s : List ℕ) → (year_check s ≡ Ok tt → GoodYear s) × (GoodYear s → year_check s ≡ Ok tt)
year_good s = (good s, accepted s)

-- ---- refused: the lowest broken pair

module _ (s : List ℕ) (p : ℕ) where
  lowest : year_check s ≡ Err (Year p) → LowestBroken s p
  unfolding year_check
  lowest e = go (refused_at s 0 14 p e)
    where
      go : (q : ℕ) × ((p ≡ q + 1) × FirstBroken s 0 14 q) → LowestBroken s p
      go (q, (e, f)) =
          let h = f.high in
          record {
            low = omega arith;
            high = omega arith;
            broken = subst (BrokenPair s) (sym e) (breaks s q (omega arith) f.fails);
            before = λ j a b x.
                let i : j - 1 + 1 ≡ j = omega arith in
                unkept s (j - 1) (kept s (j - 1) (f.before (j - 1) (omega arith) (omega arith))) (subst (BrokenPair s) (sym i) x);
          }

  refused : LowestBroken s p → year_check s ≡ Err (Year p)
  unfolding year_check
  refused h =
      let a = h.low in
      let b = h.high in
      let e : p - 1 + 1 ≡ p = omega arith in
      at_refused s 0 14 (p - 1)
      (record {
        low = omega arith;
        high = omega arith;
        fails = is_false (keeps_rules s (p - 1)) refl;
        before = λ j c d. is_true j (omega arith) (keeps_rules s j) refl;
      })
      ∙ ap (λ (j : ℕ). Err (Year j)) e
    where
      is_false : (t : Bool) → keeps_rules s (p - 1) ≡ t → keeps_rules s (p - 1) ≡ false
      is_false false e = e
      is_false true e =
          let a = h.low in
          let i : p ≡ p - 1 + 1 = omega arith in
          absurd (unkept s (p - 1) (kept s (p - 1) e) (subst (BrokenPair s) i h.broken))

      is_true : (j : ℕ) → j + 1 < p → (t : Bool) → keeps_rules s j ≡ t → keeps_rules s j ≡ true
      is_true j l true e = e
      is_true j l false e = let b = h.high in absurd (h.before (j + 1) (omega arith) l (breaks s j (omega arith) e))

pub year_refused : (s : List ℕ) (p : ℕ) → (year_check s ≡ Err (Year p) → LowestBroken s p) × (LowestBroken s p → year_check s ≡ Err (Year p))
year_refused s p = (lowest s p, refused s p)

answers : (s : List ℕ) (k n : ℕ) → YearAnswer (pairs_check s k n)
unfolding pairs_check
answers s k zero = taken
answers s k (suc n) = go (answers s (k + 1) n) (keeps_rules s k)
  where
    go : YearAnswer (pairs_check s (k + 1) n) → (t : Bool) → YearAnswer (cond t (pairs_check s (k + 1) n) (Err (Year (k + 1))))
    go rest true = rest
    go rest false = broken (k + 1)

pub year_answers : (s : List ℕ) → YearAnswer (year_check s)
unfolding year_check
year_answers s = answers s 0 14

-- ---- the parts of an accepted year

module _ (s : List ℕ) (e : year_check s ≡ Ok tt) where
  g : GoodYear s
  g = good s e

  -- ends rise
  rising : (k n : ℕ) → k + n < 14 → end_at s k ≤ end_at s (k + n)
  unfolding end_at
  rising k zero l = let z : k + zero ≡ k = omega arith in subst (λ (j : ℕ). end_at s k ≤ end_at s j) (sym z) (omega arith)
  rising k (suc n) l =
      let z : k + suc n ≡ k + n + 1 = omega arith in
      let a = rising k n (omega arith) in
      let b = g.ordered (k + n) (omega arith) in
      subst (λ (j : ℕ). end_at s k ≤ end_at s j) (sym z) (omega (arith, a, b))

  up_to : (j k : ℕ) → j ≤ k → k < 14 → end_at s j ≤ end_at s k
  up_to j k l h = let z : j + (k - j) ≡ k = omega arith in subst (λ (i : ℕ). end_at s j ≤ end_at s i) z (rising j (k - j) (omega arith))

  pub parts_apart : (j k : ℕ) → j < k → k < 14 → end_at s j ≤ offset_at s k
  parts_apart j k l h =
      let z : k - 1 + 1 ≡ k = omega arith in
      let a = up_to j (k - 1) (omega arith) (omega arith) in
      let b = subst (λ (i : ℕ). end_at s (k - 1) ≤ offset_at s i) z (g.ordered (k - 1) (omega arith)) in
      omega (arith, a, b)

  pub parts_inside : (k : ℕ) → k < 14 →
      (pair_part s k ≡ record { from = offset_at s k; size = length_at s k }) × (directory_size ≤ offset_at s k) × (end_at s k ≤ length s)
  unfolding end_at
  parts_inside k h =
      let top = up_to k 13 (omega arith) (omega arith) in
      let last = g.last in
      let whole = g.whole in
      let inside : end_at s k ≤ length s = omega (arith, top, last) in
      (part_there s k (omega arith) inside, behind k h, inside)
    where
      behind : (k : ℕ) → k < 14 → directory_size ≤ offset_at s k
      behind zero h = g.first
      behind (suc k) h =
          let a = parts_apart 0 (suc k) (omega arith) h in
          let b = g.first in
          omega (arith, a, b)
