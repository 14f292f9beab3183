-- The walk in fours, by whole records: what lies between two markers is passed at once, so that 18
-- markers and the length decide. Assumes nothing.
use Rattle.std.proofs.Common.{◌≡◌, ℕ, zero, suc, ◌+◌, ◌*◌, ◌/◌, ◌%◌, ◌<◌, ◌≤◌, Bool, true, false, cond, T, eqb, ltb, leb, ◌⊎◌, List, [], ◌∷◌, ◌++◌, length, get_or, drop, replicate, sym, refl, ap, ◌∙◌, inl, inr, add-one, arith, eqb→eq, leb→le, drop-cons, eq-eqb, ne_eqb, eqb-true, le-leb, leb-true, Err, Ok}
use native.Mathlib.Decide.{dec_le, ℕ_discrete}
use borrow.Author.Tests.{lt-leb, eqb-false}
use Rattle.base.proofs.verdicts.Picks.{cond_true, cond_false}
use Rattle.base.specs.Words.{word_at}
use Rattle.base.specs.declared.refusal.Refusal.TheVariants.{Ended, Marker}
use Rattle.base.specs.Refusal.{Verdict}
use Rattle.base.specs.MonthFile.{month_file_size, sizes, Four, marker, anything, layout, is_right, walk, month_file_check, Marked, RecordSize}
use Rattle.base.proofs.lists.Entries.{at as entry}
use Rattle.base.proofs.verdicts.Refusals.{refused_not_accepted}

abbrev ended : ℕ → Verdict
ended at = Err (Ended at)

module _ (s : List ℕ) where
  -- a step
  pub step : (at : ℕ) (f : Four) (fs : List Four) → at + 4 ≤ length s → is_right s at f ≡ true → walk s at (f ∷ fs) ≡ walk s (at + 4) fs
  unfolding walk
  step at f fs h r = cond_true _ _ (le-leb _ _ h) ∙ cond_true _ _ r

  pub wrong : (at n : ℕ) (fs : List Four) → at + 4 ≤ length s → (word_at s at ≡ n → ⊥) → walk s at (marker n ∷ fs) ≡ Err (Marker at)
  unfolding walk
  wrong at n fs h r = cond_true _ _ (le-leb _ _ h) ∙ cond_false _ _ (ne_eqb _ _ r)

  gone : (at : ℕ) (f : Four) (fs : List Four) → length s < at + 4 → walk s at (f ∷ fs) ≡ ended at
  unfolding walk
  gone at f fs h = cond_false _ _ (lt-leb _ _ h)

  -- j words that are there
  skip : (j at : ℕ) (fs : List Four) → at + j * 4 ≤ length s → walk s at (replicate j anything ++ fs) ≡ walk s (at + j * 4) fs
  skip zero at fs h = ap (λ (n : ℕ). walk s n fs) (omega arith)
  skip (suc j) at fs h =
      step at anything (replicate j anything ++ fs) (omega arith) refl ∙ skip j (at + 4) fs (omega arith) ∙ ap (λ (n : ℕ). walk s n fs) (omega arith)

  -- j words and one more, not all of them there: the first that is not, in fours
  pub short : (j at : ℕ) (f : Four) (fs : List Four) → at % 4 ≡ 0 → at ≤ length s → length s < at + j * 4 + 4 → walk s at (replicate j anything ++ (f ∷ fs)) ≡ ended (length s / 4 * 4)
  short zero at f fs m h l = gone at f fs (omega arith) ∙ ap ended (omega arith)
  short (suc j) at f fs m h l = elim (dec_le (at + 4) (length s)) [
    | yes q ↦ step at anything (replicate j anything ++ (f ∷ fs)) q refl ∙ short j (at + 4) f fs (omega arith) q (omega arith)
    | no q ↦ gone at anything (replicate j anything ++ (f ∷ fs)) (omega arith) ∙ ap ended (omega arith)
  ]

  -- a record of n bytes at `at`: its opening marker, its body and its closing marker
  module _ (at n : ℕ) (ns : List ℕ) (m : at % 4 ≡ 0) (w : n % 4 ≡ 0) (h : at ≤ length s) where
    pub no_open : length s < at + 4 → walk s at (layout (n ∷ ns)) ≡ ended (length s / 4 * 4)
    unfolding layout
    no_open l = gone at (marker n) _ l ∙ ap ended (omega arith)

    pub bad_open : at + 4 ≤ length s → (word_at s at ≡ n → ⊥) → walk s at (layout (n ∷ ns)) ≡ Err (Marker at)
    unfolding layout
    bad_open l e = wrong at n _ l e

    opened : at + 4 ≤ length s → word_at s at ≡ n → walk s at (layout (n ∷ ns)) ≡ walk s (at + 4) (replicate (n / 4) anything ++ (marker n ∷ layout ns))
    unfolding layout
    opened l e = step at (marker n) _ l (eq-eqb _ _ e)

    pub no_close : at + 4 ≤ length s → word_at s at ≡ n → length s < at + n + 8 → walk s at (layout (n ∷ ns)) ≡ ended (length s / 4 * 4)
    no_close l e k = opened l e ∙ short (n / 4) (at + 4) (marker n) (layout ns) (omega arith) l (omega arith)

    closing : at + 4 ≤ length s → word_at s at ≡ n → at + n + 8 ≤ length s → walk s at (layout (n ∷ ns)) ≡ walk s (at + n + 4) (marker n ∷ layout ns)
    closing l e k = opened l e ∙ skip (n / 4) (at + 4) (marker n ∷ layout ns) (omega arith) ∙ ap (λ (x : ℕ). walk s x (marker n ∷ layout ns)) (omega arith)

    pub bad_close : at + 4 ≤ length s → word_at s at ≡ n → at + n + 8 ≤ length s → (word_at s (at + n + 4) ≡ n → ⊥) → walk s at (layout (n ∷ ns)) ≡ Err (Marker (at + n + 4))
    bad_close l e k d = closing l e k ∙ wrong (at + n + 4) n (layout ns) (omega arith) d

    pub passed : at + 4 ≤ length s → word_at s at ≡ n → at + n + 8 ≤ length s → word_at s (at + n + 4) ≡ n → walk s at (layout (n ∷ ns)) ≡ walk s (at + n + 8) (layout ns)
    passed l e k d = closing l e k ∙ step (at + n + 4) (marker n) (layout ns) (omega arith) (eq-eqb _ _ d) ∙ ap (λ (x : ℕ). walk s x (layout ns)) (omega arith)

-- the sizes' rule, at each of the nine
sized_b : ℕ → ℕ → Bool
sized_b k n = cond (eqb (n % 4) 0) (leb n 11184) (ltb 1 0)

pub sized : (k : ℕ) → k < 9 → RecordSize k (get_or sizes k 0)
unfolding sized_b
sized k h = go (eqb (n % 4) 0) (λ x. eqb→eq (n % 4) 0 x) (entry sized_b sizes tt k h)
  where
    n : ℕ
    n = get_or sizes k 0

    go : (b : Bool) → (T b → n % 4 ≡ 0) → T (cond b (leb n 11184) (ltb 1 0)) → RecordSize k n
    go true f t = record { is = refl; fours = f tt; most = leb→le n 11184 t }
    go false f t = absurd t

pub next_size : (k : ℕ) → k < 9 → drop k sizes ≡ get_or sizes k 0 ∷ drop (k + 1) sizes
next_size k h = drop-cons sizes k 0 h ∙ ap (λ (j : ℕ). get_or sizes k 0 ∷ drop j sizes) (sym (add-one k))

-- where the walk is at the loop's head
pub record Walked (s : List ℕ) (at k : ℕ) : Type 0 where
  pub fours : at % 4 ≡ 0
  pub inside : at ≤ length s
  pub low : at ≤ k * 11192
  pub turns : k ≤ 9
  pub same : month_file_check s ≡ walk s at (layout (drop k sizes))

pub first : (s : List ℕ) → Walked s 0 0
unfolding month_file_check
first s = record { fours = refl; inside = omega arith; low = omega arith; turns = omega arith; same = refl }

module _ (s : List ℕ) (at k n : ℕ) (w : Walked s at k) (h : k < 9) (z : RecordSize k n) where
  here : month_file_check s ≡ walk s at (layout (n ∷ drop (k + 1) sizes))
  here = w.same ∙ ap (λ (l : List ℕ). walk s at (layout l)) (next_size k h) ∙ ap (λ (x : ℕ). walk s at (layout (x ∷ drop (k + 1) sizes))) (sym z.is)

  pub ends_short : (length s < at + 4) ⊎ ((eqb (word_at s at) n ≡ true) × (at + 4 ≤ length s) × (length s < at + n + 8)) → month_file_check s ≡ ended (length s / 4 * 4)
  ends_short (inl l) = here ∙ no_open s at n _ w.fours z.fours w.inside l
  ends_short (inr l) = here ∙ no_close s at n _ w.fours z.fours w.inside l.1 (eqb-true _ _ l.0) l.2

  module _ (o : at + 4 ≤ length s) where
    pub ends_open : eqb (word_at s at) n ≡ false → month_file_check s ≡ Err (Marker at)
    ends_open e = here ∙ bad_open s at n _ w.fours z.fours w.inside o (eqb-false _ _ e)

    module _ (e : eqb (word_at s at) n ≡ true) (l : at + n + 8 ≤ length s) where
      pub ends_close : eqb (word_at s (at + n + 4)) n ≡ false → month_file_check s ≡ Err (Marker (at + n + 4))
      ends_close d = here ∙ bad_close s at n _ w.fours z.fours w.inside o (eqb-true _ _ e) l (eqb-false _ _ d)

      pub goes_on : eqb (word_at s (at + n + 4)) n ≡ true → Walked s (at + n + 8) (k + 1)
      goes_on d = let f = w.fours in let g = z.fours in let b = w.low in let t = z.most in
          record {
            fours = omega arith;
            inside = l;
            low = omega arith;
            turns = omega arith;
            same = here ∙ passed s at n _ w.fours z.fours w.inside o (eqb-true _ _ e) l (eqb-true _ _ d);
          }

pub ends : (s : List ℕ) (at k : ℕ) → Walked s at k → 9 ≤ k → month_file_check s ≡ Ok tt
unfolding walk layout
ends s at k w h = let e : k ≡ 9 = omega (arith, w.turns) in w.same ∙ ap (λ (j : ℕ). walk s at (layout (drop j sizes))) e

-- ---- an accepted file has all the bytes

walked : (s : List ℕ) (at : ℕ) (fs : List Four) → at ≤ length s → walk s at fs ≡ Ok tt → at + length fs * 4 ≤ length s
unfolding walk
walked s at [] h e = omega arith
walked s at (f ∷ fs) h e = go (leb (at + 4) (length s)) (is_right s at f) (leb-true (at + 4) (length s)) (walked s (at + 4) fs) e
  where
    go :
        (a b : Bool) → (a ≡ true → at + 4 ≤ length s) →
        (at + 4 ≤ length s → walk s (at + 4) fs ≡ Ok tt → at + 4 + length fs * 4 ≤ length s) →
        cond a (cond b (walk s (at + 4) fs) (Err (Marker at))) (ended at) ≡ Ok tt → at + suc (length fs) * 4 ≤ length s
    go true true q r e = omega (arith, r (q refl) e)
    go true false q r e = refused_not_accepted e
    go false b q r e = refused_not_accepted e

all_fours : length (layout sizes) ≡ 9638
unfolding layout
all_fours = refl

-- 'in all 38,552 bytes'
pub accepted_length : (s : List ℕ) → month_file_check s ≡ Ok tt → month_file_size ≤ length s
unfolding month_file_check
accepted_length s e = omega (arith, walked s 0 (layout sizes) (omega arith) e, all_fours)

-- ---- and the markers

-- each size is a whole number of words
abbrev pub Fours : List ℕ → Type 0
Fours [] = Unit
Fours (n ∷ ns) = (n % 4 ≡ 0) × Fours ns

pub fours : Fours sizes
fours = (refl, (refl, (refl, (refl, (refl, (refl, (refl, (refl, (refl, tt)))))))))

-- a walk that accepts has met no other
pub marks_met : (s : List ℕ) (at : ℕ) (ns : List ℕ) → Fours ns → at % 4 ≡ 0 → at ≤ length s → walk s at (layout ns) ≡ Ok tt → Marked s at ns
marks_met s at [] f m h e = tt
marks_met s at (n ∷ ns) f m h e = let w = f.0 in elim (dec_le (at + 4) (length s)) [
  | no q ↦ refused_not_accepted (sym (no_open s at n ns m w h (omega arith)) ∙ e)
  | yes q ↦ elim (ℕ_discrete (word_at s at) n) [
    | no d ↦ refused_not_accepted (sym (bad_open s at n ns m w h q d) ∙ e)
    | yes o ↦ elim (dec_le (at + n + 8) (length s)) [
      | no l ↦ refused_not_accepted (sym (no_close s at n ns m w h q o (omega arith)) ∙ e)
      | yes l ↦ elim (ℕ_discrete (word_at s (at + n + 4)) n) [
        | no d ↦ refused_not_accepted (sym (bad_close s at n ns m w h q o l d) ∙ e)
        | yes c ↦ (o, c, marks_met s (at + n + 8) ns f.1 (omega arith) l (sym (passed s at n ns m w h q o l c) ∙ e))
      ]
    ]
  ]
]

pub accepted_marks : (s : List ℕ) → month_file_check s ≡ Ok tt → Marked s 0 sizes
unfolding month_file_check
accepted_marks s e = marks_met s 0 sizes fours refl (omega arith) e
