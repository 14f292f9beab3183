-- What a filled list and a run are, element by element and as a whole. Assumes nothing.
use Rattle.std.proofs.Common.{◌≡◌, ℕ, zero, suc, ◌+◌, ◌<◌, ◌≤◌, ◌⊎◌, List, [], ◌∷◌, ◌++◌, length, get_or, drop, set, sym, refl, ap, ◌∙◌, subst, inl, inr, ⊎_elim, append_assoc, append-nil, not-suc-le-zero, zero-add, add-one, arith, length-append, length-set, drop_of_length-le, drop-cons, get_or-set_other, get_or-set_same}
use native.Mathlib.Decide.{dec_lt}
use lib.ListN.{get_or-append}
use lib.Seq.{set_at, get_or_at}
use Rattle.base.specs.Fill.{fill, tabulate}

last : (n k : ℕ) → k < suc n → (k ≡ n) ⊎ (k < n)
last n k h = elim (dec_lt k n) [ yes q ↦ inr q | no q ↦ inl (omega arith) ]

module _ {A : Type 0} where
  -- ---- fill

  pub length_fill : (f : ℕ → A) (base : ℕ) (l : List A) (n : ℕ) → length (fill f base l n) ≡ length l
  unfolding fill
  length_fill f base l zero = refl
  length_fill f base l (suc n) = length-set (fill f base l n) (base + n) (f n) ∙ length_fill f base l n

  -- an element that was filled
  pub fill_at :
      (f : ℕ → A) (base : ℕ) (l : List A) (n k : ℕ) (d : A) → k < n → base + n ≤ length l → get_or (fill f base l n) (base + k) d ≡ f k
  unfolding fill
  fill_at f base l zero k d h b = absurd (not-suc-le-zero h)
  fill_at f base l (suc n) k d h b =
      ⊎_elim
      (λ (e : k ≡ n).
      subst (λ (i : ℕ). get_or (set (fill f base l n) (base + n) (f n)) (base + i) d ≡ f i) (sym e)
      (get_or-set_same (fill f base l n) (base + n) (f n) d (omega (arith, length_fill f base l n))))
      (λ (q : k < n).
      get_or-set_other (fill f base l n) (base + n) (base + k) (f n) d (λ e. omega arith)
      ∙ fill_at f base l n k d q (omega arith))
      (last n k h)

  -- an element that was not
  pub fill_other :
      (f : ℕ → A) (base : ℕ) (l : List A) (n i : ℕ) (d : A) → (i < base) ⊎ (base + n ≤ i) → get_or (fill f base l n) i d ≡ get_or l i d
  unfolding fill
  fill_other f base l zero i d h = refl
  fill_other f base l (suc n) i d h =
      get_or-set_other (fill f base l n) (base + n) i (f n) d (λ e. ⊎_elim (λ q. omega arith) (λ q. omega arith) h)
      ∙ fill_other f base l n i d (⊎_elim (λ q. inl q) (λ q. inr (omega arith)) h)

  -- one more, at the code's n + 1
  pub fill_next : (f : ℕ → A) (base : ℕ) (l : List A) (n : ℕ) → fill f base l (n + 1) ≡ set (fill f base l n) (base + n) (f n)
  unfolding fill
  fill_next f base l n = ap (fill f base l) (add-one n)

  pub fill_first : (f : ℕ → A) (l : List A) (n : ℕ) → fill f 0 l (n + 1) ≡ set (fill f 0 l n) n (f n)
  fill_first f l n = fill_next f 0 l n ∙ ap (λ (i : ℕ). set (fill f 0 l n) i (f n)) (zero-add n)

  -- ---- run

  pub length_run : (f : ℕ → A) (n : ℕ) → length (tabulate f n) ≡ n
  unfolding tabulate
  length_run f zero = refl
  length_run f (suc n) = length-append (tabulate f n) (f n ∷ []) ∙ (let e = length_run f n in omega arith)

  pub run_at : (f : ℕ → A) (n k : ℕ) (d : A) → k < n → get_or (tabulate f n) k d ≡ f k
  unfolding tabulate
  run_at f zero k d h = absurd (not-suc-le-zero h)
  run_at f (suc n) k d h =
      ⊎_elim
      (λ (e : k ≡ n).
      subst (λ (i : ℕ). get_or (tabulate f n ++ (f n ∷ [])) i d ≡ f i) (sym e)
      (get_or_at (tabulate f n) (f n) [] d n (length_run f n)))
      (λ (q : k < n). get_or-append (tabulate f n) (f n ∷ []) d k (omega (arith, length_run f n)) ∙ run_at f n k d q)
      (last n k h)

  -- ---- a fill leaves what stands before `base`, puts the run there, and leaves the rest

  pub fill_run :
      (f : ℕ → A) (base : ℕ) (xs ys : List A) (n : ℕ) → length xs ≡ base → n ≤ length ys →
      fill f base (xs ++ ys) n ≡ xs ++ (tabulate f n ++ drop n ys)
  unfolding fill tabulate
  fill_run f base xs ys zero e h = refl
  fill_run f base xs ys (suc n) e h =
      ap (λ (l : List A). set l (base + n) (f n)) (fill_run f base xs ys n e (omega arith))
      ∙ ap (λ (l : List A). set (xs ++ (tabulate f n ++ l)) (base + n) (f n)) (drop-cons ys n (f n) h)
      ∙ ap (λ (l : List A). set l (base + n) (f n)) (sym (append_assoc xs (tabulate f n) (get_or ys n (f n) ∷ drop (suc n) ys)))
      ∙ set_at (xs ++ tabulate f n) (get_or ys n (f n)) (drop (suc n) ys) (f n) (base + n)
      (length-append xs (tabulate f n) ∙ (let l = length_run f n in omega arith))
      ∙ simp append_assoc

  -- a list filled whole is the run
  pub fill_all : (f : ℕ → A) (l : List A) (n : ℕ) → length l ≡ n → fill f 0 l n ≡ tabulate f n
  fill_all f l n e =
      fill_run f 0 [] l n refl (omega arith)
      ∙ ap (λ (x : List A). tabulate f n ++ x) (drop_of_length-le l {i = n} (omega arith))
      ∙ append-nil (tabulate f n)

  -- what a loop has made that filled its array to the end
  pub filled : (f : ℕ → A) (l : List A) {out : List A} {i : ℕ} → out ≡ fill f 0 l i → i ≡ length l → out ≡ tabulate f (length l)
  filled f l h e = h ∙ ap (fill f 0 l) e ∙ fill_all f l (length l) refl
