-- A list is a fill of another where it has the values in the first places and the other's elements
-- past them: so is a list whose first elements are changed one by one. Assumes nothing.
use Rattle.std.proofs.Common.{◌≡◌, ℕ, ◌+◌, ◌<◌, ◌≤◌, List, length, get_or, set, sym, ap, ◌∙◌, inr, zero-add, arith, ext_get_or, Float}
use native.Mathlib.Decide.{dec_lt}
use lib.Ieee.{nan}
use Rattle.base.specs.Fill.{fill}
use Rattle.base.proofs.lists.Fills.{length_fill, fill_at, fill_other, fill_first}
use Rattle.maps.specs.Noisy.{each}

module _ {A : Type 0} (f : ℕ → A) (l : List A) (n : ℕ) (d : A) where
  pub filled : (j : ℕ) → j < n → n ≤ length l → get_or (fill f 0 l n) j d ≡ f j
  filled j h b = ap (λ (i : ℕ). get_or (fill f 0 l n) i d) (sym (zero-add j)) ∙ fill_at f 0 l n j d h (omega arith)

  pub unfilled : (j : ℕ) → n ≤ j → get_or (fill f 0 l n) j d ≡ get_or l j d
  unfilled j h = fill_other f 0 l n j d (inr (omega arith))

  pub is_fill :
      (m : List A) → n ≤ length l → length m ≡ length l → ((j : ℕ) → j < n → get_or m j d ≡ f j) →
      ((j : ℕ) → n ≤ j → get_or m j d ≡ get_or l j d) → m ≡ fill f 0 l n
  is_fill m b e in-front past =
      ext_get_or d m (fill f 0 l n) (e ∙ sym (length_fill f 0 l n))
      (λ j h. elim (dec_lt j n) [ yes q ↦ in-front j q ∙ sym (filled j q b) | no q ↦ past j (omega arith) ∙ sym (unfilled j (omega arith)) ])

-- a loop that fills one element after the other
pub fill_turn :
    {A : Type 0} (f : ℕ → A) (l : List A) (j : ℕ) {y : List A} {v : A} → y ≡ fill f 0 l j → v ≡ f j → set y j v ≡ fill f 0 l (j + 1)
fill_turn {A} f l j {y} {v} p q =
    ap (λ (x : List A). set x j v) p ∙ ap (λ (x : A). set (fill f 0 l j) j x) q ∙ sym (fill_first f l j)

module _ (f : ℕ → Float → Float) where
  -- a loop that changes one element after the other
  pub each_turn : (l : List Float) (j : ℕ) {y : List Float} → y ≡ each f l j → set y j (f j (get_or y j nan)) ≡ each f l (j + 1)
  unfolding each
  each_turn l j p =
      let changed : ℕ → Float = λ i. f i (get_or l i nan) in
      fill_turn changed l j p (ap (λ (x : List Float). f j (get_or x j nan)) p ∙ ap (f j) (unfilled changed l j nan j (omega arith)))

  -- the elements of a fill, changed
  pub each_fill : (g : ℕ → Float) (l : List Float) (n : ℕ) → n ≤ length l → each f (fill g 0 l n) n ≡ fill (λ j. f j (g j)) 0 l n
  unfolding each
  each_fill g l n b =
      let m = fill g 0 l n in
      let e : length m ≡ length l = length_fill g 0 l n in
      let changed : ℕ → Float = λ j. f j (get_or m j nan) in
      is_fill (λ j. f j (g j)) l n nan (each f m n) b (length_fill changed 0 m n ∙ e)
      (λ j h. filled changed m n nan j h (omega arith) ∙ ap (f j) (filled g l n nan j h b))
      (λ j h. unfilled changed m n nan j h ∙ unfilled g l n nan j h)
