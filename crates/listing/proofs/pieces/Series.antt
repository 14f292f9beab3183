-- Texts one after the other and a text at the right end of 16 characters: one more, what stands
-- before it, and how long they are at most. Assumes nothing.
use Rattle.std.proofs.Common.{◌≡◌, refl, ap, List, [], ◌∷◌, ◌++◌, ℕ, zero, suc, ◌+◌, ◌-◌, ◌*◌, ◌≤◌, ◌<◌, mul-suc, add-one, arith, length, take, replicate, length-append}
use lib.ListN.{length-replicate}
use Rattle.listing.specs.Fields.{at_right, in_turn}

-- ---- one after the other

module _ (f : ℕ → List ℕ) where
  pub none_yet : in_turn f 0 ≡ []
  unfolding in_turn
  none_yet = refl

  pub one_more : (k : ℕ) → in_turn f (k + 1) ≡ in_turn f k ++ f k
  unfolding in_turn
  one_more k = ap (in_turn f) (add-one k)

  pub length_turns : (most n : ℕ) → ((k : ℕ) → k < n → length (f k) ≤ most) → length (in_turn f n) ≤ most * n
  unfolding in_turn
  length_turns most zero h = omega arith
  length_turns most (suc k) h =
      let a = length_turns most k (λ j l. h j (omega arith)) in
      let b = h k (omega arith) in
      let d = mul-suc most k in
      omega (arith, length-append (in_turn f k) (f k))

-- ---- at the right

pub blanks : (m n : ℕ) → n ≤ m → take {A = ℕ} n (replicate m 32) ≡ replicate n 32
blanks m zero h = refl
blanks zero (suc n) h = absurd (omega arith)
blanks (suc m) (suc n) h = ap (λ (l : List ℕ). 32 ∷ l) (blanks m n (omega arith))

pub length_right : (l : List ℕ) (most : ℕ) → 16 ≤ most → length l ≤ most → length (at_right l) ≤ most
unfolding at_right
length_right l most k h = omega (arith, length-append (replicate (16 - length l) 32) l, length-replicate {A = ℕ} (16 - length l) 32)
