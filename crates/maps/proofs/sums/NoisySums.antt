-- The columns of a plane added up row by row are those added up one by one, and of the two arrays
-- the series take what was filled. Assumes nothing.
use Rattle.std.proofs.Common.{◌≡◌, ℕ, zero, suc, ◌+◌, ◌<◌, ◌≤◌, List, length, get_or, replicate, sym, refl, ap, ◌∙◌, add-one, arith, Float}
use lib.Ieee.{nan}
use lib.ListN.{length-replicate, get_or-replicate}
use Rattle.base.specs.Single.{◌⊕◌, ◌⊗◌, decimal}
use Rattle.base.specs.Fill.{fill}
use Rattle.maps.specs.Noisy.{in_plane, turn_of, column_of, zz_of, latitude_sum, sx_of, each, columns_of}
use Rattle.maps.proofs.lists.Refills.{filled, is_fill, each_fill}

abbrev zeros : ℕ → List Float
zeros n = replicate n (decimal 0 1)

room : (n k : ℕ) → k ≤ n → k ≤ length (zeros n)
room n k h = let e = length-replicate n (decimal 0 1) in omega arith

-- ---- zz, row by row

module _ (sx plane : List Float) (lm : ℕ) where
  -- each column has the sum of its first k rows
  abbrev pub rows_in : ℕ → List Float
  rows_in k = fill (λ j. column_of (λ i. get_or sx i nan) plane j k) 0 (zeros 29) lm

  pub rows_start : lm ≤ 29 → zeros 29 ≡ rows_in 0
  unfolding column_of
  rows_start b =
      is_fill (λ j. column_of (λ i. get_or sx i nan) plane j 0) (zeros 29) lm nan (zeros 29) (room 29 lm b) refl
      (λ j h. get_or-replicate 29 j (decimal 0 1) nan (omega arith))
      (λ j h. refl)

  pub rows_turn :
      (k : ℕ) {y z : List Float} → lm ≤ 29 → y ≡ rows_in k → z ≡ each (λ j v. v ⊕ get_or sx k nan ⊗ in_plane plane k j) y lm → z ≡ rows_in (k + 1)
  unfolding column_of
  rows_turn k b p q =
      let row : ℕ → Float → Float = λ j v. v ⊕ get_or sx k nan ⊗ in_plane plane k j in
      q
      ∙ ap (λ (y : List Float). each row y lm) p
      ∙ each_fill row (λ j. column_of (λ i. get_or sx i nan) plane j k) (zeros 29) lm (room 29 lm b)
      ∙ ap rows_in (sym (add-one k))

  pub rows_end :
      (ln : ℕ) {y z : List Float} → lm ≤ 29 → y ≡ rows_in ln → z ≡ each (λ j v. v ⊕ in_plane plane 15 j) y lm → z ≡ columns_of sx plane ln lm
  unfolding zz_of columns_of
  rows_end ln b p q =
      let row : ℕ → Float → Float = λ j v. v ⊕ in_plane plane 15 j in
      q
      ∙ ap (λ (y : List Float). each row y lm) p
      ∙ each_fill row (λ j. column_of (λ i. get_or sx i nan) plane j ln) (zeros 29) lm (room 29 lm b)

-- ---- sums of what is alike as far as they go

column_alike :
    (f g : ℕ → Float) (plane : List Float) (j n : ℕ) → ((k : ℕ) → k < n → f k ≡ g k) → column_of f plane j n ≡ column_of g plane j n
unfolding column_of
column_alike f g plane j zero h = refl
column_alike f g plane j (suc n) h =
    ap (λ (x : Float). x ⊕ f n ⊗ in_plane plane n j) (column_alike f g plane j n (λ k l. h k (omega arith)))
    ∙ ap (λ (x : Float). column_of g plane j n ⊕ x ⊗ in_plane plane n j) (h n (omega arith))

latitude_alike : (sk f g : ℕ → Float) (n : ℕ) → ((k : ℕ) → k < n → f k ≡ g k) → latitude_sum sk f n ≡ latitude_sum sk g n
unfolding latitude_sum
latitude_alike sk f g zero h = refl
latitude_alike sk f g (suc n) h =
    ap (λ (x : Float). x ⊕ sk n ⊗ f n) (latitude_alike sk f g n (λ k l. h k (omega arith)))
    ∙ ap (λ (x : Float). latitude_sum sk g n ⊕ sk n ⊗ x) (h n (omega arith))

module _ (s1 c1 : Float) (plane : List Float) (ln lm : ℕ) (a : ln ≤ 15) (b : lm ≤ 29) where
  abbrev sines : ℕ → Float
  sines k = (turn_of s1 c1 k).sine

  abbrev in_sx : ℕ → Float
  in_sx k = get_or (sx_of s1 c1 ln) k nan

  sx_at : (k : ℕ) → k < ln → in_sx k ≡ sines k
  unfolding sx_of
  sx_at k h = filled sines (zeros 15) ln nan k h (room 15 ln a)

  zz_at : (j : ℕ) → j < lm → get_or (columns_of (sx_of s1 c1 ln) plane ln lm) j nan ≡ zz_of sines plane ln j
  unfolding zz_of columns_of
  zz_at j h =
      filled (zz_of in_sx plane ln) (zeros 29) lm nan j h (room 29 lm b)
      ∙ ap (λ (x : Float). x ⊕ in_plane plane 15 j) (column_alike in_sx sines plane j ln sx_at)

  pub latitude_of_law :
      (sk : ℕ → Float) →
      latitude_sum sk (λ j. get_or (columns_of (sx_of s1 c1 ln) plane ln lm) j nan) lm ≡ latitude_sum sk (zz_of sines plane ln) lm
  latitude_of_law sk = latitude_alike sk _ _ lm zz_at
