-- The geographic functions along a map's ladder: the powers up to word 0, between two words the
-- functions of one harmonic, past the last word 0; and the array that is filled along the ladder
-- holds them at each of its 76 places. By induction along the ladder: before each word the array is
-- the closed form up to the word before it, and 0 above. Assumes nothing.
use Rattle.std.proofs.Common.{◌≡◌, ℕ, zero, suc, ◌+◌, ◌-◌, ◌*◌, ◌/◌, ◌%◌, ◌<◌, ◌≤◌, false, cond, eqb, leb, List, length, get_or, set, sym, refl, ap, ◌∙◌, inr, add-zero, add_assoc, add-suc, zero-add, add-one, arith, ext_get_or, eq-eqb, ne_eqb, le-leb, Float}
use native.Mathlib.Decide.{dec_lt}
use lib.ListN.{length-replicate, get_or-replicate}
use lib.Ieee.{nan}
use borrow.Author.Tests.{lt-leb}
use Rattle.base.specs.Double.{fraction}
use Rattle.base.specs.Fill.{fill, tabulate}
use Rattle.base.specs.Index.{Climbs, top, level, up, Reaches}
use Rattle.base.proofs.verdicts.Picks.{cond_true, cond_false}
use Rattle.base.proofs.ladder.Indexing.{rungs}
use Rattle.base.proofs.lists.Fills.{length_fill, fill_next, fill_at, fill_other, length_run, run_at}
use Rattle.maps.specs.Versy.{sx_power, raised, cos_wave, sin_wave, wave_at, rung_of, harmonic_of, geographic_from, geographic_of, zeros, filled_from, filled_of, top_from, top_of}

-- ---- fills

module _ {A : Type 0} where
  pub fill_same : (f g : ℕ → A) (base : ℕ) (l : List A) (n : ℕ) → ((i : ℕ) → i < n → f i ≡ g i) → fill f base l n ≡ fill g base l n
  unfolding fill
  fill_same f g base l zero h = refl
  fill_same f g base l (suc n) h =
      let p = fill_same f g base l n (λ i q. h i (omega arith)) in
      let q = h n (omega arith) in
      λ t. set (p t) (base + n) (q t)

  -- one more, at the code's place
  pub fill_then :
      (f : ℕ → A) (base : ℕ) (l : List A) (n p : ℕ) {y : List A} {x : A} → y ≡ fill f base l n → base + n ≡ p → x ≡ f n →
      set y p x ≡ fill f base l (n + 1)
  fill_then f base l n p e d q = let c = sym d in (λ t. set (e t) (c t) (q t)) ∙ sym (fill_next f base l n)

  -- a fill in two parts
  pub fill_more : (f : ℕ → A) (base : ℕ) (l : List A) (m n : ℕ) → fill f base l (m + n) ≡ fill (λ i. f (m + i)) (base + m) (fill f base l m) n
  unfolding fill
  fill_more f base l m zero = ap (fill f base l) (add-zero m)
  fill_more f base l m (suc n) =
      let p = fill_more f base l m n in
      let q = sym (add_assoc base m n) in
      ap (fill f base l) (add-suc m n) ∙ (λ t. set (p t) (q t) (f (m + n)))

-- ---- the two waves of the harmonic j, as they stand among the sixteen
pub even_wave : (gob clg : Float) (i j : ℕ) → i + 2 ≡ 2 * j → wave_at gob clg i ≡ cos_wave gob clg j
unfolding wave_at
even_wave gob clg i j e =
    let p : i % 2 ≡ 0 = omega arith in
    let q : i / 2 + 1 ≡ j = omega arith in
    cond_true _ _ (eq-eqb (i % 2) 0 p) ∙ ap (cos_wave gob clg) q

pub odd_wave : (gob clg : Float) (i j : ℕ) → i + 2 ≡ 2 * j → wave_at gob clg (i + 1) ≡ sin_wave gob clg j
unfolding wave_at
odd_wave gob clg i j e =
    let p : (i + 1) % 2 ≡ 1 = omega arith in
    let q : (i + 1) / 2 + 1 ≡ j = omega arith in
    cond_false _ _ (ne_eqb ((i + 1) % 2) 0 (λ z. omega arith)) ∙ ap (sin_wave gob clg) q

-- a harmonic's functions from its two waves
pub rung_harmonic : (sx gob clg : Float) (j : ℕ) {c s : Float} → c ≡ cos_wave gob clg j → s ≡ sin_wave gob clg j → rung_of sx c s ≡ harmonic_of sx gob clg j
unfolding rung_of harmonic_of
rung_harmonic sx gob clg j {c} {s} p q = λ t i. raised sx (i / 2) (cond (eqb (i % 2) 0) (p t) (q t))

-- ---- the closed form takes the words 0 to 8

module _ (w v : ℕ → ℕ) (e : (i : ℕ) → i ≤ 8 → w i ≡ v i) (sx gob clg : Float) (k : ℕ) where
  from_same : (n j : ℕ) → j + n ≤ 9 → geographic_from w sx gob clg n j k ≡ geographic_from v sx gob clg n j k
  unfolding geographic_from
  from_same zero j h = refl
  from_same (suc n) j h =
      let a = e j (omega arith) in
      let b = e (j - 1) (omega arith) in
      let c = from_same n (j + 1) (omega arith) in
      λ t. cond (eqb (a t) (b t)) (fraction 0 1) (cond (leb k (a t)) (harmonic_of sx gob clg j (k - b t - 1)) (c t))

  pub geographic_same : geographic_of w sx gob clg k ≡ geographic_of v sx gob clg k
  unfolding geographic_of
  geographic_same = let a = e 0 (omega arith) in let b = from_same 8 1 (omega arith) in λ t. cond (leb k (a t)) (sx_power sx k) (b t)

-- ---- the ladder's last word is inside the array

-- ---- the closed form, a word at a time

module _ (w : ℕ → ℕ) (sx gob clg : Float) where
  abbrev G : ℕ → Float
  G = geographic_of w sx gob clg

  abbrev From : ℕ → ℕ → ℕ → Float
  From = geographic_from w sx gob clg

  back : (j : ℕ) → w (j + 1 - 1) ≡ w j
  back j = let e : j + 1 - 1 ≡ j = omega arith in ap w e

  from_level : (n j k : ℕ) → w (j + 1) ≡ w j → From (suc n) (j + 1) k ≡ fraction 0 1
  unfolding geographic_from
  from_level n j k e = cond_true _ _ (eq-eqb (w (j + 1)) (w (j + 1 - 1)) (e ∙ sym (back j)))

  module _ (n j k : ℕ) (h : w j < w (j + 1)) where
    not_level : eqb (w (j + 1)) (w (j + 1 - 1)) ≡ false
    not_level = ne_eqb (w (j + 1)) (w (j + 1 - 1)) (λ e. omega (arith, back j))

    from_here : k ≤ w (j + 1) → From (suc n) (j + 1) k ≡ harmonic_of sx gob clg (j + 1) (k - w j - 1)
    unfolding geographic_from
    from_here l =
        cond_false _ _ not_level
        ∙ cond_true _ _ (le-leb k (w (j + 1)) l)
        ∙ ap (λ (x : ℕ). harmonic_of sx gob clg (j + 1) (k - x - 1)) (back j)

    from_above : w (j + 1) < k → From (suc n) (j + 1) k ≡ From n (j + 1 + 1) k
    unfolding geographic_from
    from_above l = cond_false _ _ not_level ∙ cond_false _ _ (lt-leb k (w (j + 1)) l)

  -- ---- the array, a word at a time

  zeros_length : length zeros ≡ 76
  unfolding zeros
  zeros_length = length-replicate 76 (fraction 0 1)

  zeros_at : (i : ℕ) → i < 76 → get_or zeros i nan ≡ fraction 0 1
  unfolding zeros
  zeros_at i h = get_or-replicate 76 i (fraction 0 1) nan h

  -- no harmonic follows: above u the array and the closed form are 0
  module _ (u : ℕ) (h : u ≤ 75) (z : (k : ℕ) → u < k → G k ≡ fraction 0 1) where
    ends_at : (i : ℕ) → i < 76 → get_or (fill G 0 zeros (u + 1)) i nan ≡ G i
    ends_at i l = elim (dec_lt i (u + 1)) [
      | yes q ↦
          ap (λ (k : ℕ). get_or (fill G 0 zeros (u + 1)) k nan) (sym (zero-add i))
          ∙ fill_at G 0 zeros (u + 1) i nan q (omega (arith, zeros_length))
      | no q ↦ fill_other G 0 zeros (u + 1) i nan (inr (omega arith)) ∙ zeros_at i l ∙ sym (z i (omega arith))
    ]

    ends : fill G 0 zeros (u + 1) ≡ tabulate G 76
    ends =
        ext_get_or nan (fill G 0 zeros (u + 1)) (tabulate G 76)
        (length_fill G 0 zeros (u + 1) ∙ zeros_length ∙ sym (length_run G 76))
        (λ i l. let q : i < 76 = omega (arith, length_fill G 0 zeros (u + 1), zeros_length) in ends_at i q ∙ sym (run_at G 76 i nan q))

  -- a harmonic follows: after it the array is the closed form up to the next word
  longer :
      (u v : ℕ) (f : ℕ → Float) → u < v → ((i : ℕ) → i < v - u → f i ≡ G (u + 1 + i)) →
      fill f (u + 1) (fill G 0 zeros (u + 1)) (v - u) ≡ fill G 0 zeros (v + 1)
  longer u v f h e =
      let p : 0 + (u + 1) ≡ u + 1 = omega arith in
      let q : u + 1 + (v - u) ≡ v + 1 = omega arith in
      fill_same f (λ i. G (u + 1 + i)) (u + 1) (fill G 0 zeros (u + 1)) (v - u) e
      ∙ ap (λ (b : ℕ). fill (λ i. G (u + 1 + i)) b (fill G 0 zeros (u + 1)) (v - u)) (sym p)
      ∙ sym (fill_more G 0 zeros (u + 1) (v - u))
      ∙ ap (fill G 0 zeros) q

  along :
      (n j : ℕ) → Climbs w n j → w j ≤ 75 → ((k : ℕ) → w j < k → G k ≡ From n (j + 1) k) →
      filled_from w sx gob clg n j (fill G 0 zeros (w j + 1)) ≡ tabulate G 76
  unfolding filled_from geographic_from
  along zero j top h e = ends (w j) h e
  along (suc n) j (level d) h e =
      cond_true _ _ (eq-eqb (w (j + 1)) (w j) d) ∙ ends (w j) h (λ k l. e k l ∙ from_level n j k d)
  along (suc n) j (up a b d c) h e =
      let l : w j < w (j + 1) = omega arith in
      cond_false _ _ (ne_eqb (w (j + 1)) (w j) (λ q. omega arith))
      ∙ ap (filled_from w sx gob clg n (j + 1))
      (longer (w j) (w (j + 1)) (harmonic_of sx gob clg (j + 1)) l
      (λ i q. sym (e (w j + 1 + i) (omega arith) ∙ from_here n j (w j + 1 + i) l (omega arith) ∙ ap (harmonic_of sx gob clg (j + 1)) (place (w j) i))))
      ∙ along n (j + 1) c d (λ k m. e k (omega arith) ∙ from_above n j k l m)
    where
      place : (u i : ℕ) → u + 1 + i - u - 1 ≡ i
      place u i = omega arith

  -- ---- the laws

  -- up to word 0 the functions are the powers of sx
  pub in_powers : (k : ℕ) → k ≤ w 0 → geographic_of w sx gob clg k ≡ sx_power sx k
  unfolding geographic_of
  in_powers k l = cond_true _ _ (le-leb k (w 0) l)

  above : (k : ℕ) → w 0 < k → G k ≡ From 8 1 k
  unfolding geographic_of
  above k l = cond_false _ _ (lt-leb k (w 0) l)

  module _ (high : w 0 ≤ 75) (climbing : Climbs w 8 0) where
    -- the array is the closed form
    pub filled_closed : filled_of w sx gob clg ≡ tabulate (geographic_of w sx gob clg) 76
    unfolding filled_of
    filled_closed =
        ap (filled_from w sx gob clg 8 0) (fill_same (sx_power sx) G 0 zeros (w 0 + 1) (λ i l. sym (in_powers i (omega arith))))
        ∙ along 8 0 climbing high above

    -- at every place
    pub filled_at : (k : ℕ) → k < 76 → get_or (filled_of w sx gob clg) k nan ≡ geographic_of w sx gob clg k
    filled_at k l = ap (λ (g : List Float). get_or g k nan) filled_closed ∙ run_at G 76 k nan l

  module _ (climbing : Climbs w 8 0) where
    beyond : (j k : ℕ) → j ≤ 8 → Reaches w j → w j < k → G k ≡ From (8 - j) (j + 1) k
    beyond zero k h r l = above k l
    beyond (suc j) k h r l =
        let rise = (rungs w climbing j (omega arith) (λ i m. r i (omega arith))).rises (omega arith) (r j (omega arith)) in
        let e = ap w (add-one j) in
        let n : suc (7 - j) ≡ 8 - j = omega arith in
        let m : 7 - j ≡ 8 - suc j = omega arith in
        let o : j + 1 + 1 ≡ suc j + 1 = omega arith in
        beyond j k (omega arith) (λ i m. r i (omega arith)) (omega arith)
        ∙ ap (λ (x : ℕ). From x (j + 1) k) (sym n)
        ∙ from_above (7 - j) j k rise (omega arith)
        ∙ (λ t. From (m t) (o t) k)

    -- above a word that the ladder reaches, up to the next: the functions of the next harmonic, in
    -- their order
    pub in_harmonic :
        (j k : ℕ) → j < 8 → Reaches w j → w j < k → k ≤ w (j + 1) →
        geographic_of w sx gob clg k ≡ harmonic_of sx gob clg (j + 1) (k - w j - 1)
    in_harmonic j k h r l u =
        let n : suc (7 - j) ≡ 8 - j = omega arith in
        beyond j k (omega arith) r l ∙ ap (λ (x : ℕ). From x (j + 1) k) (sym n) ∙ from_here (7 - j) j k (omega arith) u

  -- ---- past the ladder's last word

  climbed : (n j : ℕ) → Climbs w n j → w j ≤ top_from w n j
  unfolding top_from
  climbed zero j top = omega arith
  climbed (suc n) j (level d) = let e = cond_true (w j) (top_from w n (j + 1)) (eq-eqb (w (j + 1)) (w j) d) in omega arith
  climbed (suc n) j (up a b d c) =
      let e = cond_false (w j) (top_from w n (j + 1)) (ne_eqb (w (j + 1)) (w j) (λ q. omega arith)) in
      let h = climbed n (j + 1) c in
      omega arith

  past : (n j k : ℕ) → Climbs w n j → top_from w n j < k → From n (j + 1) k ≡ fraction 0 1
  unfolding top_from geographic_from
  past zero j k top h = refl
  past (suc n) j k (level d) h = from_level n j k d
  past (suc n) j k (up a b d c) h =
      let l : w j < w (j + 1) = omega arith in
      let e = cond_false (w j) (top_from w n (j + 1)) (ne_eqb (w (j + 1)) (w j) (λ q. omega arith)) in
      let g = climbed n (j + 1) c in
      from_above n j k l (omega arith) ∙ past n (j + 1) k c (omega arith)

  -- past the ladder's end the closed form is 0
  pub past_end : Climbs w 8 0 → (k : ℕ) → top_of w < k → geographic_of w sx gob clg k ≡ fraction 0 1
  unfolding top_of
  past_end c k h = let g = climbed 8 0 c in above k (omega arith) ∙ past 8 0 k c h
