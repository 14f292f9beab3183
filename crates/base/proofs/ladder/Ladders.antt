-- The index check over unsigned words: a negative word is 2 ^ 31 or more, which no test passes, so
-- that the unsigned tests of the code agree with the signed ones of the definition. And what a map
-- that passes gives. Assumes nothing.
use Rattle.std.proofs.Common.{◌≡◌, ℕ, zero, suc, ◌+◌, ◌-◌, ◌%◌, ◌^◌, ◌<◌, ◌≤◌, Bool, true, false, ◌&&◌, T, eqb, ltb, leb, List, get_or, ℤ, pos, negsuc, ◌-ℤ◌, nat_abs, sym, refl, ap, ◌∙◌, arith, lit≤, ltb-true, le-ltb, lt-ltb, eq-eqb, ne_eqb, eqb-true, le-leb, leb-true, leb-false, Err, Ok}
use native.Mathlib.Decide.{dec_lt, ℕ_discrete}
use borrow.Author.Tests.{lt-leb}
use Rattle.base.specs.declared.refusal.Refusal.TheVariants.{Index}
use Rattle.base.specs.Number.{signed_of}
use Rattle.base.specs.Words.{word_at, integer_at}
use Rattle.base.specs.Index.{ikim_place, ikim_at, rows, harmonics, is_whole_to, equals, exceeds, climbs, good_map, lowest_bad, index_check, Climbs, top, level, up, GoodIndex}
use Rattle.base.proofs.verdicts.Picks.{cond_true, cond_false, never, never'}

-- ---- both of two tests

pub and_true : {a b : Bool} → a ≡ true → b ≡ true → (a && b) ≡ true
and_true {a} {b} p q = ap (λ (x : Bool). x && b) p ∙ q

pub and_left : (a b : Bool) → (a && b) ≡ true → a ≡ true
and_left true b e = refl
and_left false b e = e

pub and_right : (a b : Bool) → (a && b) ≡ true → b ≡ true
and_right true b e = e
and_right false b e = never e

pub not_left : {a : Bool} (b : Bool) → a ≡ false → (a && b) ≡ false
not_left b p = ap (λ (x : Bool). x && b) p

pub not_right : (a : Bool) {b : Bool} → b ≡ false → (a && b) ≡ false
not_right true p = p
not_right false p = refl

-- ---- one word

pub signed_small : (u : ℕ) → u < 2 ^ 31 → signed_of u ≡ pos u
unfolding signed_of
signed_small u h = cond_true _ _ (lt-ltb u (2 ^ 31) h)

pub signed_large : (u : ℕ) → 2 ^ 31 ≤ u → signed_of u ≡ negsuc (2 ^ 32 - suc u)
unfolding signed_of
signed_large u h = cond_false _ _ (le-ltb u (2 ^ 31) h)

module _ (a b u : ℕ) where
  pub to_yes : b < 2 ^ 31 → a ≤ u → u ≤ b → is_whole_to a b (signed_of u) ≡ true
  to_yes m l h = ap (is_whole_to a b) (signed_small u (omega arith)) ∙ and_true (le-leb a u l) (le-leb u b h)

  pub to_above : b < 2 ^ 31 → b < u → is_whole_to a b (signed_of u) ≡ false
  to_above m h = elim (dec_lt u (2 ^ 31)) [
    | yes q ↦ ap (is_whole_to a b) (signed_small u q) ∙ not_right (leb a u) (lt-leb u b h)
    | no q ↦ ap (is_whole_to a b) (signed_large u (omega arith))
  ]

  pub to_below : u < a → is_whole_to a b (signed_of u) ≡ false
  to_below h = elim (dec_lt u (2 ^ 31)) [
    | yes q ↦ ap (is_whole_to a b) (signed_small u q) ∙ not_left (leb u b) (lt-leb a u h)
    | no q ↦ ap (is_whole_to a b) (signed_large u (omega arith))
  ]

  pub to_known : is_whole_to a b (signed_of u) ≡ true → (a ≤ u) × (u ≤ b)
  to_known e = elim (dec_lt u (2 ^ 31)) [
    | yes q ↦
        let f : (leb a u && leb u b) ≡ true = sym (ap (is_whole_to a b) (signed_small u q)) ∙ e in
        (leb-true a u (and_left (leb a u) (leb u b) f), leb-true u b (and_right (leb a u) (leb u b) f))
    | no q ↦ never (sym (ap (is_whole_to a b) (signed_large u (omega arith))) ∙ e)
  ]

-- ---- a word and the one before it

minus : (p q : ℕ) → p < q → nat_abs (pos q -ℤ pos p) ≡ q - p
minus zero q h = omega arith
minus (suc p) q h = ap nat_abs (cond_false _ _ (le-ltb q (suc p) (omega arith)))

module _ (p q : ℕ) (small : p ≤ 75) where
  first : signed_of p ≡ pos p
  first = signed_small p (omega arith)

  pub same_yes : q ≡ p → equals (signed_of p) (signed_of q) ≡ true
  same_yes e =
      ap (λ (z : ℤ). equals z (signed_of q)) first
      ∙ ap (equals (pos p)) (signed_small q (omega arith))
      ∙ and_true (le-leb p q (omega arith)) (le-leb q p (omega arith))

  pub same_no : (q ≡ p → ⊥) → equals (signed_of p) (signed_of q) ≡ false
  same_no n = ap (λ (z : ℤ). equals z (signed_of q)) first ∙ elim (dec_lt q (2 ^ 31)) [
    | yes s ↦ ap (equals (pos p)) (signed_small q s) ∙ elim (dec_lt p q) [
      | yes l ↦ not_right (leb p q) (lt-leb q p l)
      | no l ↦ not_left (leb q p) (lt-leb p q (go l))
    ]
    | no s ↦ ap (equals (pos p)) (signed_large q (omega arith))
  ]
    where
      go : (p < q → ⊥) → q < p
      go l = elim (ℕ_discrete q p) [ yes e ↦ absurd (n e) | no e ↦ omega arith ]

  -- the code's tests of q after p
  abbrev pub unsigned_exceeds : Bool
  unsigned_exceeds = ltb p q && (eqb ((q - p) % 2) 0 && leb q 75)

  pub exceeds_unsigned : exceeds (signed_of p) (signed_of q) ≡ unsigned_exceeds
  exceeds_unsigned = ap (λ (z : ℤ). exceeds z (signed_of q)) first ∙ elim (dec_lt q (2 ^ 31)) [
    | yes s ↦ ap (exceeds (pos p)) (signed_small q s) ∙ elim (dec_lt p q) [
      | yes l ↦ ap (λ (n : ℕ). ltb p q && (eqb (n % 2) 0 && leb q 75)) (minus p q l)
      | no l ↦ not_left _ (le-ltb p q (omega arith)) ∙ sym (not_left _ (le-ltb p q (omega arith)))
    ]
    | no s ↦
        ap (exceeds (pos p)) (signed_large q (omega arith))
        ∙ sym (not_right (ltb p q) (not_right (eqb ((q - p) % 2) 0) (lt-leb q 75 (omega arith))))
  ]

  pub exceeds_even : p < q → (q - p) % 2 ≡ 0 → exceeds (signed_of p) (signed_of q) ≡ leb q 75
  exceeds_even l e =
      exceeds_unsigned
      ∙ ap (λ (t : Bool). t && (eqb ((q - p) % 2) 0 && leb q 75)) (lt-ltb p q l)
      ∙ ap (λ (t : Bool). t && leb q 75) (eq-eqb ((q - p) % 2) 0 e)

  pub exceeds_odd : ((q - p) % 2 ≡ 0 → ⊥) → exceeds (signed_of p) (signed_of q) ≡ false
  exceeds_odd n = exceeds_unsigned ∙ not_right (ltb p q) (not_left (leb q 75) (ne_eqb ((q - p) % 2) 0 n))

  pub exceeds_not : q ≤ p → exceeds (signed_of p) (signed_of q) ≡ false
  exceeds_not l = exceeds_unsigned ∙ not_left (eqb ((q - p) % 2) 0 && leb q 75) (le-ltb p q l)

  pub record Next : Type 0 where
    pub above : p + 2 ≤ q
    pub even : (q - p) % 2 ≡ 0
    pub most : q ≤ 75

  pub next_known : exceeds (signed_of p) (signed_of q) ≡ true → Next
  next_known e =
      let f : unsigned_exceeds ≡ true = sym exceeds_unsigned ∙ e in
      let g = and_right (ltb p q) _ f in
      let a = ltb-true p q (and_left (ltb p q) _ f) in
      let b = eqb-true ((q - p) % 2) 0 (and_left (eqb ((q - p) % 2) 0) _ g) in
      let d = leb-true q 75 (and_right (eqb ((q - p) % 2) 0) _ g) in
      record { above = omega arith; even = b; most = d }

-- ---- the words of a map

module _ (w : ℕ → ℕ) where
  abbrev pub signed_words : ℕ → ℤ
  signed_words j = signed_of (w j)

  module _ (j : ℕ) (small : w j ≤ 75) where
    one : j < 8 → climbs signed_words (8 - j) j ≡ climbs signed_words (suc (8 - (j + 1))) j
    one h = let e : 8 - j ≡ suc (8 - (j + 1)) = omega arith in ap (λ (n : ℕ). climbs signed_words n j) e

    pub climb_stop : j < 8 → w (j + 1) ≡ w j → climbs signed_words (8 - j) j ≡ true
    unfolding climbs
    climb_stop h e = one h ∙ cond_true _ _ (same_yes (w j) (w (j + 1)) small e)

    pub climb_bad :
        j < 8 → (w (j + 1) ≡ w j → ⊥) → exceeds (signed_of (w j)) (signed_of (w (j + 1))) ≡ false → climbs signed_words (8 - j) j ≡ false
    unfolding climbs
    climb_bad h e a = one h ∙ cond_false _ _ (same_no (w j) (w (j + 1)) small e) ∙ not_left _ a

    pub climb_next :
        j < 8 → (w (j + 1) ≡ w j → ⊥) → exceeds (signed_of (w j)) (signed_of (w (j + 1))) ≡ true →
        climbs signed_words (8 - j) j ≡ climbs signed_words (8 - (j + 1)) (j + 1)
    unfolding climbs
    climb_next h e a =
        one h ∙ cond_false _ _ (same_no (w j) (w (j + 1)) small e) ∙ ap (λ (b : Bool). b && climbs signed_words (8 - (j + 1)) (j + 1)) a

  pub climb_end : (j : ℕ) → 8 ≤ j → climbs signed_words (8 - j) j ≡ true
  unfolding climbs
  climb_end j h = let e : 8 - j ≡ 0 = omega arith in ap (λ (n : ℕ). climbs signed_words n j) e

  pub climbs_known : (n j : ℕ) → w j ≤ 75 → climbs signed_words n j ≡ true → Climbs w n j
  unfolding climbs
  climbs_known zero j small e = top
  climbs_known (suc n) j small e = elim (ℕ_discrete (w (j + 1)) (w j)) [
    | yes q ↦ level q
    | no q ↦
        let f : (exceeds (signed_of (w j)) (signed_of (w (j + 1))) && climbs signed_words n (j + 1)) ≡ true =
        sym (cond_false _ _ (same_no (w j) (w (j + 1)) small q)) ∙ e in
        let x = next_known (w j) (w (j + 1)) small (and_left (exceeds (signed_of (w j)) (signed_of (w (j + 1)))) _ f) in
        up x.above x.even x.most (climbs_known n (j + 1) x.most (and_right (exceeds (signed_of (w j)) (signed_of (w (j + 1)))) _ f))
  ]

  -- the four tests of a map
  module _ (rows harmonics : ℕ) (some : 1 ≤ rows) (few : rows ≤ 76) (waves : harmonics ≤ 6) where
    abbrev A : Bool
    A = is_whole_to 0 (rows - 1) (signed_of (w 8))

    abbrev B : Bool
    B = is_whole_to 0 harmonics (signed_of (w 9))

    abbrev C : Bool
    C = is_whole_to 1 75 (signed_of (w 0))

    abbrev D : Bool
    D = climbs signed_words 8 0

    pub bad_terms : rows ≤ w 8 → good_map signed_words rows harmonics ≡ false
    unfolding good_map
    bad_terms h = not_left (B && (C && D)) (to_above 0 (rows - 1) (w 8) (omega arith) (omega arith))

    pub bad_waves : harmonics < w 9 → good_map signed_words rows harmonics ≡ false
    unfolding good_map
    bad_waves h = not_right A (not_left (C && D) (to_above 0 harmonics (w 9) (omega arith) h))

    pub bad_low : w 0 < 1 → good_map signed_words rows harmonics ≡ false
    unfolding good_map
    bad_low h = not_right A (not_right B (not_left D (to_below 1 75 (w 0) h)))

    pub bad_high : 75 < w 0 → good_map signed_words rows harmonics ≡ false
    unfolding good_map
    bad_high h = not_right A (not_right B (not_left D (to_above 1 75 (w 0) (omega arith) h)))

    pub good_rest : w 8 < rows → w 9 ≤ harmonics → 1 ≤ w 0 → w 0 ≤ 75 → good_map signed_words rows harmonics ≡ climbs signed_words 8 0
    unfolding good_map
    good_rest a b l h =
        ap (λ (t : Bool). t && (B && (C && D))) (to_yes 0 (rows - 1) (w 8) (omega arith) (omega arith) (omega arith))
        ∙ ap (λ (t : Bool). t && (C && D)) (to_yes 0 harmonics (w 9) (omega arith) (omega arith) b)
        ∙ ap (λ (t : Bool). t && D) (to_yes 1 75 (w 0) (omega arith) l h)

    pub good_known : good_map signed_words rows harmonics ≡ true → GoodIndex w rows harmonics
    unfolding good_map
    good_known e =
        let f = and_right A (B && (C && D)) e in
        let g = and_right B (C && D) f in
        let most = to_known 0 (rows - 1) (w 8) (and_left A (B && (C && D)) e) in
        let tops = to_known 0 harmonics (w 9) (and_left B (C && D) f) in
        let start = to_known 1 75 (w 0) (and_left C D g) in
        record {
          low = start.0;
          high = start.1;
          climbing = climbs_known 8 0 start.1 (and_right C D g);
          terms = omega arith;
          waves = tops.1;
        }

-- ---- the code's loop over the ladder

-- the words of the map k, unsigned
abbrev pub map_words : List ℕ → ℕ → ℕ → ℕ
map_words month k j = word_at month (ikim_place k j)

-- before the word j + 1, p is the word j, and what is left of the ladder is the whole of it
pub record Climbed (month : List ℕ) (k p j : ℕ) : Type 0 where
  pub turns : j ≤ 8
  pub is : p ≡ map_words month k j
  pub small : map_words month k j ≤ 75
  pub same : climbs (signed_words (map_words month k)) (8 - j) j ≡ climbs (signed_words (map_words month k)) 8 0

-- the definition reads the signed words
pub same_words : (month : List ℕ) (k : ℕ) → ikim_at month k ≡ signed_words (map_words month k)
unfolding integer_at
same_words month k = refl

module _ (month : List ℕ) (k p j q : ℕ) (c : Climbed month k p j) (h : j < 8) (e : q ≡ map_words month k (j + 1)) where
  abbrev w : ℕ → ℕ
  w = map_words month k

  other : (q ≡ p → ⊥) → w (j + 1) ≡ w j → ⊥
  other n d = n (e ∙ d ∙ sym c.is)

  at : {b : Bool} → b ≡ exceeds (signed_of p) (signed_of q) → exceeds (signed_of (w j)) (signed_of (w (j + 1))) ≡ b
  at t = ap (λ (x : ℕ). exceeds (signed_of x) (signed_of (w (j + 1)))) (sym c.is) ∙ ap (λ (x : ℕ). exceeds (signed_of p) (signed_of x)) (sym e) ∙ sym t

  pub stops : q ≡ p → climbs (signed_words w) 8 0 ≡ true
  stops d = sym c.same ∙ climb_stop w j c.small h (sym e ∙ d ∙ c.is)

  pub falls : (q ≡ p → ⊥) → {b : Bool} → b ≡ exceeds (signed_of p) (signed_of q) → b ≡ false → climbs (signed_words w) 8 0 ≡ false
  falls n t f = sym c.same ∙ climb_bad w j c.small h (other n) (at t ∙ f)

  pub goes_up : (q ≡ p → ⊥) → {b : Bool} → b ≡ exceeds (signed_of p) (signed_of q) → b ≡ true → Climbed month k q (j + 1)
  goes_up n t f =
      record {
        turns = omega arith;
        is = e;
        small = (next_known (w j) (w (j + 1)) c.small (at t ∙ f)).most;
        same = sym (climb_next w j c.small h (other n) (at t ∙ f)) ∙ c.same;
      }

pub ends_up : (month : List ℕ) (k p j : ℕ) → Climbed month k p j → 8 ≤ j → climbs (signed_words (map_words month k)) 8 0 ≡ true
ends_up month k p j c h = sym c.same ∙ climb_end (map_words month k) j h

-- ---- one map, and all six

-- what holds of each of the six maps
pub six : (P : ℕ → Type 0) → P 0 → P 1 → P 2 → P 3 → P 4 → P 5 → (k : ℕ) → k < 6 → P k
six P a b c d e f zero h = a
six P a b c d e f (suc zero) h = b
six P a b c d e f (suc (suc zero)) h = c
six P a b c d e f (suc (suc (suc zero))) h = d
six P a b c d e f (suc (suc (suc (suc zero)))) h = e
six P a b c d e f (suc (suc (suc (suc (suc zero))))) h = f
six P a b c d e f (suc (suc (suc (suc (suc (suc k)))))) h = absurd (omega arith)

pub record Limits (rows harmonics : ℕ) : Type 0 where
  pub some : 1 ≤ rows
  pub few : rows ≤ 76
  pub waves : harmonics ≤ 6

within : (a b : ℕ) → T (leb 1 a) → T (leb a 76) → T (leb b 6) → Limits a b
within a b p q r = record { some = lit≤ p; few = lit≤ q; waves = lit≤ r }

pub limits : (k : ℕ) → k < 6 → Limits (get_or rows k 0) (get_or harmonics k 0)
limits =
    six (λ k. Limits (get_or rows k 0) (get_or harmonics k 0))
    (within 55 2 tt tt tt)
    (within 61 3 tt tt tt)
    (within 55 2 tt tt tt)
    (within 76 6 tt tt tt)
    (within 49 4 tt tt tt)
    (within 22 4 tt tt tt)

pub in_first : (u : ℕ) → (leb 1 u && leb u 75) ≡ true → (1 ≤ u) × (u ≤ 75)
in_first u e = (leb-true 1 u (and_left (leb 1 u) (leb u 75) e), leb-true u 75 (and_right (leb 1 u) (leb u 75) e))

module _ (month : List ℕ) (k : ℕ) (h : k < 6) where
  abbrev R : ℕ
  R = get_or rows k 0

  abbrev H : ℕ
  H = get_or harmonics k 0

  unsigned : good_map (signed_words (map_words month k)) R H ≡ good_map (ikim_at month k) R H
  unsigned = ap (λ (w : ℕ → ℤ). good_map w R H) (sym (same_words month k))

  -- what the code's tests show; u is the word
  module _ (u : ℕ) where
    pub fails_terms : u ≡ map_words month k 8 → R ≤ u → false ≡ good_map (ikim_at month k) R H
    fails_terms e t = let l = limits k h in sym (sym unsigned ∙ bad_terms _ R H l.some l.few l.waves (omega arith))

    pub fails_waves : u ≡ map_words month k 9 → H < u → false ≡ good_map (ikim_at month k) R H
    fails_waves e t = let l = limits k h in sym (sym unsigned ∙ bad_waves _ R H l.some l.few l.waves (omega arith))

    pub fails_first : u ≡ map_words month k 0 → (leb 1 u && leb u 75) ≡ false → false ≡ good_map (ikim_at month k) R H
    fails_first e t = go (leb 1 u) (leb u 75) (leb-false 1 u) (leb-false u 75) t
      where
        go : (a b : Bool) → (a ≡ false → u < 1) → (b ≡ false → 75 < u) → (a && b) ≡ false → false ≡ good_map (ikim_at month k) R H
        go true true f g t = never' t
        go true false f g t = let l = limits k h in let m = g refl in sym (sym unsigned ∙ bad_high _ R H l.some l.few l.waves (omega arith))
        go false b f g t = let l = limits k h in let m = f refl in sym (sym unsigned ∙ bad_low _ R H l.some l.few l.waves (omega arith))

  pub ladder_decides :
      map_words month k 8 < R → map_words month k 9 ≤ H → 1 ≤ map_words month k 0 → map_words month k 0 ≤ 75 →
      climbs (ikim_at month k) 8 0 ≡ good_map (ikim_at month k) R H
  ladder_decides a b l t =
      let x = limits k h in
      sym (sym unsigned ∙ good_rest _ R H x.some x.few x.waves a b l t ∙ ap (λ (w : ℕ → ℤ). climbs w 8 0) (sym (same_words month k)))

-- before the map k, what is left of the check is the whole of it
pub record Checked (month : List ℕ) (k : ℕ) : Type 0 where
  pub turns : k ≤ 6
  pub same : lowest_bad month (6 - k) k ≡ index_check month

pub unchecked : (month : List ℕ) → Checked month 0
unfolding index_check
unchecked month = record { turns = omega arith; same = refl }

module _ (month : List ℕ) (k : ℕ) (c : Checked month k) where
  module _ (h : k < 6) {b : Bool} (e : b ≡ good_map (ikim_at month k) (get_or rows k 0) (get_or harmonics k 0)) where
    map : lowest_bad month (6 - k) k ≡ lowest_bad month (suc (6 - (k + 1))) k
    map = let n : 6 - k ≡ suc (6 - (k + 1)) = omega arith in ap (λ (m : ℕ). lowest_bad month m k) n

    pub bad_map : b ≡ false → index_check month ≡ Err (Index (k + 1))
    unfolding lowest_bad
    bad_map f = sym c.same ∙ map ∙ cond_false _ _ (sym e ∙ f)

    pub next_map : b ≡ true → Checked month (k + 1)
    unfolding lowest_bad
    next_map t = record { turns = omega arith; same = sym (cond_true _ _ (sym e ∙ t)) ∙ sym map ∙ c.same }

  pub no_map : 6 ≤ k → index_check month ≡ Ok tt
  unfolding lowest_bad
  no_map h = let n : 6 - k ≡ 0 = omega arith in sym c.same ∙ ap (λ (m : ℕ). lowest_bad month m k) n
