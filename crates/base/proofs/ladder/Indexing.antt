-- A month file that passes the index check gives, for each map, a ladder within 75, terms within
-- the map's rows and harmonics within its own, so that every index that `virtim` and `versy` make
-- of them is inside its array. Assumes nothing.
use Rattle.std.proofs.Common.{◌≡◌, ℕ, zero, suc, ◌+◌, ◌-◌, ◌*◌, ◌%◌, ◌<◌, ◌≤◌, Bool, true, false, cond, ◌⊎◌, List, get_or, ℤ, sym, refl, ap, ◌∙◌, subst, inl, inr, add-zero, zero-add, add-one, arith, Err, Ok}
use Rattle.base.specs.declared.refusal.Refusal.TheVariants.{Index}
use Rattle.base.specs.Index.{ikim_at, index_of, map_word, rows, harmonics, good_map, lowest_bad, index_check, Climbs, top, level, up, GoodIndex, Reaches}
use Rattle.base.specs.Blend.{IA, IB, IC}
use Rattle.base.proofs.lists.Fills.{run_at}
use Rattle.base.proofs.verdicts.Refusals.{refused_not_accepted}
use Rattle.base.proofs.ladder.Ladders.{map_words, same_words, good_known, six, limits}

-- ---- no map is bad

abbrev good : List ℕ → ℕ → Bool
good month k = good_map (ikim_at month k) (get_or rows k 0) (get_or harmonics k 0)

good_from : (month : List ℕ) (n k i : ℕ) → lowest_bad month n k ≡ Ok tt → i < n → good month (k + i) ≡ true
unfolding lowest_bad
good_from month zero k i e h = absurd (omega arith)
good_from month (suc n) k i e h = go (good month k) refl (good_from month n (k + 1)) i h e
  where
    go :
        (b : Bool) → good month k ≡ b →
        ((i : ℕ) → lowest_bad month n (k + 1) ≡ Ok tt → i < n → good month (k + 1 + i) ≡ true) →
        (i : ℕ) → i < suc n → cond b (lowest_bad month n (k + 1)) (Err (Index (k + 1))) ≡ Ok tt →
        good month (k + i) ≡ true
    go true g f zero h e = ap (good month) (add-zero k) ∙ g
    go true g f (suc i) h e = let m : k + suc i ≡ k + 1 + i = omega arith in ap (good month) m ∙ f i e (omega arith)
    go false g f i h e = refused_not_accepted e

module _ (month : List ℕ) (passed : index_check month ≡ Ok tt) where
  every_good : (k : ℕ) → k < 6 → good month k ≡ true
  unfolding index_check
  every_good k h = ap (good month) (sym (zero-add k)) ∙ good_from month 6 0 k passed h

  good_words : (k : ℕ) → k < 6 → GoodIndex (map_words month k) (get_or rows k 0) (get_or harmonics k 0)
  good_words k h =
      let l = limits k h in
      good_known (map_words month k) (get_or rows k 0) (get_or harmonics k 0) l.some l.few l.waves
      (ap (λ (w : ℕ → ℤ). good_map w (get_or rows k 0) (get_or harmonics k 0)) (sym (same_words month k)) ∙ every_good k h)

-- ---- over the 60 words

pub climbs_same : (w v : ℕ → ℕ) (n j : ℕ) → ((i : ℕ) → i ≤ 8 → v i ≡ w i) → n + j ≤ 8 → Climbs w n j → Climbs v n j
climbs_same w v zero j f h top = top
climbs_same w v (suc n) j f h (level e) = level (f (j + 1) (omega arith) ∙ e ∙ sym (f j (omega arith)))
climbs_same w v (suc n) j f h (up a b d c) =
    let x = f j (omega arith) in
    let y = f (j + 1) (omega arith) in
    let e : (v (j + 1) - v j) % 2 ≡ (w (j + 1) - w j) % 2 = ap (λ (t : ℕ). (t - v j) % 2) y ∙ ap (λ (t : ℕ). (w (j + 1) - t) % 2) x in
    up {n = n} {j = j} (omega arith) (e ∙ b) (omega arith) (climbs_same w v n (j + 1) f (omega arith) c)

pub index_word : (month : List ℕ) (k j : ℕ) → k < 6 → j < 10 → map_word (index_of month) k j ≡ map_words month k j
unfolding index_of
index_word month k j h l = run_at _ 60 (k * 10 + j) 0 (omega arith)

module _ (month : List ℕ) (passed : index_check month ≡ Ok tt) (k : ℕ) (h : k < 6) where
  -- the law that the layers above rely on
  pub good_index : GoodIndex (map_word (index_of month) k) (get_or rows k 0) (get_or harmonics k 0)
  good_index =
      let g = good_words month passed k h in
      let a = index_word month k 0 h (omega arith) in
      let b = index_word month k 8 h (omega arith) in
      let d = index_word month k 9 h (omega arith) in
      record {
        low = omega arith;
        high = omega arith;
        climbing = climbs_same (map_words month k) (map_word (index_of month) k) 8 0 (λ i l. index_word month k i h (omega arith)) (omega arith) g.climbing;
        terms = omega arith;
        waves = omega arith;
      }

-- what each of the ladder's words is: equal to its predecessor, or above it by an even number and
-- at most 75
pub climbs_cases :
    {w : ℕ → ℕ} {n j : ℕ} → Climbs w (suc n) j →
    (w (j + 1) ≡ w j) ⊎ ((w j + 2 ≤ w (j + 1)) × ((w (j + 1) - w j) % 2 ≡ 0) × (w (j + 1) ≤ 75) × Climbs w n (j + 1))
climbs_cases (level e) = inl e
climbs_cases (up a b d c) = inr (a, b, d, c)

-- a word that the ladder reaches: it is at most 75 if word 0 is, what follows climbs on, and the
-- next word, if it is another, is above it
pub record Reached (w : ℕ → ℕ) (j : ℕ) : Type 0 where
  pub most : w 0 ≤ 75 → w j ≤ 75
  pub on : Climbs w (8 - j) j
  pub rises : j < 8 → (w (j + 1) ≡ w j → ⊥) → w j < w (j + 1)

module _ (w : ℕ → ℕ) where
  rung_from : (n j : ℕ) → n ≡ 8 - j → (w 0 ≤ 75 → w j ≤ 75) → Climbs w n j → Reached w j
  rung_from n j e m c =
      record {
        most = m;
        on = subst (λ (x : ℕ). Climbs w x j) e c;
        rises = λ h d. go n e c h d;
      }
    where
      go : (n : ℕ) → n ≡ 8 - j → Climbs w n j → j < 8 → (w (j + 1) ≡ w j → ⊥) → w j < w (j + 1)
      go zero e top h d = absurd (omega arith)
      go (suc n) e (level l) h d = absurd (d l)
      go (suc n) e (up a b m c) h d = omega arith

  next_rung : (n j : ℕ) → suc n ≡ 8 - j → Climbs w (suc n) j → (w (j + 1) ≡ w j → ⊥) → Reached w (j + 1)
  next_rung n j e (level l) d = absurd (d l)
  next_rung n j e (up a b m c) d = rung_from n (j + 1) (omega arith) (λ z. m) c

  -- every word that the ladder reaches
  pub rungs : Climbs w 8 0 → (j : ℕ) → j ≤ 8 → Reaches w j → Reached w j
  rungs c zero h r = rung_from 8 0 refl (λ m. m) c
  rungs c (suc j) h r =
      let g = rungs c j (omega arith) (λ i l. r i (omega arith)) in
      let e : suc (7 - j) ≡ 8 - j = omega arith in
      subst (Reached w) (add-one j) (next_rung (7 - j) j e (subst (λ (x : ℕ). Climbs w x j) (sym e) g.on) (r j (omega arith)))

-- ---- the indices

-- `virtim` reads the row j of the map k up to the harmonic h: `cof[isubc]`, the last of them, lies
-- in the map's own run of COFION and so in COFION; and `ab[isuba - 1]` lies in the map's own part
-- of AB and so in AB
pub record VirtimInside (k j h : ℕ) : Type 0 where
  pub own : get_or IA k 0 - 1 + j * get_or IB k 0 + 2 * h < get_or IA k 0 - 1 + get_or rows k 0 * get_or IB k 0
  pub all : get_or IA k 0 - 1 + j * get_or IB k 0 + 2 * h < 2604
  pub own_result : get_or IC k 0 - 1 + j < get_or IC k 0 - 1 + get_or rows k 0
  pub result : get_or IC k 0 - 1 + j < 318

abbrev Reads : ℕ → Type 0
Reads k = (j h : ℕ) → j < get_or rows k 0 → h ≤ get_or harmonics k 0 → VirtimInside k j h

pub reads_inside : (k : ℕ) → k < 6 → Reads k
reads_inside =
    six Reads
    (λ j h a b. record { own = omega arith; all = omega arith; own_result = omega arith; result = omega arith })
    (λ j h a b. record { own = omega arith; all = omega arith; own_result = omega arith; result = omega arith })
    (λ j h a b. record { own = omega arith; all = omega arith; own_result = omega arith; result = omega arith })
    (λ j h a b. record { own = omega arith; all = omega arith; own_result = omega arith; result = omega arith })
    (λ j h a b. record { own = omega arith; all = omega arith; own_result = omega arith; result = omega arith })
    (λ j h a b. record { own = omega arith; all = omega arith; own_result = omega arith; result = omega arith })

module _ (month : List ℕ) (passed : index_check month ≡ Ok tt) (k : ℕ) (h : k < 6) where
  pub virtim_inside :
      (j i : ℕ) → j < map_word (index_of month) k 8 + 1 → i ≤ map_word (index_of month) k 9 → VirtimInside k j i
  virtim_inside j i a b = let g = good_index month passed k h in reads_inside k h j i (omega arith) (omega arith)

  -- `versy`'s basis has 76 places: at every rung of the ladder it is written up to that word, and
  -- it is read up to word 8
  pub versy_inside :
      ((j : ℕ) → j ≤ 8 → Reaches (map_word (index_of month) k) j → map_word (index_of month) k j < 76) × (map_word (index_of month) k 8 < 76)
  versy_inside =
      let g = good_index month passed k h in
      let l = limits k h in
      (λ j n r. let m = (rungs (map_word (index_of month) k) g.climbing j n r).most g.high in omega arith, omega arith)
