-- What the index check's answer says, both ways: it accepts exactly the tables whose six maps are
-- good over their words (`index_good`), and refuses with 11 and a map exactly where that map is the
-- lowest bad one (`index_refused`). Words past a ladder's end stay free. Assumes nothing.
use Rattle.std.proofs.Common.{Err, Ok, ◌≡◌, refl, sym, ap, ◌∙◌, subst, Bool, true, false, cond, List, ℕ, zero, suc, ◌+◌, ◌-◌, ◌≤◌, ◌<◌, arith, add-one, ℤ, get_or, le-leb}
use native.Mathlib.Decide.{ℕ_discrete}
use Rattle.base.specs.declared.refusal.Refusal.TheVariants.{Index}
use Rattle.base.specs.Refusal.{Verdict}
use Rattle.base.specs.Refusal.{verdict_report}
use Rattle.base.specs.Index.{ikim_at, index_of, map_word, rows, harmonics, climbs, good_map, lowest_bad, index_check, Climbs, top, level, up, GoodIndex}
use Rattle.results.specs.AcceptedFiles.{GoodWords, LowestBad}
use Rattle.base.proofs.verdicts.Picks.{cond_true, cond_false, never'}
use Rattle.base.proofs.verdicts.Refusals.{refused_not_accepted}
use Rattle.base.proofs.ladder.Ladders.{and_true, signed_words, same_yes, same_no, exceeds_even, good_rest, good_known, map_words, same_words, limits, Checked, unchecked, bad_map, next_map, no_map}
use Rattle.base.proofs.ladder.Indexing.{climbs_same, index_word, good_index}

-- ---- a map whose words are good passes

module _ (w : ℕ → ℕ) where
  climbs_good : (n j : ℕ) → w j ≤ 75 → Climbs w n j → climbs (signed_words w) n j ≡ true
  unfolding climbs
  climbs_good zero j small top = refl
  climbs_good (suc n) j small (level e) = cond_true _ _ (same_yes (w j) (w (j + 1)) small e)
  climbs_good (suc n) j small (up a b d c) =
      cond_false _ _ (same_no (w j) (w (j + 1)) small (λ q. omega arith))
      ∙ and_true (exceeds_even (w j) (w (j + 1)) small (omega arith) b ∙ le-leb (w (j + 1)) 75 d) (climbs_good n (j + 1) d c)

  good_passes : (rows harmonics : ℕ) → 1 ≤ rows → rows ≤ 76 → harmonics ≤ 6 → GoodIndex w rows harmonics → good_map (signed_words w) rows harmonics ≡ true
  good_passes rows harmonics a b d g =
      good_rest w rows harmonics a b d g.terms g.waves g.low g.high ∙ climbs_good 8 0 g.high g.climbing

-- words that are the same are as good
pub words_read : (w v : ℕ → ℕ) → ((j : ℕ) → j ≤ 9 → v j ≡ w j) → (r m : ℕ) → GoodIndex w r m → GoodIndex v r m
words_read w v f r m g =
    let a = f 0 (omega arith) in
    let b = f 8 (omega arith) in
    let d = f 9 (omega arith) in
    record {
      low = omega (arith, g.low);
      high = omega (arith, g.high);
      climbing = climbs_same w v 8 0 (λ i l. f i (omega arith)) (omega arith) g.climbing;
      terms = omega (arith, g.terms);
      waves = omega (arith, g.waves);
    }

-- the test of the map k, counted from 0
abbrev pub good_at : List ℕ → ℕ → Bool
good_at month k = good_map (ikim_at month k) (get_or rows k 0) (get_or harmonics k 0)

module _ (month : List ℕ) (k : ℕ) (h : k < 6) where
  -- the test of a map passes exactly where its words are good
  pub map_good : (good_at month k ≡ true → GoodWords month k) × (GoodWords month k → good_at month k ≡ true)
  map_good =
      let l = limits k h in
      let R = get_or rows k 0 in
      let H = get_or harmonics k 0 in
      let e : good_at month k ≡ good_map (signed_words (map_words month k)) R H = ap (λ (w : ℕ → ℤ). good_map w R H) (same_words month k) in (
        λ t. words_read (map_words month k) (map_word (index_of month) k) (λ j q. index_word month k j h (omega arith)) R H (good_known (map_words month k) R H l.some l.few l.waves (sym e ∙ t)),
        λ g. e ∙ good_passes (map_words month k) R H l.some l.few l.waves (words_read (map_word (index_of month) k) (map_words month k) (λ j q. sym (index_word month k j h (omega arith))) R H g),
      )

-- ---- the check over the six

module _ (month : List ℕ) where
  -- maps that pass are gone by
  gone_by : (k : ℕ) → k ≤ 6 → ((i : ℕ) → i < k → good_at month i ≡ true) → Checked month k
  gone_by zero h f = unchecked month
  gone_by (suc k) h f =
      subst (Checked month) (add-one k)
      (next_map month k (gone_by k (omega arith) (λ i l. f i (omega arith))) (omega arith) refl (f k (omega arith)))

  -- it accepts exactly where the words of all six maps are good
  pub index_good : (index_check month ≡ Ok tt → (k : ℕ) → k < 6 → GoodWords month k) × (((k : ℕ) → k < 6 → GoodWords month k) → index_check month ≡ Ok tt)
  index_good = (
    λ e k h. good_index month e k h,
    λ f. no_map month 6 (gone_by 6 (omega arith) (λ i l. (map_good month i l).1 (f i l))) (omega arith),
  )

  -- of n maps from the map k on
  record Found (n k place : ℕ) : Type 0 where
    low : k < place
    high : place ≤ k + n
    bad : good_at month (place - 1) ≡ false
    before : (i : ℕ) → k ≤ i → i < place - 1 → good_at month i ≡ true

  found : (n k place : ℕ) → lowest_bad month n k ≡ Err (Index place) → Found n k place
  unfolding lowest_bad
  found zero k place e = refused_not_accepted (sym e)
  found (suc n) k place e = go (good_at month k) refl (found n (k + 1) place) e
    where
      go :
          (b : Bool) → good_at month k ≡ b → (lowest_bad month n (k + 1) ≡ Err (Index place) → Found n (k + 1) place) →
          cond b (lowest_bad month n (k + 1)) (Err (Index (k + 1))) ≡ Err (Index place) → Found (suc n) k place
      go true g f e =
          let r = f e in
          record {
            low = omega (arith, r.low);
            high = omega (arith, r.high);
            bad = r.bad;
            before = λ i l m. elim (ℕ_discrete i k) [ yes q ↦ ap (good_at month) q ∙ g | no q ↦ r.before i (omega arith) m ];
          }
      go false g f e =
          let p : k + 1 ≡ place = ap (λ (v : Verdict). (verdict_report v).1) e in
          let q : place - 1 ≡ k = omega arith in
          record { low = omega arith; high = omega arith; bad = ap (good_at month) q ∙ g; before = λ i l m. absurd (omega arith) }

  -- a map whose words are not good fails the test
  bad_test : (k : ℕ) → k < 6 → (GoodWords month k → ⊥) → good_at month k ≡ false
  bad_test k h n = go (good_at month k) refl
    where
      go : (b : Bool) → good_at month k ≡ b → b ≡ false
      go true e = absurd (n ((map_good month k h).0 e))
      go false e = refl

  -- '11, place the lowest bad map 1 to 6'
  pub index_refused :
      (place : ℕ) →
      (index_check month ≡ Err (Index place) → LowestBad month place)
      × (LowestBad month place → index_check month ≡ Err (Index place))
  unfolding index_check
  index_refused place = (
    λ e.
        let r = found 6 0 place e in
        let l = r.low in
        let h = r.high in
        record {
          low = omega arith;
          high = omega arith;
          bad = λ g. never' (sym ((map_good month (place - 1) (omega arith)).1 g) ∙ r.bad);
          before = λ k m. (map_good month k (omega arith)).0 (r.before k (omega arith) m);
        },
    λ b.
        let l = b.low in
        let h = b.high in
        let q : place - 1 + 1 ≡ place = omega arith in
        bad_map month (place - 1)
        (gone_by (place - 1) (omega arith) (λ k m. (map_good month k (omega arith)).1 (b.before k m)))
        (omega arith) refl (bad_test (place - 1) (omega arith) b.bad)
        ∙ ap (λ (n : ℕ). Err (Index n)) q,
  )
