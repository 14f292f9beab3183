-- The first word that is no finite number: where all are finite the check accepts and the other way
-- round; it is the first of each part of a run; and of a month file that was walked it is the first
-- between the first table after `ikim` and the end of the last, since a right marker is a finite
-- number by its pattern. Assumes nothing.
use Rattle.std.proofs.Common.{◌≡◌, ℕ, zero, suc, ◌+◌, ◌-◌, ◌*◌, ◌%◌, ◌^◌, ◌<◌, ◌≤◌, Bool, true, false, cond, ◌&&◌, T, eqb, ltb, List, [], ◌∷◌, length, get_or, sym, refl, ap, ◌∙◌, subst, add-one, arith, eq-eqb, ne_eqb, Err, None, Ok, Some, is_some, bit_or, Float}
use native.Mathlib.Decide.{dec_lt}
use lib.Ieee.{nan, binary32, of_bits}
use lib.Ieee.Bits.{is_true}
use lib.Ieee.Scale.{finite}
use Rattle.base.specs.declared.refusal.Refusal.{Refusal}
use Rattle.base.specs.declared.refusal.Refusal.TheVariants.{RecordWord, MonthWord}
use Rattle.base.specs.Refusal.{Verdict}
use Rattle.base.specs.Refusal.{refuse_unless, ◌then◌}
use Rattle.base.specs.Words.{word_at, float_at, table_word_at, FiniteRun}
use Rattle.base.specs.MonthFile.{sizes, month_file_check, Marked}
use Rattle.base.specs.Tables.{Table, words_in, no_such_table, table_end, start_of, words_of, xf2cof}
use Rattle.base.specs.Finite.{words_check, record_words_check, float_tables, each_check, table_words_check, FiniteRecord, FiniteMonth, first_other, all_finite}
use Rattle.base.proofs.verdicts.Picks.{never}
use Rattle.base.proofs.verdicts.Refusals.{refused_not_accepted, then_both}
use Rattle.base.proofs.rounding.Exponents.{finite_sum, gathered}
use Rattle.base.proofs.layout.Walks.{accepted_marks}

-- ---- a word of a table

-- one that is finite is there
pub told_number : (s : List ℕ) (at : ℕ) → T (finite (float_at s at)) → table_word_at s at ≡ Some (float_at s at)
unfolding table_word_at
told_number s at t = ap (λ (b : Bool). cond b (Some (float_at s at)) None) (is_true (finite (float_at s at)) t)

-- ---- a run of words

module _ (s : List ℕ) where
  -- the check by the first other's byte
  pub by_first : (why : ℕ → Refusal) (at n : ℕ) → words_check why s at n ≡ refuse_unless (eqb (first_other s at n) (at + 4 * n)) (why (first_other s at n))
  unfolding words_check first_other
  by_first why at zero = sym (ap (λ (b : Bool). refuse_unless b (why at)) (eq-eqb at (at + 4 * 0) (omega arith)))
  by_first why at (suc n) = go (finite (float_at s at)) (by_first why (at + 4) n)
    where
      go :
          (b : Bool) →
          words_check why s (at + 4) n ≡ refuse_unless (eqb (first_other s (at + 4) n) (at + 4 + 4 * n)) (why (first_other s (at + 4) n)) →
          cond b (words_check why s (at + 4) n) (Err (why at))
          ≡ refuse_unless (eqb (cond b (first_other s (at + 4) n) at) (at + 4 * suc n)) (why (cond b (first_other s (at + 4) n) at))
      go true more =
          let e : at + 4 + 4 * n ≡ at + 4 * suc n = omega arith in
          more ∙ ap (λ (end : ℕ). refuse_unless (eqb (first_other s (at + 4) n) end) (why (first_other s (at + 4) n))) e
      go false more = sym (ap (λ (b : Bool). refuse_unless b (why at)) (ne_eqb at (at + 4 * suc n) (λ e. omega arith)))

  pub first_most : (at n : ℕ) → first_other s at n ≤ at + 4 * n
  unfolding first_other
  first_most at zero = omega arith
  first_most at (suc n) = go (finite (float_at s at)) (first_most (at + 4) n)
    where
      go : (b : Bool) → first_other s (at + 4) n ≤ at + 4 + 4 * n → cond b (first_other s (at + 4) n) at ≤ at + 4 * suc n
      go true more = omega arith
      go false more = omega arith

  -- a run's check as the code makes it
  pub by_found :
      (why : ℕ → Refusal) (at n end found : ℕ) → end ≡ at + 4 * n → found ≡ first_other s at n →
      refuse_unless (eqb found end) (why found) ≡ words_check why s at n
  by_found why at n end found e f = (λ t. refuse_unless (eqb (f t) (e t)) (why (f t))) ∙ sym (by_first why at n)

  -- the words after the first
  later : (at n : ℕ) → FiniteRun s at (suc n) → FiniteRun s (at + 4) n
  later at n r i h = subst (λ (p : ℕ). T (finite (float_at s p))) (omega arith) (r (suc i) (omega arith))

  here : (at n : ℕ) → FiniteRun s at (suc n) → finite (float_at s at) ≡ true
  here at n r = is_true (finite (float_at s at)) (subst (λ (p : ℕ). T (finite (float_at s p))) (omega arith) (r 0 (omega arith)))

  -- all finite: the first other stands behind them
  pub none_other : (at n : ℕ) → FiniteRun s at n → first_other s at n ≡ at + 4 * n
  unfolding first_other
  none_other at zero r = omega arith
  none_other at (suc n) r =
      ap (λ (b : Bool). cond b (first_other s (at + 4) n) at) (here at n r) ∙ none_other (at + 4) n (later at n r) ∙ omega arith

  -- the search: from the word i on the first other is that of the whole run
  abbrev pub Sought : ℕ → ℕ → ℕ → Type 0
  Sought at n i = first_other s (at + 4 * i) (n - i) ≡ first_other s at n

  one_more : (at n i : ℕ) → i < n → first_other s (at + 4 * i) (n - i) ≡ cond (finite (float_at s (at + 4 * i))) (first_other s (at + 4 * (i + 1)) (n - (i + 1))) (at + 4 * i)
  unfolding first_other
  one_more at n i h =
      let e : n - i ≡ suc (n - (i + 1)) = omega arith in
      let f : at + 4 * i + 4 ≡ at + 4 * (i + 1) = omega arith in
      ap (first_other s (at + 4 * i)) e
      ∙ ap (λ (p : ℕ). cond (finite (float_at s (at + 4 * i))) (first_other s p (n - (i + 1))) (at + 4 * i)) f

  pub sought_on : (at n i : ℕ) → i < n → Sought at n i → finite (float_at s (at + 4 * i)) ≡ true → Sought at n (i + 1)
  sought_on at n i h z e =
      sym (one_more at n i h ∙ ap (λ (b : Bool). cond b (first_other s (at + 4 * (i + 1)) (n - (i + 1))) (at + 4 * i)) e) ∙ z

  pub sought_here : (at n i : ℕ) → i < n → Sought at n i → finite (float_at s (at + 4 * i)) ≡ false → at + 4 * i ≡ first_other s at n
  sought_here at n i h z e =
      sym (one_more at n i h ∙ ap (λ (b : Bool). cond b (first_other s (at + 4 * (i + 1)) (n - (i + 1))) (at + 4 * i)) e) ∙ z

  pub sought_none : (at n i : ℕ) → i ≤ n → n ≤ i → Sought at n i → at + 4 * n ≡ first_other s at n
  unfolding first_other
  sought_none at n i l h z =
      let e : i ≡ n = omega arith in
      let f : n - i ≡ 0 = omega arith in
      ap (λ (j : ℕ). at + 4 * j) (sym e) ∙ sym (ap (first_other s (at + 4 * i)) f) ∙ z

  pub all_run : (at n : ℕ) → all_finite s at n ≡ true → FiniteRun s at n
  unfolding all_finite
  all_run at zero e i h = absurd (omega arith)
  all_run at (suc n) e i h = elim (dec_lt i n) [
    | yes l ↦ all_run at n (true_l (all_finite s at n) _ e) i l
    | no g ↦ subst (λ (j : ℕ). T (finite (float_at s (at + 4 * j)))) (omega (arith, g)) (true_r (all_finite s at n) _ e)
  ]
    where
      true_l : (a b : Bool) → (a && b) ≡ true → a ≡ true
      true_l true b q = refl
      true_l false b q = q

      true_r : (a b : Bool) → (a && b) ≡ true → T b
      true_r true b q = subst T (sym q) tt
      true_r false b q = absurd (subst T (sym q) tt)

  -- a word more: its sum is gathered with those before it
  pub all_next :
      (at i seen w : ℕ) → ltb seen (2 ^ 31) ≡ all_finite s at i → w ≡ word_at s (at + 4 * i) →
      ltb (bit_or seen (w % 2 ^ 31 + 2 ^ 23)) (2 ^ 31) ≡ all_finite s at (i + 1)
  unfolding all_finite float_at
  all_next at i seen w so_far e =
      gathered seen (w % 2 ^ 31 + 2 ^ 23)
      ∙ (λ t. so_far t && (sym (finite_sum w) ∙ ap (λ (x : ℕ). finite (of_bits binary32 x)) e) t)
      ∙ ap (all_finite s at) (sym (add-one i))

  -- accepted exactly where all are finite
  pub run_finite : (why : ℕ → Refusal) (at n : ℕ) → words_check why s at n ≡ Ok tt → FiniteRun s at n
  unfolding words_check
  run_finite why at zero e i h = absurd (omega arith)
  run_finite why at (suc n) e i h = go (finite (float_at s at)) refl e (run_finite why (at + 4) n) i h
    where
      go :
          (b : Bool) → finite (float_at s at) ≡ b → cond b (words_check why s (at + 4) n) (Err (why at)) ≡ Ok tt →
          (words_check why s (at + 4) n ≡ Ok tt → FiniteRun s (at + 4) n) →
          (i : ℕ) → i < suc n → T (finite (float_at s (at + 4 * i)))
      go true f e more zero h = subst (λ (p : ℕ). T (finite (float_at s p))) (omega arith) (subst T (sym f) tt)
      go true f e more (suc i) h = subst (λ (p : ℕ). T (finite (float_at s p))) (omega arith) (more e i (omega arith))
      go false f e more i h = refused_not_accepted e

  pub finite_run : (why : ℕ → Refusal) (at n : ℕ) → FiniteRun s at n → words_check why s at n ≡ Ok tt
  unfolding words_check
  finite_run why at zero r = refl
  finite_run why at (suc n) r =
      ap (λ (b : Bool). cond b (words_check why s (at + 4) n) (Err (why at))) (here at n r)
      ∙ finite_run why (at + 4) n (later at n r)

  -- two runs, one behind the other
  pub two_runs : (why : ℕ → Refusal) (at m n : ℕ) → words_check why s at (m + n) ≡ (words_check why s at m then words_check why s (at + 4 * m) n)
  unfolding words_check
  two_runs why at zero n =
      let e : 0 + n ≡ n = omega arith in
      let f : at ≡ at + 4 * 0 = omega arith in
      λ i. words_check why s (f i) (e i)
  two_runs why at (suc m) n =
      let e : suc m + n ≡ suc (m + n) = omega arith in
      ap (words_check why s at) e
      ∙ go (finite (float_at s at)) (two_runs why (at + 4) m n)
    where
      go :
          (b : Bool) →
          words_check why s (at + 4) (m + n) ≡ (words_check why s (at + 4) m then words_check why s (at + 4 + 4 * m) n) →
          cond b (words_check why s (at + 4) (m + n)) (Err (why at))
          ≡ (cond b (words_check why s (at + 4) m) (Err (why at)) then words_check why s (at + 4 * suc m) n)
      go true more =
          let e : at + 4 + 4 * m ≡ at + 4 * suc m = omega arith in
          more ∙ ap (λ (p : ℕ). words_check why s (at + 4) m then words_check why s p n) e
      go false more = refl

  -- ---- tables, with words between them that are finite

  abbrev check : ℕ → ℕ → Verdict
  check = words_check MonthWord s

  -- the tables stand in the n words from `at` on, each behind `gap` others, which are finite
  Spread : ℕ → ℕ → List Table → Type 0
  Spread at n [] = n ≡ 0
  Spread at n (t ∷ ts) =
      (gap : ℕ) × (rest : ℕ) × (t.from ≡ at + 4 * gap) × (n ≡ gap + (words_in t + rest)) × (check at gap ≡ Ok tt)
      × Spread (table_end t) rest ts

  no_words : (at : ℕ) → check at 0 ≡ Ok tt
  unfolding words_check
  no_words at = refl

  joined : (at n : ℕ) (ts : List Table) → Spread at n ts → check at n ≡ each_check s ts
  unfolding Spread each_check words_check
  joined at n [] e = ap (check at) e
  joined at n (t ∷ ts) (gap, rest, from, count, between, more) =
      let m = words_in t + rest in
      ap (check at) count
      ∙ two_runs MonthWord at gap m
      ∙ ap (λ (v : Verdict). v then check (at + 4 * gap) m) between
      ∙ ap (λ (p : ℕ). check p m) (sym from)
      ∙ two_runs MonthWord t.from (words_in t) rest
      ∙ ap (λ (v : Verdict). check t.from (words_in t) then v) (joined (table_end t) rest ts more)

  -- ---- the tables of a month file that was walked

  -- two words that are small numbers, as markers are
  between :
      (at m n : ℕ) → T (finite (of_bits binary32 m)) → T (finite (of_bits binary32 n)) → word_at s at ≡ m → word_at s (at + 4) ≡ n →
      check at 2 ≡ Ok tt
  unfolding float_at
  between at m n p q d e = finite_run MonthWord at 2 both
    where
      both : FiniteRun s at 2
      both zero h = subst (λ (a : ℕ). T (finite (of_bits binary32 (word_at s a)))) (omega arith) (subst (λ (w : ℕ). T (finite (of_bits binary32 w))) (sym d) p)
      both (suc zero) h = subst (λ (w : ℕ). T (finite (of_bits binary32 w))) (sym e) q
      both (suc (suc i)) h = absurd (omega arith)

  spread : Marked s 0 sizes → Spread 252 9574 float_tables
  unfolding Spread of_bits
  spread marks =
      let m1 = marks.2 in
      let m2 = m1.2 in
      let m3 = m2.2 in
      let m4 = m3.2 in
      let m5 = m4.2 in
      let m6 = m5.2 in
      let m7 = m6.2 in
      let m8 = m7.2 in (
        0,
        6790,
        refl,
        refl,
        no_words _,
        (
          0,
          6778,
          refl,
          refl,
          no_words _,
          (
            2,
            6476,
            refl,
            refl,
            between 11436 11184 5328 tt tt m1.1 m2.0,
            (
              0,
              6308,
              refl,
              refl,
              no_words _,
              (
                0,
                5444,
                refl,
                refl,
                no_words _,
                (
                  2,
                  4560,
                  refl,
                  refl,
                  between 16772 5328 3528 tt tt m2.1 m3.0,
                  (
                    2,
                    3982,
                    refl,
                    refl,
                    between 20308 3528 3168 tt tt m3.1 m4.0,
                    (
                      0,
                      3766,
                      refl,
                      refl,
                      no_words _,
                      (
                        2,
                        3761,
                        refl,
                        refl,
                        between 23484 3168 1920 tt tt m4.1 m5.0,
                        (
                          0,
                          3758,
                          refl,
                          refl,
                          no_words _,
                          (
                            0,
                            3756,
                            refl,
                            refl,
                            no_words _,
                            (
                              0,
                              3754,
                              refl,
                              refl,
                              no_words _,
                              (
                                0,
                                3290,
                                refl,
                                refl,
                                no_words _,
                                (
                                  0,
                                  3284,
                                  refl,
                                  refl,
                                  no_words _,
                                  (
                                    2,
                                    2428,
                                    refl,
                                    refl,
                                    between 25412 1920 7128 tt tt m5.1 m6.0,
                                    (
                                      0,
                                      1500,
                                      refl,
                                      refl,
                                      no_words _,
                                      (
                                        2,
                                        948,
                                        refl,
                                        refl,
                                        between 32548 7128 4400 tt tt m6.1 m7.0,
                                        (
                                          0,
                                          398,
                                          refl,
                                          refl,
                                          no_words _,
                                          (2, 0, refl, refl, between 36956 4400 1584 tt tt m7.1 m8.0, refl),
                                        ),
                                      ),
                                    ),
                                  ),
                                ),
                              ),
                            ),
                          ),
                        ),
                      ),
                    ),
                  ),
                ),
              ),
            ),
          ),
        ),
      )

  pub walked_words : month_file_check s ≡ Ok tt → check 252 9574 ≡ table_words_check s
  unfolding table_words_check
  walked_words e = joined 252 9574 float_tables (spread (accepted_marks s e))

  -- ---- table by table

  each_finite :
      (ts : List Table) → each_check s ts ≡ Ok tt → (k : ℕ) → k < length ts →
      let t = get_or ts k no_such_table in FiniteRun s t.from (words_in t)
  unfolding each_check
  each_finite [] e k h = absurd (omega arith)
  each_finite (t ∷ ts) e zero h = run_finite MonthWord t.from (words_in t) (then_both (check t.from (words_in t)) (each_check s ts) e).0
  each_finite (t ∷ ts) e (suc k) h =
      each_finite ts (then_both (check t.from (words_in t)) (each_check s ts) e).1 k (omega arith)

  finite_each :
      (ts : List Table) → ((k : ℕ) → k < length ts → let t = get_or ts k no_such_table in FiniteRun s t.from (words_in t)) →
      each_check s ts ≡ Ok tt
  unfolding each_check
  finite_each [] r = refl
  finite_each (t ∷ ts) r =
      ap (λ (v : Verdict). v then each_check s ts) (finite_run MonthWord t.from (words_in t) (r 0 (omega arith)))
      ∙ finite_each ts (λ k h. r (suc k) (omega arith))

  -- accepted exactly where every word of the tables 2 to 20 is finite
  pub tables_finite : table_words_check s ≡ Ok tt → FiniteMonth s
  unfolding table_words_check
  tables_finite e = record { words = by_number }
    where
      by_number : (number : ℕ) → 2 ≤ number → number ≤ 20 → FiniteRun s (start_of number) (words_of number)
      by_number zero l h = absurd (omega arith)
      by_number (suc zero) l h = absurd (omega arith)
      by_number (suc (suc k)) l h = each_finite float_tables e k (omega arith)

  pub finite_tables : FiniteMonth s → table_words_check s ≡ Ok tt
  unfolding table_words_check
  finite_tables f = finite_each float_tables (λ k h. f.words (suc (suc k)) (omega arith) (omega arith))

  -- and every word of the record
  pub record_finite : record_words_check s 1 ≡ Ok tt → FiniteRecord s
  unfolding record_words_check
  record_finite e = record { words = run_finite RecordWord (start_of xf2cof) (words_of xf2cof) e }

  pub finite_record : FiniteRecord s → record_words_check s 1 ≡ Ok tt
  unfolding record_words_check
  finite_record f = finite_run RecordWord (start_of xf2cof) (words_of xf2cof) f.words
