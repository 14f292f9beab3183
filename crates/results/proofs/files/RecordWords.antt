-- The words of a `.daw` file and those of its records: a record's are the file's own, from its start
-- on, so that all are finite exactly where those of each record are. Assumes nothing.
use Rattle.std.proofs.Common.{Ok, ◌≡◌, sym, ap, subst, ◌∙◌, List, ℕ, ◌+◌, ◌-◌, ◌*◌, ◌/◌, ◌%◌, ◌≤◌, ◌<◌, arith, T, get_or, take, drop, get_or-take, get_or-drop}
use lib.Ieee.{binary32, of_bits}
use lib.Ieee.Scale.{finite}
use Rattle.base.specs.declared.refusal.Refusal.TheVariants.{RecordWord}
use Rattle.base.specs.Words.{word_of, word_at, float_at}
use Rattle.base.specs.MonthFile.{record_size, month_start}
use Rattle.base.specs.Finite.{record_words_check}
use Rattle.base.proofs.layout.FirstWords.{run_finite, finite_run}

module _ (daw : List ℕ) where
  -- the record of a month
  abbrev pub record_of : ℕ → List ℕ
  record_of m = take record_size (drop (month_start m) daw)

  byte_in : (m at k : ℕ) → at + k < record_size → get_or (record_of m) (at + k) 0 ≡ get_or daw (month_start m + at + k) 0
  byte_in m at k h =
      let e : month_start m + (at + k) ≡ month_start m + at + k = omega arith in
      get_or-take record_size (drop (month_start m) daw) (at + k) 0 h
      ∙ get_or-drop (month_start m) daw (at + k) 0
      ∙ ap (λ (p : ℕ). get_or daw p 0) e

  word_of_law : (m at : ℕ) → at + 4 ≤ record_size → word_at (record_of m) at ≡ word_at daw (month_start m + at)
  unfolding word_at
  word_of_law m at h =
      let e : at ≡ at + 0 = omega arith in
      let f : month_start m + at + 0 ≡ month_start m + at = omega arith in
      let b0 = ap (λ (p : ℕ). get_or (record_of m) p 0) e ∙ byte_in m at 0 (omega arith) ∙ ap (λ (p : ℕ). get_or daw p 0) f in
      let b1 = byte_in m at 1 (omega arith) in
      let b2 = byte_in m at 2 (omega arith) in
      let b3 = byte_in m at 3 (omega arith) in
      λ i. word_of (b0 i) (b1 i) (b2 i) (b3 i)

  finite_in : (m at : ℕ) → at + 4 ≤ record_size → finite (float_at (record_of m) at) ≡ finite (float_at daw (month_start m + at))
  unfolding float_at
  finite_in m at h = ap (λ (w : ℕ). finite (of_bits binary32 w)) (word_of_law m at h)

  pub record_in : record_words_check daw 12 ≡ Ok tt → (m : ℕ) → 1 ≤ m → m ≤ 12 → record_words_check (record_of m) 1 ≡ Ok tt
  unfolding record_words_check
  record_in e m low high = finite_run (record_of m) RecordWord 0 1976 (λ i h.
      let p : 0 + 4 * ((m - 1) * 1976 + i) ≡ month_start m + (0 + 4 * i) = omega arith in
      subst T (ap (λ (at : ℕ). finite (float_at daw at)) p ∙ sym (finite_in m (0 + 4 * i) (omega arith)))
      (run_finite daw RecordWord 0 23712 e ((m - 1) * 1976 + i) (omega arith)))

  pub all_in : ((m : ℕ) → 1 ≤ m → m ≤ 12 → record_words_check (record_of m) 1 ≡ Ok tt) → record_words_check daw 12 ≡ Ok tt
  unfolding record_words_check
  all_in each = finite_run daw RecordWord 0 23712 (λ i h.
      let m = i / 1976 + 1 in
      let j = i % 1976 in
      let p : month_start m + (0 + 4 * j) ≡ 0 + 4 * i = omega arith in
      subst T (finite_in m (0 + 4 * j) (omega arith) ∙ ap (λ (at : ℕ). finite (float_at daw at)) p)
      (run_finite (record_of m) RecordWord 0 1976 (each m (omega arith) (omega arith)) j (omega arith)))
