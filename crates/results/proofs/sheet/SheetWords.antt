-- A sheet's 14 words are the first 56 bytes: in a list that is cut every byte behind the cut counts as
-- 0. Assumes nothing.
use Rattle.std.proofs.Common.{List, [], ◌∷◌, ◌≡◌, refl, sym, ◌∙◌, ℕ, zero, suc, ◌+◌, ◌*◌, ◌≤◌, arith, get_or, take, get_or-take, le-ltb, lt-ltb}
use native.Mathlib.Decide.{dec_lt}
use Rattle.base.specs.Words.{word_of, word_at}
use Rattle.base.proofs.verdicts.Picks.{cond_true, cond_false}
use Rattle.maps.specs.Inputs.{inputs_from, word_of_sheet}
use Rattle.worksheet.specs.Desks.{open_of, opened_of, sheet_opened_of}

no_bytes : (n : ℕ) (s : List ℕ) (k : ℕ) → n ≤ k → 0 ≡ get_or (take n s) k 0
no_bytes zero s k h = refl
no_bytes (suc n) [] k h = refl
no_bytes (suc n) (x ∷ s) zero h = absurd (omega arith)
no_bytes (suc n) (x ∷ s) (suc k) h = no_bytes n s k (omega arith)

word_is : (s : List ℕ) (k : ℕ) → word_of_sheet s k ≡ word_at (take 56 s) (4 * k)
unfolding word_at
word_is s k = elim (dec_lt k 14) [
  | yes h ↦
      let b0 = get_or-take 56 s (4 * k) 0 (omega arith) in
      let b1 = get_or-take 56 s (4 * k + 1) 0 (omega arith) in
      let b2 = get_or-take 56 s (4 * k + 2) 0 (omega arith) in
      let b3 = get_or-take 56 s (4 * k + 3) 0 (omega arith) in
      cond_true _ _ (lt-ltb k 14 h) ∙ sym (λ i. word_of (b0 i) (b1 i) (b2 i) (b3 i))
  | no h ↦
      let at : (j : ℕ) → 0 ≡ get_or (take 56 s) (4 * k + j) 0 = λ j. no_bytes 56 s (4 * k + j) (omega (arith, h)) in
      let b0 = no_bytes 56 s (4 * k) (omega (arith, h)) in
      let b1 = at 1 in
      let b2 = at 2 in
      let b3 = at 3 in
      cond_false _ _ (le-ltb k 14 (omega (arith, h))) ∙ (λ i. word_of (b0 i) (b1 i) (b2 i) (b3 i))
]

pub sheet_opened_first : (s : List ℕ) → sheet_opened_of s ≡ opened_of (take 56 s)
unfolding sheet_opened_of opened_of
sheet_opened_first s = λ i. open_of (inputs_from (λ (k : ℕ). word_is s k i))
