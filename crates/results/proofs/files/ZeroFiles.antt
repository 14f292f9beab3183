-- Month files made of an index table, and records of zeros: every word of their tables is zero, and
-- so a finite number, since each table lies in the body of a record, and those are zeros. Assumes
-- nothing.
use Rattle.std.proofs.Common.{◌≡◌, refl, sym, ap, subst, ◌∙◌, Bool, true, false, ◌&&◌, ◌||◌, cond, List, [], ◌∷◌, ◌++◌, append_assoc, append-nil, ℕ, ◌+◌, ◌-◌, ◌*◌, ◌≤◌, ◌<◌, arith, T, leb, leb→le, le→leb, get_or-append-add}
use native.Mathlib.Decide.{dec_lt}
use lib.ListN.{
  length,
  get_or,
  drop,
  replicate,
  length-append,
  length-replicate,
  get_or-replicate,
  get_or-append,
  get_or-eq_default,
}
use lib.Ieee.{binary32, of_bits}
use lib.Ieee.Fits.{and_l, and_r}
use lib.Ieee.Scale.{finite}
use Rattle.base.specs.Words.{word_at, float_at, FiniteRun}
use Rattle.base.specs.MonthFile.{sizes}
use Rattle.base.specs.Tables.{numbered, no_such_table, words_in, start_of, words_of}
use Rattle.base.specs.Finite.{FiniteMonth}
use Rattle.base.proofs.lists.Entries.{up_to, at_each}
unfoldable pub use Rattle.results.specs.ExhibitedFiles.{word_bytes, file_with}
use Rattle.results.proofs.files.MadeFiles.{four_bytes, file_of, length_front}

-- ---- zeros

-- n zeros from a place on
unfoldable Zeros : List ℕ → ℕ → ℕ → Type 0
Zeros s from n = (j : ℕ) → j < n → get_or s (from + j) 0 ≡ 0

word_zero : (s : List ℕ) (from n at : ℕ) → Zeros s from n → from ≤ at → at + 4 ≤ from + n → word_at s at ≡ 0
unfolding word_at Zeros
word_zero s from n at z l h =
    let e : (i : ℕ) → from + (at - from + i) ≡ at + i = λ i. omega arith in
    let byte : (i : ℕ) → i < 4 → get_or s (at + i) 0 ≡ 0 = λ i b. ap (λ (k : ℕ). get_or s k 0) (sym (e i)) ∙ z (at - from + i) (omega arith) in
    let f : at ≡ at + 0 = omega arith in
    let first : get_or s at 0 ≡ 0 = ap (λ (k : ℕ). get_or s k 0) f ∙ byte 0 (omega arith) in
    omega (arith, first, byte 1 (omega arith), byte 2 (omega arith), byte 3 (omega arith))

pub zeros : (n at : ℕ) → at + 4 ≤ n → word_at (replicate n 0) at ≡ 0
unfolding Zeros
zeros n at h =
    word_zero (replicate n 0) 0 n at
    (λ j l. let e : 0 + j ≡ j = omega arith in ap (λ (k : ℕ). get_or (replicate n 0) k 0) e ∙ get_or-replicate n j 0 0 l)
    (omega arith) (omega arith)

-- a zero is a finite number
pub zero_finite : (s : List ℕ) (at : ℕ) → word_at s at ≡ 0 → T (finite (float_at s at))
unfolding float_at of_bits
zero_finite s at e = subst (λ (w : ℕ). T (finite (of_bits binary32 w))) (sym e) tt

pub zeros_finite : (n m : ℕ) → 4 * m ≤ n → FiniteRun (replicate n 0) 0 m
zeros_finite n m h i l = zero_finite (replicate n 0) (0 + 4 * i) (zeros n (0 + 4 * i) (omega arith))

-- ---- the bodies of records
unfoldable Bodies : List ℕ → ℕ → List ℕ → Type 0
Bodies s at [] = Unit
Bodies s at (n ∷ ns) = Zeros s (at + 4) n × Bodies s (at + n + 8) ns

body : (s pre : List ℕ) (at n : ℕ) (r : List ℕ) → s ≡ pre ++ (replicate n 0 ++ r) → at ≡ length pre → Zeros s at n
unfolding Zeros
body s pre at n r e l j h =
    let k : j < length (replicate {A = ℕ} n 0) = omega (arith, length-replicate {A = ℕ} n 0) in
    (λ t. get_or (e t) (l t + j) 0)
    ∙ get_or-append-add pre (replicate n 0 ++ r) j 0
    ∙ get_or-append (replicate n 0) r 0 j k
    ∙ get_or-replicate n j 0 0 h

bodies :
    (s pre : List ℕ) (at : ℕ) (ns rest : List ℕ) → s ≡ pre ++ (file_of ns ++ rest) → at ≡ length pre → Bodies s at ns
unfolding Bodies
bodies s pre at [] rest e l = tt
bodies s pre at (n ∷ ns) rest e l = (
  body s (pre ++ four_bytes n) (at + 4) n (four_bytes n ++ (file_of ns ++ rest)) (e ∙ simp append_assoc)
      (omega (arith, length-append pre (four_bytes n))),
  bodies s (pre ++ (four_bytes n ++ (replicate n 0 ++ four_bytes n))) (at + n + 8) ns rest (e ∙ simp append_assoc)
      (omega (arith, length_front pre n (four_bytes n))),
)

-- a table lies in one of them
unfoldable in_body : ℕ → ℕ → ℕ → Bool
in_body at n table = leb (at + 4) (start_of table) && leb (start_of table + 4 * words_of table) (at + 4 + n)

unfoldable in_bodies : ℕ → List ℕ → ℕ → Bool
unfolding in_body
in_bodies at [] table = false
in_bodies at (n ∷ ns) table = in_body at n table || in_bodies (at + n + 8) ns table

in_bodies_law :
    (s : List ℕ) (at : ℕ) (ns : List ℕ) → Bodies s at ns → (table : ℕ) → T (in_bodies at ns table) →
    (i : ℕ) → i < words_of table → word_at s (start_of table + 4 * i) ≡ 0
unfolding Bodies in_bodies
in_bodies_law s at [] z table t i h = absurd t
in_bodies_law s at (n ∷ ns) z table t i h =
    go (in_body at n table) refl t (λ u. in_bodies_law s (at + n + 8) ns z.1 table u i h)
  where
    here : T (in_body at n table) → word_at s (start_of table + 4 * i) ≡ 0
    here u = unfold in_body in
        let p = start_of table in
        let q = start_of table + 4 * words_of table in
        let a = leb→le (at + 4) p (and_l (leb (at + 4) p) (leb q (at + 4 + n)) u) in
        let b = leb→le q (at + 4 + n) (and_r (leb (at + 4) p) (leb q (at + 4 + n)) u) in
        word_zero s (at + 4) n (start_of table + 4 * i) z.0 (omega arith) (omega arith)

    go :
        (c : Bool) → in_body at n table ≡ c → T (c || in_bodies (at + n + 8) ns table) →
        (T (in_bodies (at + n + 8) ns table) → word_at s (start_of table + 4 * i) ≡ 0) → word_at s (start_of table + 4 * i) ≡ 0
    go true e u later = here (subst T (sym e) tt)
    go false e u later = later u

-- each table after the first does
unfoldable is_inside : ℕ → Bool
unfolding in_bodies
is_inside table = cond (leb 2 table) (in_bodies 248 (drop 1 sizes) table) true

all_inside : T (up_to is_inside 20)
unfolding is_inside in_bodies in_body
all_inside = tt

inside_of : (table : ℕ) → 2 ≤ table → table ≤ 20 → T (in_bodies 248 (drop 1 sizes) table)
unfolding is_inside
inside_of table l h = go (leb 2 table) (le→leb 2 table l) (at_each is_inside 20 all_inside table h)
  where
    go : (b : Bool) → T b → T (cond b (in_bodies 248 (drop 1 sizes) table) true) → T (in_bodies 248 (drop 1 sizes) table)
    go true r t = t
    go false r t = absurd r

none_above : (table : ℕ) → 20 < table → words_of table ≡ 0
none_above table h = ap words_in (get_or-eq_default numbered no_such_table {n = table} h)

-- ---- a month file with a table of 60 words

pub length_words : (ws : List ℕ) → length (word_bytes ws) ≡ 4 * length ws
length_words [] = refl
length_words (w ∷ ws) = let h = length_words ws in omega arith

module _ (index : List ℕ) (n : length index ≡ 60) where
  file_bodies : Bodies (file_with index) 248 (drop 1 sizes)
  unfolding file_with
  file_bodies =
      bodies _ (four_bytes 240 ++ (word_bytes index ++ four_bytes 240)) 248 (drop 1 sizes) []
      (simp (append_assoc, append-nil))
      (omega (arith, length-append (word_bytes index) (four_bytes 240), length_words index))

  pub month_word : (table i : ℕ) → 2 ≤ table → i < words_of table → word_at (file_with index) (start_of table + 4 * i) ≡ 0
  month_word table i l h = elim (dec_lt 20 table) [
    | yes q ↦ absurd (omega (arith, none_above table q))
    | no q ↦ in_bodies_law (file_with index) 248 (drop 1 sizes) file_bodies table (inside_of table l (omega (arith, q))) i h
  ]

  pub month_finite : FiniteMonth (file_with index)
  month_finite = record {
    words = λ table l h i m. zero_finite (file_with index) (start_of table + 4 * i) (month_word table i l m);
  }
