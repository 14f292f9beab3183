-- Files made of records' sizes, and that each marker stands where it is asked for: the bytes before
-- it are counted, and none is computed. Assumes nothing.
use Rattle.std.proofs.Common.{◌≡◌, refl, ap, ◌∙◌, List, [], ◌∷◌, ◌++◌, append_assoc, append-nil, ℕ, ◌+◌, ◌%◌, arith, length, get_or, replicate, length-append, get_or-append-add}
use lib.ListN.{length-replicate}
use lib.Seq.{get_or-append_seam}
use Rattle.base.specs.Words.{word_at}
use Rattle.base.specs.MonthFile.{Marked}
pub use Rattle.base.specs.Words.{four_bytes}
pub use Rattle.results.specs.ExhibitedFiles.{file_of}
use Rattle.results.specs.AcceptedFiles.{with_markers}

pub length_file : (ns : List ℕ) → length (file_of ns) ≡ with_markers ns
length_file [] = refl
length_file (n ∷ ns) =
    let h = length_file ns in
    let e : length (replicate n 0 ++ (four_bytes n ++ file_of ns)) ≡ n + length (four_bytes n ++ file_of ns) = length-append (replicate n 0) (four_bytes n ++ file_of ns) ∙ ap (λ (x : ℕ). x + length (four_bytes n ++ file_of ns)) (length-replicate n 0) in
    omega arith

pub word_in : (s pre : List ℕ) (at n : ℕ) (r : List ℕ) → s ≡ pre ++ (four_bytes n ++ r) → at ≡ length pre → word_at s at ≡ n
unfolding word_at
word_in s pre at n r e l =
    let b = four_bytes n ++ r in
    let z : get_or s at 0 ≡ n % 256 = rw (e, l) (get_or-append_seam pre (n % 256) _ 0) in
    let a : (i : ℕ) → get_or s (at + i) 0 ≡ get_or b i 0 = λ i. rw (e, l) (get_or-append-add pre b i 0) in
    omega (arith, z, a 1, a 2, a 3)

pub length_front : (pre : List ℕ) (n : ℕ) (r : List ℕ) → length (pre ++ (four_bytes n ++ (replicate n 0 ++ r))) ≡ length pre + n + 4 + length r
length_front pre n r =
    let a = length-append pre (four_bytes n ++ (replicate n 0 ++ r)) in
    let b = length-append (replicate n 0) r in
    let d = length-replicate {A = ℕ} n 0 in
    omega arith

pub marked : (s pre : List ℕ) (at : ℕ) (ns rest : List ℕ) → s ≡ pre ++ (file_of ns ++ rest) → at ≡ length pre → Marked s at ns
marked s pre at [] rest e l = tt
marked s pre at (n ∷ ns) rest e l = (
  word_in s pre at n ((replicate n 0 ++ (four_bytes n ++ file_of ns)) ++ rest) e l,
  word_in s (pre ++ (four_bytes n ++ (replicate n 0 ++ []))) (at + n + 4) n (file_of ns ++ rest) (e ∙ simp (append_assoc, append-nil)) (omega (arith, length_front pre n [])),
  marked s (pre ++ (four_bytes n ++ (replicate n 0 ++ four_bytes n))) (at + n + 8) ns rest (e ∙ simp append_assoc) (omega (arith, length_front pre n (four_bytes n))),
)
