-- A buffer with its pairs written is the year file of the parts that lie in it: since parts cut from
-- a list have the sizes asked for and lie in it one after the other. Assumes nothing.
use Rattle.std.proofs.Common.{le-leb, ◌≡◌, refl, sym, ap, ◌∙◌, List, [], ◌∷◌, ◌++◌, append_assoc, map, ℕ, suc, ◌+◌, ◌<◌, ◌≤◌, arith, length, take, drop, take-append-drop, length-append, length-drop, length-take-le, take_all, drop-drop}
use borrow.Author.Tests.{lt-leb}
use lib.Seq.{take-append_seam}
use Rattle.base.proofs.verdicts.Picks.{cond_true, cond_false}
use Rattle.packing.specs.Pack.{pairs_of, together, packed, year_most, start_in, parts_of, sealed_file}
use Rattle.packing.proofs.pairs.Starts.{start_end, start_least, length_pairs}
use Rattle.packing.proofs.pairs.Written.{begun}

-- what is left of a list behind its parts
left : List ℕ → List ℕ → List ℕ
left [] l = l
left (n ∷ ns) l = left ns (drop n l)

parts_split : (ns l : List ℕ) → together (parts_of ns l) ++ left ns l ≡ l
unfolding together parts_of left
parts_split [] l = refl
parts_split (n ∷ ns) l =
    append_assoc (take n l) (together (parts_of ns (drop n l))) (left ns (drop n l))
    ∙ ap (λ (x : List ℕ). take n l ++ x) (parts_split ns (drop n l))
    ∙ take-append-drop n l

parts_first : (ns l : List ℕ) → take (length (together (parts_of ns l))) l ≡ together (parts_of ns l)
parts_first ns l =
    ap (take (length (together (parts_of ns l)))) (sym (parts_split ns l))
    ∙ take-append_seam (together (parts_of ns l)) (left ns l)

count_parts : (ns l : List ℕ) → length (parts_of ns l) ≡ length ns
unfolding parts_of
count_parts [] l = refl
count_parts (n ∷ ns) l = ap suc (count_parts ns (drop n l))

-- the parts have their sizes where the list reaches to the end of the last
parts_sizes : (at : ℕ) (ns l : List ℕ) → start_in at ns (length ns) ≤ at + length l → map length (parts_of ns l) ≡ ns
unfolding parts_of start_in
parts_sizes at [] l h = refl
parts_sizes at (n ∷ ns) l h =
    let m = start_least (at + n) ns (length ns) in
    let d = length-drop n l in
    let e = length-take-le n l (omega arith) in
    let r = parts_sizes (at + n) ns (drop n l) (omega arith) in
    λ i. e i ∷ r i

module _ (ns l : List ℕ) (e : length ns ≡ 14) (h : start_in 112 ns 14 ≤ length l) where
  abbrev ps : List (List ℕ)
  ps = parts_of ns (drop 112 l)

  sizes : map length ps ≡ ns
  sizes =
      let s = start_least 112 ns 14 in
      let d = length-drop 112 l in
      parts_sizes 112 ns (drop 112 l) (rw e (omega arith))

  ends : start_in 112 ns 14 ≡ 112 + length (together ps)
  ends =
      (λ i. start_in 112 (sym sizes i) (sym (count_parts ns (drop 112 l) ∙ e) i)) ∙ start_end 112 ps

  -- the pairs, the parts, and what lies behind them
  sealed : begun ns l 14 ≡ packed ps ++ drop (start_in 112 ns 14) l
  unfolding packed
  sealed =
      let m = drop 112 l in
      let n = length (together ps) in
      let rest : drop n m ≡ drop (start_in 112 ns 14) l = drop-drop n 112 l ∙ ap (λ (j : ℕ). drop j l) (sym ends) in
      ap (λ (x : List ℕ). pairs_of 112 x ++ m) (take_all 14 ns (omega arith))
      ∙ ap (λ (x : List ℕ). pairs_of 112 ns ++ x) (sym (take-append-drop n m))
      ∙ sym (append_assoc (pairs_of 112 ns) (take n m) (drop n m))
      ∙ (λ i. (pairs_of 112 (sym sizes i) ++ parts_first ns m i) ++ rest i)

  long : start_in 112 ns 14 ≡ length (packed ps)
  unfolding packed
  long =
      let p : length (pairs_of 112 ns) ≡ 112 = omega (arith, length_pairs 112 ns) in
      let q = ap (λ (x : List ℕ). length (pairs_of 112 x)) sizes ∙ p in
      let a = length-append (pairs_of 112 (map length ps)) (together ps) in
      omega (arith, ends, q, a)

  pub sealed_file_law :
      start_in 112 ns 14 ≤ year_most →
      (begun ns l 14 ≡ sealed_file ns l ++ drop (start_in 112 ns 14) l) × (start_in 112 ns 14 ≡ length (sealed_file ns l))
  unfolding sealed_file
  sealed_file_law m =
      let is = sym (cond_true (packed ps) [] (le-leb (start_in 112 ns 14) year_most m)) in
      (sealed ∙ ap (λ (x : List ℕ). x ++ drop (start_in 112 ns 14) l) is, long ∙ ap length is)

pub sealed_none : (ns l : List ℕ) → year_most < start_in 112 ns 14 → sealed_file ns l ≡ []
unfolding sealed_file
sealed_none ns l m = cond_false _ _ (lt-leb (start_in 112 ns 14) year_most m)
