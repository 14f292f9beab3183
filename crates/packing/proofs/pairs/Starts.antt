-- Where parts start that lie one after the other, and how many bytes their pairs have: by going
-- through the sizes. Assumes nothing.
use Rattle.std.proofs.Common.{fold, sum, add_assoc, add-zero, ◌≡◌, refl, sym, ap, ◌∙◌, List, [], ◌∷◌, map, ℕ, zero, suc, ◌+◌, ◌*◌, ◌<◌, ◌≤◌, add-one, arith, length, get_or, length-append}
use Rattle.packing.specs.Pack.{pairs_of, start_in, together}

pub start_next : (at : ℕ) (ns : List ℕ) (k : ℕ) → k < length ns → start_in at ns (suc k) ≡ start_in at ns k + get_or ns k 0
unfolding start_in
start_next at [] k l = absurd (omega arith)
start_next at (n ∷ ns) zero l = refl
start_next at (n ∷ ns) (suc k) l = start_next (at + n) ns k (omega arith)

-- at the code's k + 1
pub start_more : (at : ℕ) (ns : List ℕ) (k : ℕ) → k < length ns → start_in at ns k + get_or ns k 0 ≡ start_in at ns (k + 1)
start_more at ns k l = sym (start_next at ns k l) ∙ ap (start_in at ns) (sym (add-one k))

pub start_end : (at : ℕ) (ps : List (List ℕ)) → start_in at (map length ps) (length ps) ≡ at + length (together ps)
unfolding start_in together
start_end at [] = omega arith
start_end at (p ∷ ps) =
    let a = length-append p (together ps) in
    start_end (at + length p) ps ∙ omega arith

-- behind the last part: the sum of the sizes, however it is added up
fold_from : (at n : ℕ) (ns : List ℕ) → at + fold (λ a x. a + x) n ns ≡ fold (λ a x. a + x) (at + n) ns
fold_from at n [] = refl
fold_from at n (m ∷ ns) = fold_from at (n + m) ns ∙ ap (λ (a : ℕ). fold (λ a x. a + x) a ns) (sym (add_assoc at n m))

start_fold : (at : ℕ) (ns : List ℕ) → start_in at ns (length ns) ≡ fold (λ a x. a + x) at ns
unfolding start_in
start_fold at [] = refl
start_fold at (n ∷ ns) = start_fold (at + n) ns

pub start_sum : (at : ℕ) (ns : List ℕ) → at + sum ns ≡ start_in at ns (length ns)
start_sum at ns = fold_from at 0 ns ∙ ap (λ (a : ℕ). fold (λ a x. a + x) a ns) (add-zero at) ∙ sym (start_fold at ns)

-- no part starts before the first, and none before an earlier one
pub start_least : (at : ℕ) (ns : List ℕ) (k : ℕ) → at ≤ start_in at ns k
unfolding start_in
start_least at ns zero = omega arith
start_least at [] (suc k) = omega arith
start_least at (n ∷ ns) (suc k) = let h = start_least (at + n) ns k in omega arith

pub start_rises : (at : ℕ) (ns : List ℕ) (j k : ℕ) → j ≤ k → start_in at ns j ≤ start_in at ns k
unfolding start_in
start_rises at ns zero k l = start_least at ns k
start_rises at ns (suc j) zero l = absurd (omega arith)
start_rises at [] (suc j) (suc k) l = omega arith
start_rises at (n ∷ ns) (suc j) (suc k) l = start_rises (at + n) ns j k (omega arith)

pub length_pairs : (at : ℕ) (ns : List ℕ) → length (pairs_of at ns) ≡ 8 * length ns
unfolding pairs_of
length_pairs at [] = refl
length_pairs at (n ∷ ns) = let h = length_pairs (at + n) ns in omega arith
