-- Pairs that are written word after word over the front of a buffer: by what one more pair is, and
-- since a fill leaves what stands before it and behind it. Assumes nothing.
use Rattle.std.proofs.Common.{w32, ◌≡◌, refl, sym, ap, ◌∙◌, List, [], ◌∷◌, ◌++◌, append_assoc, ℕ, zero, suc, ◌+◌, ◌*◌, ◌/◌, ◌%◌, ◌^◌, ◌<◌, ◌≤◌, add-one, arith, length, get_or, take, drop, length-append, length-drop, take-append-drop, length-take-le, drop-drop}
use Rattle.std.specs.Int.{to_le_bytes}
use Rattle.base.specs.Fill.{fill, tabulate}
use Rattle.base.specs.Words.{four_bytes}
use Rattle.base.proofs.lists.Fills.{fill_run}
use Rattle.packing.specs.Pack.{pairs_of, start_in}
use Rattle.packing.proofs.pairs.Starts.{length_pairs}

-- a word's bytes, one by one
abbrev pub byte_of : ℕ → ℕ → ℕ
byte_of w k = get_or (four_bytes w) k 0

-- the buffer l after the pairs of the first k parts are written
abbrev pub begun : List ℕ → List ℕ → ℕ → List ℕ
begun ns l k = pairs_of 112 (take k ns) ++ drop (8 * k) l

-- a word's bytes as std gives them
four_are : (w : ℕ) → w < 2 ^ 32 → to_le_bytes w32 w ≡ four_bytes w
four_are w h =
    let a : w / 256 % 256 ≡ w / 256 % 256 = refl in
    let d : w / 16777216 % 256 ≡ w / 16777216 = omega arith in
    λ i. w % 256 ∷ a i ∷ (w / 65536 % 256) ∷ d i ∷ []

-- a word that is copied over four bytes of a buffer
pub word_copied :
    (w at : ℕ) (l xs : List ℕ) → w < 2 ^ 32 → at + 4 ≤ length l → xs ≡ to_le_bytes w32 w →
    take at l ++ (xs ++ drop 4 (drop at l)) ≡ fill (byte_of w) at l 4
unfolding tabulate
word_copied w at l xs r h e =
    ap (λ (x : List ℕ). take at l ++ (x ++ drop 4 (drop at l))) (e ∙ four_are w r)
    ∙ sym (fill_run (byte_of w) at (take at l) (drop at l) 4 (length-take-le at l (omega arith)) (omega (arith, length-drop at l)))
    ∙ ap (λ (x : List ℕ). fill (byte_of w) at x 4) (take-append-drop at l)

-- a word behind what is written
word_put :
    (w at : ℕ) (xs l : List ℕ) → length xs ≡ at → at + 4 ≤ length l →
    fill (byte_of w) at (xs ++ drop at l) 4 ≡ (xs ++ four_bytes w) ++ drop (at + 4) l
unfolding tabulate
word_put w at xs l e h =
    fill_run (byte_of w) at xs (drop at l) 4 e (omega (arith, length-drop at l))
    ∙ ap (λ (x : List ℕ). xs ++ (four_bytes w ++ x)) (drop-drop 4 at l)
    ∙ sym (append_assoc xs (four_bytes w) (drop (at + 4) l))

-- one pair more
pairs_next :
    (at : ℕ) (ns : List ℕ) (k : ℕ) → k < length ns →
    pairs_of at (take (suc k) ns) ≡ pairs_of at (take k ns) ++ (four_bytes (start_in at ns k) ++ four_bytes (get_or ns k 0))
unfolding pairs_of start_in
pairs_next at [] k l = absurd (omega arith)
pairs_next at (n ∷ ns) zero l = refl
pairs_next at (n ∷ ns) (suc k) l =
    ap (λ (x : List ℕ). four_bytes at ++ (four_bytes n ++ x)) (pairs_next (at + n) ns k (omega arith))

-- both words of a pair, at the code's k + 1
pub begun_next :
    (ns l : List ℕ) (k : ℕ) → k < length ns → 8 * k + 8 ≤ length l →
    fill (byte_of (get_or ns k 0)) (8 * k + 4) (fill (byte_of (start_in 112 ns k)) (8 * k) (begun ns l k) 4) 4
    ≡ begun ns l (k + 1)
begun_next ns l k h b =
    let xs = pairs_of 112 (take k ns) in
    let w = start_in 112 ns k in
    let v = get_or ns k 0 in
    let p = length_pairs 112 (take k ns) in
    let t = length-take-le k ns (omega arith) in
    let e : length xs ≡ 8 * k = omega arith in
    let e' : length (xs ++ four_bytes w) ≡ 8 * k + 4 = omega (arith, length-append xs (four_bytes w)) in
    let q : (xs ++ four_bytes w) ++ four_bytes v ≡ pairs_of 112 (take (k + 1) ns) =
    append_assoc xs (four_bytes w) (four_bytes v)
    ∙ sym (pairs_next 112 ns k h)
    ∙ ap (λ (j : ℕ). pairs_of 112 (take j ns)) (sym (add-one k)) in
    let n : 8 * k + 4 + 4 ≡ 8 * (k + 1) = omega arith in
    ap (λ (x : List ℕ). fill (byte_of v) (8 * k + 4) x 4) (word_put w (8 * k) xs l e (omega arith))
    ∙ word_put v (8 * k + 4) (xs ++ four_bytes w) l e' (omega arith)
    ∙ (λ i. q i ++ drop (n i) l)
