-- Fourteen files put one after the other behind their directory are an accepted year, and each is
-- handed back as it was put in: the bytes before a pair and before a part are counted, and none is
-- computed. Assumes nothing.
use Rattle.std.proofs.Common.{Ok, ◌≡◌, refl, sym, ap, ◌∙◌, List, [], ◌∷◌, ◌++◌, append_assoc, map, ℕ, zero, suc, ◌+◌, ◌*◌, ◌<◌, add-one, arith, length, get_or, take, drop, length-append}
use lib.ListN.{length-map, get_or-map}
use lib.Seq.{take-append_seam, drop-append_seam}
use Rattle.base.specs.Words.{word_at, four_bytes}
use Rattle.base.specs.Year.{directory_size, offset_at, length_at, end_at, year_check, pair_part, part_bytes}
use Rattle.packing.specs.Pack.{pairs_of, start_in, together, packed}
use Rattle.packing.proofs.pairs.Starts.{start_next, start_end, length_pairs}
use Rattle.results.specs.OneYear.{GoodYear}
use Rattle.results.proofs.files.MadeFiles.{word_in}
use Rattle.results.proofs.files.YearDirectory.{year_good, parts_inside}

-- ---- the words of the pairs, and the bytes of the parts

module _ (s : List ℕ) where
  pair_words : (pre : List ℕ) (from at : ℕ) (ns rest : List ℕ) → s ≡ pre ++ (pairs_of at ns ++ rest) → from ≡ length pre
      → (k : ℕ) → k < length ns → (word_at s (from + 8 * k) ≡ start_in at ns k) × (word_at s (from + 8 * k + 4) ≡ get_or ns k 0)
  unfolding pairs_of start_in
  pair_words pre from at [] rest e l k h = absurd (omega arith)
  pair_words pre from at (n ∷ ns) rest e l zero h =
      let tail = pairs_of (at + n) ns ++ rest in
      let i : from + 8 * zero ≡ from = omega arith in
      let j : from + 8 * zero + 4 ≡ from + 4 = omega arith in (
        ap (word_at s) i ∙ word_in s pre from at (four_bytes n ++ tail) e l,
        ap (word_at s) j
            ∙ word_in s (pre ++ four_bytes at) (from + 4) n tail (e ∙ sym (append_assoc pre (four_bytes at) (four_bytes n ++ tail)))
            (omega (arith, length-append pre (four_bytes at))),
      )
  pair_words pre from at (n ∷ ns) rest e l (suc k) h =
      let both = four_bytes at ++ four_bytes n in
      let i : from + 8 + 8 * k ≡ from + 8 * suc k = omega arith in
      let r =
      pair_words (pre ++ both) (from + 8) (at + n) ns rest
      (e ∙ sym (append_assoc pre both (pairs_of (at + n) ns ++ rest))) (omega (arith, length-append pre both)) k (omega arith) in
      (ap (word_at s) (sym i) ∙ r.0, ap (λ (m : ℕ). word_at s (m + 4)) (sym i) ∙ r.1)

  part_bytes_law : (pre : List ℕ) (at : ℕ) (ps : List (List ℕ)) → s ≡ pre ++ together ps → at ≡ length pre
      → (k : ℕ) → k < length ps → take (length (get_or ps k [])) (drop (start_in at (map length ps) k) s) ≡ get_or ps k []
  unfolding together start_in
  part_bytes_law pre at [] e l k h = absurd (omega arith)
  part_bytes_law pre at (p ∷ ps) e l zero h =
      ap (λ (n : ℕ). take (length p) (drop n s)) l
      ∙ ap (λ (x : List ℕ). take (length p) (drop (length pre) x)) e
      ∙ ap (take (length p)) (drop-append_seam pre (p ++ together ps))
      ∙ take-append_seam p (together ps)
  part_bytes_law pre at (p ∷ ps) e l (suc k) h =
      part_bytes_law (pre ++ p) (at + length p) ps (e ∙ sym (append_assoc pre p (together ps))) (omega (arith, length-append pre p)) k (omega arith)

-- ---- fourteen of them

module _ (ps : List (List ℕ)) (n : length ps ≡ 14) where
  s : List ℕ
  s = packed ps

  abbrev sizes : List ℕ
  sizes = map length ps

  as_many : length sizes ≡ 14
  as_many = length-map ps length ∙ n

  words : (k : ℕ) → k < 14 → (offset_at s k ≡ start_in directory_size sizes k) × (length_at s k ≡ get_or sizes k 0)
  unfolding s packed offset_at length_at
  words k h =
      let m = as_many in
      let i : 8 * k ≡ 0 + 8 * k = omega arith in
      let w = pair_words s [] 0 directory_size sizes (together ps) refl refl k (omega arith) in
      (ap (word_at s) i ∙ w.0, ap (λ (j : ℕ). word_at s (j + 4)) i ∙ w.1)

  ends : (k : ℕ) → k < 14 → end_at s k ≡ start_in directory_size sizes (suc k)
  unfolding end_at
  ends k h =
      let m = as_many in
      let w = words k h in
      (λ t. w.0 t + w.1 t) ∙ sym (start_next directory_size sizes k (omega arith))

  long : length s ≡ directory_size + length (together ps)
  unfolding s packed
  long =
      let m = as_many in
      let a = length_pairs directory_size sizes in
      length-append (pairs_of directory_size sizes) (together ps) ∙ omega arith

  good : GoodYear s
  unfolding start_in
  good =
      record {
        whole = omega (arith, long);
        first = let w = (words 0 (omega arith)).0 in omega (arith, w);
        ordered = λ k h.
            let e = ends k (omega arith) in
            let w = (words (k + 1) (omega arith)).0 in
            let i = ap (start_in directory_size sizes) (add-one k) in
            omega (arith, e, w, i);
        last =
            let e = ends 13 (omega arith) in
            let z = ap (start_in directory_size sizes) (sym n) ∙ start_end directory_size ps in
            omega (arith, e, z, long);
      }

  pub packed_accepted : year_check (packed ps) ≡ Ok tt
  unfolding s
  packed_accepted = (year_good s).1 good

  pub packed_parts : (k : ℕ) → k < 14 → part_bytes (packed ps) (pair_part (packed ps) k) ≡ get_or ps k []
  unfolding s packed
  packed_parts k h =
      let m = as_many in
      let w = words k h in
      let p = (parts_inside s packed_accepted k h).0 in
      let size = w.1 ∙ get_or-map length ps k [] in
      let start = w.0 in
      let front = length_pairs directory_size sizes in
      ap (part_bytes s) p
      ∙ (λ t. take (size t) (drop (start t) s))
      ∙ part_bytes_law s (pairs_of directory_size sizes) directory_size ps refl (omega (arith, front, m)) k (omega arith)
