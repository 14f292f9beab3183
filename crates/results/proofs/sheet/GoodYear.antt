-- A year file that is written out, of which all months and models can be shown, since each file in it
-- passes its check; it is of bytes, since it is short. Assumes nothing.
use Rattle.std.proofs.Common.{Ok, List, [], ◌∷◌, ◌++◌, map, ◌≡◌, refl, ap, ◌∙◌, ℕ, zero, suc, ◌+◌, ◌*◌, ◌^◌, ◌≤◌, ◌<◌, arith, lit≤, length, get_or, drop, replicate, length-append, le-ltb, lt-ltb}
use native.Mathlib.Decide.{dec_lt}
use lib.ListN.{length-map, length-replicate}
use Rattle.base.specs.declared.refusal.Refusal.TheVariants.{RecordWord}
use Rattle.base.specs.Refusal.{◌then◌}
use Rattle.base.specs.Words.{four_bytes}
use Rattle.base.specs.MonthFile.{record_size, sizes, month_record_check}
use Rattle.base.specs.Finite.{record_words_check}
use Rattle.base.specs.Files.{file_check, daw_check}
use Rattle.base.specs.Year.{directory_size}
use Rattle.packing.specs.Pack.{part_check, pairs_of, together, packed, start_in}
use Rattle.packing.proofs.pairs.Starts.{start_end, start_least}
use Rattle.base.proofs.verdicts.Picks.{cond_true, cond_false}
use Rattle.base.proofs.layout.FirstWords.{finite_run}
use Rattle.results.specs.ExhibitedFiles.{word_bytes, file_of, file_with, good_index_table, good_month_file, Below}
use Rattle.results.specs.OneYear.{AllShown, good_year}
use Rattle.results.proofs.files.MadeFiles.{length_file}
use Rattle.results.proofs.files.GoodFiles.{month_file_accepted, tables_accepted, index_accepted, file_of_bytes, below_append, four_bytes_law, zero_bytes}
use Rattle.results.proofs.files.ZeroFiles.{zeros_finite}
use Rattle.results.proofs.files.MonthRecords.{month_there}
use Rattle.results.proofs.sheet.PackedShown.{all_shown}

-- ---- its parts

abbrev daws : List ℕ
daws = replicate (12 * record_size) 0

abbrev parts : List (List ℕ)
parts = replicate 12 good_month_file ++ replicate 2 daws

first_of : (g : List ℕ) (rest : List (List ℕ)) (n j : ℕ) → j < n → get_or (replicate n g ++ rest) j [] ≡ g
first_of g rest zero j h = absurd (omega arith)
first_of g rest (suc n) zero h = refl
first_of g rest (suc n) (suc j) h = first_of g rest n j (omega arith)

month_at : (k : ℕ) → k < 12 → get_or parts k [] ≡ good_month_file
month_at k h = first_of good_month_file (replicate 2 daws) 12 k h

model_at : (k : ℕ) → 12 ≤ k → k < 14 → get_or parts k [] ≡ daws
model_at k l h = elim (dec_lt k 13) [
  | yes a ↦ let e : k ≡ 12 = omega arith in ap (λ (j : ℕ). get_or parts j []) e
  | no a ↦ let e : k ≡ 13 = omega (arith, a) in ap (λ (j : ℕ). get_or parts j []) e
]

-- what holds of both kinds of files holds of each part
of_each : (P : List ℕ → Type 0) → P good_month_file → P daws → (k : ℕ) → k < 14 → P (get_or parts k [])
of_each P p q k h = elim (dec_lt k 12) [
  | yes l ↦ rw (month_at k l) p
  | no g ↦ rw (model_at k (omega (arith, g)) h) q
]

-- ---- they pass their checks

month_good : file_check good_month_file ≡ Ok tt
unfolding file_check
month_good = λ i. month_file_accepted i then tables_accepted i then index_accepted i

daws_there : month_record_check daws 12 ≡ Ok tt
daws_there =
    month_there daws 12
    (record { low = lit≤ tt; high = lit≤ tt; room = omega (arith, length-replicate {A = ℕ} (12 * record_size) 0) })

daws_good : daw_check daws ≡ Ok tt
unfolding daw_check record_words_check
daws_good =
    let words = finite_run daws RecordWord 0 23712 (zeros_finite (12 * record_size) 23712 (lit≤ tt)) in
    λ i. daws_there i then words i

each_good : (k : ℕ) → k < 14 → part_check k (get_or parts k []) ≡ Ok tt
unfolding part_check
each_good k h = elim (dec_lt k 12) [
  | yes l ↦ cond_true _ _ (lt-ltb k 12 l) ∙ ap file_check (month_at k l) ∙ month_good
  | no g ↦
      let l : 12 ≤ k = omega (arith, g) in
      cond_false _ _ (le-ltb k 12 l) ∙ ap daw_check (model_at k l h) ∙ daws_good
]

pub good_year_shown : AllShown good_year
good_year_shown = all_shown parts refl each_good

-- ---- they are of bytes, and short

month_length : length good_month_file ≤ 100000
unfolding file_with
month_length =
    let rest = file_of (drop 1 sizes) in
    let a = length-append (word_bytes good_index_table) (four_bytes 240 ++ rest) in
    let b : length (word_bytes good_index_table) ≡ 240 = refl in
    let c = length_file (drop 1 sizes) in
    omega (arith, a, b, c)

together_length : (ps : List (List ℕ)) → ((k : ℕ) → k < length ps → length (get_or ps k []) ≤ 100000) → length (together ps) ≤ 100000 * length ps
unfolding together
together_length [] h = omega arith
together_length (p ∷ ps) h =
    let a = length-append p (together ps) in
    let b = h 0 (omega arith) in
    let c = together_length ps (λ k l. h (suc k) (omega arith)) in
    omega (arith, a, b, c)

together_bytes : (ps : List (List ℕ)) → ((k : ℕ) → k < length ps → Below 256 (get_or ps k [])) → Below 256 (together ps)
unfolding together
together_bytes [] h = tt
together_bytes (p ∷ ps) h =
    below_append 256 p (together ps) (h 0 (omega arith)) (together_bytes ps (λ k l. h (suc k) (omega arith)))

pairs_bytes : (at : ℕ) (ns : List ℕ) → start_in at ns (length ns) < 2 ^ 32 → Below 256 (pairs_of at ns)
unfolding pairs_of start_in
pairs_bytes at [] h = tt
pairs_bytes at (n ∷ ns) h =
    let l = start_least (at + n) ns (length ns) in
    below_append 256 (four_bytes at) (four_bytes n ++ pairs_of (at + n) ns) (four_bytes_law at (omega arith))
    (below_append 256 (four_bytes n) (pairs_of (at + n) ns) (four_bytes_law n (omega arith)) (pairs_bytes (at + n) ns h))

-- fourteen files of bytes that are no longer than that, packed
packed_bytes : (ps : List (List ℕ)) → length ps ≡ 14 → ((k : ℕ) → k < 14 → length (get_or ps k []) ≤ 100000) →
    ((k : ℕ) → k < 14 → Below 256 (get_or ps k [])) → Below 256 (packed ps)
unfolding packed
packed_bytes ps n short bytes =
    let all = together_length ps (λ k l. short k (omega arith)) in
    let end = ap (start_in directory_size (map length ps)) (length-map ps length) ∙ start_end directory_size ps in
    below_append 256 (pairs_of directory_size (map length ps)) (together ps)
    (pairs_bytes directory_size (map length ps) (omega (arith, all, end)))
    (together_bytes ps (λ k l. bytes k (omega arith)))

pub good_year_bytes : Below 256 good_year
good_year_bytes =
    packed_bytes parts refl
    (of_each (λ (p : List ℕ). length p ≤ 100000) month_length (omega (arith, length-replicate {A = ℕ} (12 * record_size) 0)))
    (of_each (Below 256) file_of_bytes (zero_bytes (12 * record_size)))
