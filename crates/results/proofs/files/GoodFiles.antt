-- Files that are accepted, exhibited, so that no law about accepted files is empty: every table of
-- 60 words whose six maps are good stands in an accepted month file (`made_accepted`), and one such
-- table is written out, with ladders that climb. No byte is computed: the bytes before a word are
-- counted. Assumes nothing.
use Rattle.std.proofs.Common.{Ok, ◌≡◌, refl, sym, ap, ◌∙◌, Bool, true, ◌&&◌, List, [], ◌∷◌, ◌++◌, append_assoc, append-nil, ℕ, zero, suc, ◌+◌, ◌*◌, ◌^◌, ◌≤◌, ◌<◌, arith, length, get_or, drop, replicate, length-append, T, ltb, ltb→lt, lit≤, lit<, le-leb}
use lib.ListN.{length-replicate}
use lib.Ieee.Fits.{and_l, and_r}
use Rattle.base.specs.Refusal.{◌then◌}
use Rattle.base.specs.Number.{signed_of}
use Rattle.base.specs.Words.{word_at, four_bytes}
use Rattle.base.specs.MonthFile.{record_size, month_file_size, sizes, month_file_check, Marked}
use Rattle.base.specs.Index.{index_of, map_word, rows, harmonics, climbs, good_map, index_check, GoodIndex}
use Rattle.base.specs.Finite.{table_words_check, FiniteRecord}
use Rattle.base.specs.Files.{files_check}
use Rattle.results.specs.ExhibitedFiles.{file_of, Below}
unfoldable pub use Rattle.results.specs.ExhibitedFiles.{word_bytes, file_with, good_index_table, good_month_file, good_record}
use Rattle.base.proofs.verdicts.Picks.{cond_true}
use Rattle.base.proofs.ladder.Ladders.{six, limits, good_known}
use Rattle.base.proofs.ladder.Indexing.{index_word}
use Rattle.results.proofs.files.Marks.{month_file_good}
use Rattle.base.proofs.layout.FirstWords.{finite_record, finite_tables}
use Rattle.results.proofs.files.MadeFiles.{word_in, length_file, marked}
use Rattle.results.proofs.files.ZeroFiles.{zeros_finite, length_words, month_finite}
use Rattle.results.proofs.files.IndexAnswers.{index_good, words_read}

-- ---- a file with a table of 60 words

words_in_law :
    (s pre : List ℕ) (at : ℕ) (ws rest : List ℕ) → s ≡ pre ++ (word_bytes ws ++ rest) → at ≡ length pre →
    (i : ℕ) → i < length ws → word_at s (at + i * 4) ≡ get_or ws i 0
words_in_law s pre at [] rest e l i h = absurd (omega arith)
words_in_law s pre at (w ∷ ws) rest e l zero h =
    let q : at + zero * 4 ≡ at = omega arith in
    ap (word_at s) q ∙ word_in s pre at w (word_bytes ws ++ rest) e l
words_in_law s pre at (w ∷ ws) rest e l (suc i) h =
    let q : at + suc i * 4 ≡ at + 4 + i * 4 = omega arith in
    ap (word_at s) q
    ∙ words_in_law s (pre ++ four_bytes w) (at + 4) ws rest (e ∙ sym (append_assoc pre (four_bytes w) (word_bytes ws ++ rest)))
    (omega (arith, length-append pre (four_bytes w))) i (omega arith)

module _ (table : List ℕ) (n : length table ≡ 60) where
  front : length (four_bytes 240 ++ word_bytes table) ≡ 244
  front = let a = length_words table in omega arith

  file_length : length (file_with table) ≡ month_file_size
  unfolding file_with
  file_length =
      let a = length-append (word_bytes table) (four_bytes 240 ++ file_of (drop 1 sizes)) in
      let b = length_words table in
      let d = length_file (drop 1 sizes) in
      omega arith

  file_marks : Marked (file_with table) 0 sizes
  unfolding file_with
  file_marks = (
    word_in _ [] 0 240 (word_bytes table ++ (four_bytes 240 ++ file_of (drop 1 sizes))) refl refl,
    word_in _ (four_bytes 240 ++ word_bytes table) 244 240 (file_of (drop 1 sizes)) refl (sym front),
    marked _ (four_bytes 240 ++ (word_bytes table ++ four_bytes 240)) 248 (drop 1 sizes) [] (simp (append_assoc, append-nil))
        (let a = length-append (word_bytes table) (four_bytes 240) in let b = length_words table in omega arith),
  )

  pub made_walks : month_file_check (file_with table) ≡ Ok tt
  made_walks = (month_file_good (file_with table)).1 (record { whole = omega (arith, file_length); marks = file_marks })

  -- the words that are read are those of the table
  table_read : (k j : ℕ) → k < 6 → j < 10 → map_word (index_of (file_with table)) k j ≡ get_or table (k * 10 + j) 0
  unfolding file_with
  table_read k j h l =
      index_word (file_with table) k j h l
      ∙ words_in_law _ (four_bytes 240) 4 table (four_bytes 240 ++ file_of (drop 1 sizes)) refl refl (k * 10 + j) (omega arith)

  module _ (good : (k : ℕ) → k < 6 → GoodIndex (map_word table k) (get_or rows k 0) (get_or harmonics k 0)) where
    pub made_index : index_check (file_with table) ≡ Ok tt
    made_index =
        (index_good (file_with table)).1
        (λ k h. words_read (map_word table k) (map_word (index_of (file_with table)) k) (λ j q. table_read k j h (omega arith)) _ _ (good k h))

    -- a good table, in any file made of it, with any record that is long enough and of finite numbers
    pub made_accepted : (f2 : List ℕ) → record_size ≤ length f2 → FiniteRecord f2 → files_check f2 (file_with table) ≡ Ok tt
    unfolding files_check
    made_accepted f2 h f =
        let words = finite_record f2 f in
        let tables = finite_tables (file_with table) (month_finite table n) in
        cond_true _ _ (le-leb record_size (length f2) h)
        ∙ (λ i. made_walks i then words i then tables i then made_index i)

-- ---- it is made of bytes, where the table is of words

pub below_append : (limit : ℕ) (xs ys : List ℕ) → Below limit xs → Below limit ys → Below limit (xs ++ ys)
below_append limit [] ys a b = b
below_append limit (x ∷ xs) ys a b = (a.0, below_append limit xs ys a.1 b)

pub four_bytes_law : (n : ℕ) → n < 2 ^ 32 → Below 256 (four_bytes n)
four_bytes_law n h = (omega arith, (omega arith, (omega arith, (omega arith, tt))))

pub zero_bytes : (n : ℕ) → Below 256 (replicate n 0)
zero_bytes zero = tt
zero_bytes (suc n) = (lit< tt, zero_bytes n)

words_bytes : (ws : List ℕ) → Below (2 ^ 32) ws → Below 256 (word_bytes ws)
words_bytes [] b = tt
words_bytes (w ∷ ws) b = below_append 256 (four_bytes w) (word_bytes ws) (four_bytes_law w b.0) (words_bytes ws b.1)

file_bytes : (ns : List ℕ) → Below (2 ^ 32) ns → Below 256 (file_of ns)
file_bytes [] b = tt
file_bytes (n ∷ ns) b =
    let rest = four_bytes n ++ file_of ns in
    below_append 256 (four_bytes n) (replicate n 0 ++ rest) (four_bytes_law n b.0)
    (below_append 256 (replicate n 0) rest (zero_bytes n) (below_append 256 (four_bytes n) (file_of ns) (four_bytes_law n b.0) (file_bytes ns b.1)))

unfoldable pub all_below : ℕ → List ℕ → Bool
all_below limit [] = true
all_below limit (n ∷ ns) = ltb n limit && all_below limit ns

pub below_all : (limit : ℕ) (ns : List ℕ) → T (all_below limit ns) → Below limit ns
unfolding all_below
below_all limit [] t = tt
below_all limit (n ∷ ns) t = (ltb→lt n limit (and_l (ltb n limit) (all_below limit ns) t), below_all limit ns (and_r (ltb n limit) (all_below limit ns) t))

pub made_bytes : (table : List ℕ) → Below (2 ^ 32) table → Below 256 (file_with table)
unfolding file_with all_below
made_bytes table b =
    let others = file_of (drop 1 sizes) in
    let rest = four_bytes 240 ++ others in
    below_append 256 (four_bytes 240) (word_bytes table ++ rest) (four_bytes_law 240 (lit< tt))
    (below_append 256 (word_bytes table) rest (words_bytes table b)
    (below_append 256 (four_bytes 240) others (four_bytes_law 240 (lit< tt)) (file_bytes (drop 1 sizes) (below_all (2 ^ 32) (drop 1 sizes) tt))))

-- ---- the table written out

table_good : (k : ℕ) → k < 6 → GoodIndex (map_word good_index_table k) (get_or rows k 0) (get_or harmonics k 0)
unfolding good_map climbs signed_of
table_good k h =
    let l = limits k h in
    good_known (map_word good_index_table k) (get_or rows k 0) (get_or harmonics k 0) l.some l.few l.waves
    (six (λ i. good_map (λ j. signed_of (map_word good_index_table i j)) (get_or rows i 0) (get_or harmonics i 0) ≡ true) refl refl refl refl refl refl k h)

pub month_file_accepted : month_file_check good_month_file ≡ Ok tt
month_file_accepted = made_walks good_index_table refl

pub index_accepted : index_check good_month_file ≡ Ok tt
index_accepted = made_index good_index_table refl table_good

pub tables_accepted : table_words_check good_month_file ≡ Ok tt
tables_accepted = finite_tables good_month_file (month_finite good_index_table refl)

pub files_accepted : files_check good_record good_month_file ≡ Ok tt
files_accepted =
    made_accepted good_index_table refl table_good good_record (omega (arith, length-replicate {A = ℕ} record_size 0))
    (record { words = zeros_finite record_size 1976 (lit≤ tt) })

pub file_of_bytes : Below 256 good_month_file
unfolding all_below
file_of_bytes = made_bytes good_index_table (below_all (2 ^ 32) good_index_table tt)
