-- Every word of a table is one entry of the Rust's array, and stands where its indices say: entries
-- lie inside their table, two of them in two places, and none of the table's words is left out. And
-- the coefficients of the six maps, the words of `ikim` and what else is read are such entries. By
-- rows of so many words each, one after the other. Assumes nothing.
use Rattle.std.proofs.Common.{Ok, ◌≡◌, refl, sym, ap, ◌∙◌, subst, Bool, true, false, cond, List, [], ℕ, ◌+◌, ◌-◌, ◌*◌, ◌/◌, ◌%◌, ◌≤◌, ◌<◌, zero-add, add_assoc, zero-mul, one-mul, mul-zero, mul_comm, add-mul, mul-le-mul_right, mod-lt, div-lt_iff_lt-mul, arith, eqb, get_or, take, drop, get_or-take, get_or-drop, Float, Bor}
use native.Mathlib.Nat.{div-add-mod}
use native.Mathlib.Decide.{dec_lt}
use lib.ListN.{get_or-map}
use lib.Ieee.{nan}
use Rattle.base.specs.declared.blend.Weights.{Weights}
use Rattle.base.specs.Words.{word_of, word_at, float_at}
use Rattle.base.specs.Refusal.{is_accepted}
use Rattle.base.specs.MonthFile.{IsPart}
use Rattle.base.specs.Tables.{Table, words_in, numbered, no_such_table, start_of, words_of, plane_of, holding, dimension, HasEntry, entry_word, entry_place, part_of, table_check, table_part, table_file, ikim, fakmap, abmap, xpmap}
use Rattle.base.specs.Index.{rows, harmonics, ikim_place, index_of, map_word}
use Rattle.base.specs.Blend.{blend_of, blend_at, blend_table, e_weights, height_weights, eslcof_of, esmcof_of, esucof_of, f2cof_of, fm3cof_of, ercof_of, hmym_of, fakmap_of, cofion_maps, cofion_of, IA, IB, map_tables, map_weights, coefficient_of}
use Rattle.base.proofs.verdicts.Picks.{cond_true}
use Rattle.results.specs.AsInTheRust.{WordEntry, MapShaped}
use Rattle.base.proofs.lists.Fills.{run_at}
use Rattle.base.proofs.layout.Parts.{table_part_law}
use Rattle.base.proofs.ladder.Ladders.{six}
use Rattle.base.proofs.lists.Maps.{cofion_at}
use Rattle.base.proofs.ladder.Indexing.{index_word}

-- ---- rows of d words

row_ends : (x m d : ℕ) → x < m → x * d + d ≤ m * d
row_ends x m d h =
    let a : (x + 1) * d ≤ m * d = mul-le-mul_right d (omega arith) in
    let b : (x + 1) * d ≡ x * d + 1 * d = add-mul x 1 d in
    omega arith

in_rows : (x m i d : ℕ) → x < m → i < d → x * d + i < m * d
in_rows x m i d h l = let a = row_ends x m d h in omega arith

same_row : (x y i j d : ℕ) → i < d → j < d → x * d + i ≡ y * d + j → x ≡ y
same_row x y i j d h l e = elim (dec_lt x y) [
  | yes p ↦ let a = row_ends x y d p in absurd (omega arith)
  | no p ↦ elim (dec_lt y x) [
    | yes q ↦ let a = row_ends y x d q in absurd (omega arith)
    | no q ↦ omega arith
  ]
]

same_column : (x y i j d : ℕ) → i < d → j < d → x * d + i ≡ y * d + j → i ≡ j
same_column x y i j d h l e = let p = ap (λ (z : ℕ). z * d) (same_row x y i j d h l e) in omega arith

some_columns : (m n d : ℕ) → n < m * d → 0 < d
some_columns m n d h = elim (dec_lt 0 d) [
  | yes p ↦ p
  | no p ↦
      let e : d ≡ 0 = omega arith in
      let q = ap (λ (z : ℕ). m * z) e ∙ mul-zero m in
      absurd (omega arith)
]

-- the row and the column of the word n
row_of : (m n d : ℕ) → n < m * d → n / d < m
row_of m n d h = (div-lt_iff_lt-mul (some_columns m n d h)).1 h

column_of_law : (m n d : ℕ) → n < m * d → n % d < d
column_of_law m n d h = mod-lt n (some_columns m n d h)

back : (n d : ℕ) → n / d * d + n % d ≡ n
back n d = let a = div-add-mod n d in let b = mul_comm d (n / d) in omega arith

-- ---- entries

module _ (number : ℕ) where
  abbrev I : ℕ
  I = dimension number 0

  abbrev J : ℕ
  J = dimension number 1

  abbrev K : ℕ
  K = dimension number 2

  abbrev cells : Table → ℕ
  cells t = get_or t.shape 2 1 * get_or t.shape 1 1 * get_or t.shape 0 1

  words_shaped : words_of number ≡ K * J * I
  unfolding dimension
  words_shaped = sym (get_or-map words_in numbered number no_such_table) ∙ get_or-map cells numbered number no_such_table

  module _ (i j k : ℕ) (e : HasEntry number i j k) where
    entry_word_law : entry_word number i j k < words_of number
    entry_word_law =
        subst (λ (n : ℕ). entry_word number i j k < n) (sym words_shaped)
        (in_rows (k * J + j) (K * J) i I (in_rows k K j J e.plane e.row) e.column)

    -- an entry's four bytes lie in its table's part of the file
    pub entry_inside : ((part_of number).from ≤ entry_place number i j k) × (entry_place number i j k + 4 ≤ (part_of number).from + (part_of number).size)
    unfolding part_of entry_place
    entry_inside = let h = entry_word_law in (omega arith, omega arith)

  -- two entries stand in two places
  module _ (i j k i' j' k' : ℕ) (e : HasEntry number i j k) (e' : HasEntry number i' j' k') (s : entry_place number i j k ≡ entry_place number i' j' k') where
    words_same : entry_word number i j k ≡ entry_word number i' j' k'
    unfolding entry_place
    words_same = omega (arith, s)

    rows_same : k * J + j ≡ k' * J + j'
    rows_same = same_row (k * J + j) (k' * J + j') i i' I e.column e'.column words_same

    pub entries_apart : (i ≡ i') × (j ≡ j') × (k ≡ k')
    entries_apart = (
      same_column (k * J + j) (k' * J + j') i i' I e.column e'.column words_same,
      same_column k k' j j' J e.row e'.row rows_same,
      same_row k k' j j' J e.row e'.row rows_same,
    )

  -- the word n of the table is an entry
  pub every_word : (n : ℕ) → n < words_of number → WordEntry number n
  unfolding entry_place
  every_word n h =
      let m : n < K * J * I = subst (λ (x : ℕ). n < x) words_shaped h in
      let q = row_of (K * J) n I m in
      let a : n / I / J * J + n / I % J ≡ n / I = back (n / I) J in
      let b : n / I * I + n % I ≡ n = back n I in
      record {
        i = n % I;
        j = n / I % J;
        k = n / I / J;
        there = record { column = column_of_law (K * J) n I m; row = column_of_law K (n / I) J q; plane = row_of K (n / I) J q };
        place = ap (λ (x : ℕ). start_of number + 4 * (x * I + n % I)) a ∙ ap (λ (x : ℕ). start_of number + 4 * x) b;
      }

-- ---- the words of `ikim`

-- the word j of the map k is the entry [k][j]
pub index_entry : (month : List ℕ) (k j : ℕ) → k < 6 → j < 10 → map_word (index_of month) k j ≡ word_at month (entry_place ikim j k 0)
unfolding dimension entry_place
index_entry month k j h l =
    let e : ikim_place k j ≡ entry_place ikim j k 0 = omega arith in
    index_word month k j h l ∙ ap (word_at month) e

-- ---- the six maps

pub maps_shaped : (k : ℕ) → k < 6 → MapShaped k
unfolding dimension
maps_shaped =
    six MapShaped
    (record { columns = refl; lines = refl; planes = refl; plane = refl })
    (record { columns = refl; lines = refl; planes = refl; plane = refl })
    (record { columns = refl; lines = refl; planes = refl; plane = refl })
    (record { columns = refl; lines = refl; planes = refl; plane = refl })
    (record { columns = refl; lines = refl; planes = refl; plane = refl })
    (record { columns = refl; lines = refl; planes = refl; plane = refl })

-- a row is a mean and two coefficients for each harmonic
pub row_waves : (k : ℕ) → k < 6 → get_or IB k 0 ≡ 2 * get_or harmonics k 0 + 1
row_waves = six (λ k. get_or IB k 0 ≡ 2 * get_or harmonics k 0 + 1) refl refl refl refl refl refl

-- the element i of the row j of a table's blended planes
blend_entry :
    (file : List ℕ) (w : Weights) (number width lines : ℕ) → dimension number 0 ≡ width → dimension number 1 ≡ lines →
    plane_of number ≡ lines * width → (i j : ℕ) → i < width → j < lines →
    get_or (blend_table number w file) (j * width + i) nan
    ≡
    blend_of w (float_at file (entry_place number i j 0)) (float_at file (entry_place number i j 1))
unfolding blend_at entry_place
blend_entry file w number width lines a b c i j h l =
    run_at _ (plane_of number) (j * width + i) nan (subst (λ (n : ℕ). j * width + i < n) (sym c) (in_rows j lines i width l h))
    ∙ (λ t. blend_of w (float_at file (start_of number + 4 * p t)) (float_at file (start_of number + 4 * q t)))
  where
    word : (k : ℕ) → entry_word number i j k ≡ (k * lines + j) * width + i
    word k = ap (λ (x : ℕ). (k * dimension number 1 + j) * x + i) a ∙ ap (λ (x : ℕ). (k * x + j) * width + i) b

    p : j * width + i ≡ entry_word number i j 0
    p = let e : 0 * lines + j ≡ j = omega (arith, zero-mul lines) in sym (word 0 ∙ ap (λ (x : ℕ). x * width + i) e)

    q : plane_of number + (j * width + i) ≡ entry_word number i j 1
    q =
        let e : 1 * lines + j ≡ lines + j = omega (arith, one-mul lines) in
        let d = add-mul lines j width in
        ap (λ (x : ℕ). x + (j * width + i)) c
        ∙ (let f : lines * width + (j * width + i) ≡ (lines + j) * width + i = omega arith in f)
        ∙ sym (word 1 ∙ ap (λ (x : ℕ). x * width + i) e)

module _ (f2 month : List ℕ) (s : Float) where
  map_blend :
      (k : ℕ) → k < 6 →
      get_or (cofion_maps f2 month s) k []
      ≡
      blend_table (get_or map_tables k 0) (get_or (map_weights s) k (e_weights s)) (holding (get_or map_tables k 0) f2 month)
  unfolding eslcof_of esmcof_of esucof_of f2cof_of fm3cof_of ercof_of
  map_blend =
      six
      (λ k.
      get_or (cofion_maps f2 month s) k []
      ≡
      blend_table (get_or map_tables k 0) (get_or (map_weights s) k (e_weights s)) (holding (get_or map_tables k 0) f2 month))
      refl
      refl
      refl
      refl
      refl
      refl

  -- what COFION holds at the row j and the column i of the map k: the blend of two words of the
  -- files
  pub cofion_entry :
      (k i j : ℕ) → k < 6 → i < get_or IB k 0 → j < get_or rows k 0 →
      get_or (cofion_of f2 month s) (get_or IA k 0 - 1 + j * get_or IB k 0 + i) nan ≡ coefficient_of f2 month s k i j
  unfolding coefficient_of
  cofion_entry k i j h l m =
      let d = maps_shaped k h in
      let e : get_or IA k 0 - 1 + j * get_or IB k 0 + i ≡ get_or IA k 0 - 1 + (j * get_or IB k 0 + i) = omega arith in
      ap (λ (n : ℕ). get_or (cofion_of f2 month s) n nan) e
      ∙ cofion_at f2 month s k (j * get_or IB k 0 + i) nan h (in_rows j (get_or rows k 0) i (get_or IB k 0) m l)
      ∙ ap (λ (x : List Float). get_or x (j * get_or IB k 0 + i) nan) (map_blend k h)
      ∙ blend_entry (holding (get_or map_tables k 0) f2 month) (get_or (map_weights s) k (e_weights s)) (get_or map_tables k 0) (get_or IB k 0) (get_or rows k 0) d.columns d.lines d.plane i j l m

-- ---- the other tables that are read

module _ (month : List ℕ) where
  -- the height map
  pub hmym_entry :
      (s : Float) (i j : ℕ) → i < 29 → j < 16 →
      get_or (hmym_of month s) (j * 29 + i) nan
      ≡
      blend_of (height_weights s) (float_at month (entry_place xpmap i j 0)) (float_at month (entry_place xpmap i j 1))
  unfolding hmym_of dimension
  hmym_entry s i j h l = blend_entry month (height_weights s) xpmap 29 16 refl refl refl i j h l

  -- the land map
  pub fakmap_entry : (i j : ℕ) → i < 29 → j < 16 → get_or (fakmap_of month) (j * 29 + i) nan ≡ float_at month (entry_place fakmap i j 0)
  unfolding fakmap_of dimension entry_place
  fakmap_entry i j h l =
      let e : start_of fakmap + 4 * (j * 29 + i) ≡ entry_place fakmap i j 0 = omega arith in
      run_at _ (words_of fakmap) (j * 29 + i) nan (in_rows j 16 i 29 l h) ∙ ap (float_at month) e

-- an array of one dimension, and `abmap`
pub line_entry : (number i : ℕ) → entry_place number i 0 0 ≡ start_of number + 4 * i
unfolding entry_place
line_entry number i =
    let a = zero-mul (dimension number 1) in
    let b : (0 * dimension number 1 + 0) * dimension number 0 ≡ 0 =
    ap (λ (x : ℕ). (x + 0) * dimension number 0) a ∙ zero-mul (dimension number 0) in
    let e : (0 * dimension number 1 + 0) * dimension number 0 + i ≡ i = ap (λ (x : ℕ). x + i) b ∙ zero-add i in
    ap (λ (x : ℕ). start_of number + 4 * x) e

pub abmap_entry : (i j : ℕ) → entry_place abmap i j 0 ≡ start_of abmap + 4 * (j * 2 + i)
unfolding dimension entry_place
abmap_entry i j = omega arith

-- ---- a table that is handed back

part_byte : (size from : ℕ) (s x : List ℕ) → x ≡ take size (drop from s) → (n : ℕ) → n < size → get_or x n 0 ≡ get_or s (from + n) 0
part_byte size from s x p n h = ap (λ (l : List ℕ). get_or l n 0) p ∙ get_or-take size (drop from s) n 0 h ∙ get_or-drop from s n 0

module _ (number i j k : ℕ) (e : HasEntry number i j k) where
  part_entry :
      (s x : List ℕ) → x ≡ take (part_of number).size (drop (part_of number).from s) →
      word_at x (4 * entry_word number i j k) ≡ word_at s (entry_place number i j k)
  unfolding word_at part_of entry_place
  part_entry s x p =
      let h = entry_word_law number i j k e in
      let at = 4 * entry_word number i j k in
      let byte = part_byte (4 * words_of number) (start_of number) s x p in
      let b0 = byte at (omega arith) in
      let b1 = byte (at + 1) (omega arith) ∙ ap (λ (n : ℕ). get_or s n 0) (sym (add_assoc (start_of number) at 1)) in
      let b2 = byte (at + 2) (omega arith) ∙ ap (λ (n : ℕ). get_or s n 0) (sym (add_assoc (start_of number) at 2)) in
      let b3 = byte (at + 3) (omega arith) ∙ ap (λ (n : ℕ). get_or s n 0) (sym (add_assoc (start_of number) at 3)) in
      λ t. word_of (b0 t) (b1 t) (b2 t) (b3 t)

  -- its entries are the words of the file that holds it
  pub table_entry :
      (f m x : Bor (List ℕ)) → table_check number f.now m.now ≡ Ok tt → IsPart (table_part number f.now m.now) (table_file number f m) x →
      word_at x.now (4 * entry_word number i j k) ≡ word_at (holding number f.now m.now) (entry_place number i j k)
  unfolding table_file
  table_entry f m x a p =
      let file : (table_file number f m).now ≡ holding number f.now m.now = ap (λ (r : Bor (List ℕ)). r.now) (cond_true _ _ (ap is_accepted a)) ∙ either (eqb number 0) in
      let part = table_part_law number f.now m.now refl a in
      part_entry (holding number f.now m.now) x.now (p.bytes ∙ (λ t. take (part t).size (drop (part t).from (file t))))
    where
      either : (b : Bool) → (cond b f m).now ≡ cond b f.now m.now
      either true = refl
      either false = refl
