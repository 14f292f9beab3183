-- Files that agree in their first bytes are checked and read alike, whatever follows: every word
-- that is asked for lies among those bytes. Assumes nothing.
use Rattle.std.proofs.Common.{Err, ◌≡◌, refl, sym, ap, ◌∙◌, Bool, true, cond, ◌&&◌, List, [], ◌∷◌, ◌++◌, ℕ, zero, suc, ◌+◌, ◌-◌, ◌*◌, ◌/◌, ◌≤◌, ◌<◌, arith, T, leb, eqb, leb→le, lit≤, ℤ, length, get_or, replicate, length-append, Float, le-leb}
use lib.ListN.{length-replicate}
use lib.Ieee.{binary32, of_bits}
use lib.Ieee.Fits.{and_l, and_r}
use lib.Ieee.Scale.{finite}
use Rattle.base.specs.declared.refusal.Refusal.{Refusal}
use Rattle.base.specs.declared.refusal.Refusal.TheVariants.{Index, Marker, Ended, RecordWord, MonthWord}
use Rattle.base.specs.declared.blend.Weights.{Weights}
use Rattle.base.specs.Refusal.{◌then◌}
use Rattle.base.specs.Number.{signed_of}
use Rattle.base.specs.Fill.{tabulate}
use Rattle.base.specs.Words.{word_of, word_at, integer_at, float_at}
use Rattle.base.specs.MonthFile.{record_size, month_file_size, sizes, Four, marker, anything, layout, is_right, walk, month_file_check}
use Rattle.base.specs.Finite.{words_check, record_words_check, float_tables, each_check, table_words_check}
use Rattle.base.specs.Tables.{Table, words_in, table_end, start_of, plane_of, words_of, xf2cof, ikim, fakmap, xfm3cf, xesmcf, xpmap, xeslcf, xesucf, xercof}
use Rattle.base.specs.Index.{rows, harmonics, is_whole_to, equals, exceeds, climbs, good_map, ikim_place, ikim_at, lowest_bad, index_check, index_of}
use Rattle.base.specs.Blend.{blend_of, blend_at, blend_table, f2_weights, e_weights, height_weights, eslcof_of, esmcof_of, esucof_of, f2cof_of, fm3cof_of, ercof_of, hmym_of, fakmap_of, appended, cofion_of}
use Rattle.results.specs.LaterBytes.{Alike}

-- ---- lists and words

pub run_alike : {A : Type 0} (f g : ℕ → A) (n : ℕ) → ((k : ℕ) → k < n → f k ≡ g k) → tabulate f n ≡ tabulate g n
unfolding tabulate
run_alike f g zero h = refl
run_alike f g (suc n) h =
    let e = run_alike f g n (λ k q. h k (omega arith)) in
    let last = h n (omega arith) in
    λ i. e i ++ (last i ∷ [])

-- whether tables end by the byte n
unfoldable ends_by : ℕ → List Table → Bool
ends_by n [] = true
ends_by n (t ∷ ts) = leb (table_end t) n && ends_by n ts

module _ (n : ℕ) (s t : List ℕ) (a : Alike n s t) where
  pub word_alike : (at : ℕ) → at + 4 ≤ n → word_at s at ≡ word_at t at
  unfolding word_at
  word_alike at h =
      let b0 = a.bytes at (omega arith) in
      let b1 = a.bytes (at + 1) (omega arith) in
      let b2 = a.bytes (at + 2) (omega arith) in
      let b3 = a.bytes (at + 3) (omega arith) in
      λ i. word_of (b0 i) (b1 i) (b2 i) (b3 i)

  pub float_alike : (at : ℕ) → at + 4 ≤ n → float_at s at ≡ float_at t at
  unfolding float_at
  float_alike at h = ap (of_bits binary32) (word_alike at h)

  integer_alike : (at : ℕ) → at + 4 ≤ n → integer_at s at ≡ integer_at t at
  unfolding integer_at
  integer_alike at h = ap signed_of (word_alike at h)

  -- ---- the walk

  right_alike : (at : ℕ) (f : Four) → at + 4 ≤ n → is_right s at f ≡ is_right t at f
  right_alike at (marker m) h = ap (λ (w : ℕ). eqb w m) (word_alike at h)
  right_alike at anything h = refl

  walk_alike : (at : ℕ) (fs : List Four) → at + 4 * length fs ≤ n → walk s at fs ≡ walk t at fs
  unfolding walk
  walk_alike at [] h = refl
  walk_alike at (f ∷ fs) h =
      let p = a.here in
      let q = a.there in
      let l : leb (at + 4) (length s) ≡ leb (at + 4) (length t) = le-leb (at + 4) (length s) (omega arith) ∙ sym (le-leb (at + 4) (length t) (omega arith)) in
      let r = right_alike at f (omega arith) in
      let e = walk_alike (at + 4) fs (omega arith) in
      λ i. cond (l i) (cond (r i) (e i) (Err (Marker at))) (Err (Ended at))

  -- ---- the index table

  climbs_alike : (w v : ℕ → ℤ) (m j : ℕ) → ((k : ℕ) → k ≤ j + m → w k ≡ v k) → climbs w m j ≡ climbs v m j
  unfolding climbs
  climbs_alike w v zero j h = refl
  climbs_alike w v (suc m) j h =
      let y = h j (omega arith) in
      let z = h (j + 1) (omega arith) in
      let e = climbs_alike w v m (j + 1) (λ k q. h k (omega arith)) in
      λ i. cond (equals (y i) (z i)) true (exceeds (y i) (z i) && e i)

  good_alike : (w v : ℕ → ℤ) (r m : ℕ) → ((k : ℕ) → k ≤ 9 → w k ≡ v k) → good_map w r m ≡ good_map v r m
  unfolding good_map
  good_alike w v r m h =
      let w8 = h 8 (omega arith) in
      let w9 = h 9 (omega arith) in
      let w0 = h 0 (omega arith) in
      let e = climbs_alike w v 8 0 (λ k q. h k (omega arith)) in
      λ i. is_whole_to 0 (r - 1) (w8 i) && (is_whole_to 0 m (w9 i) && (is_whole_to 1 75 (w0 i) && e i))

  module _ (whole : 244 ≤ n) where
    lowest_alike : (m k : ℕ) → k + m ≤ 6 → lowest_bad s m k ≡ lowest_bad t m k
    unfolding lowest_bad
    lowest_alike zero k h = refl
    lowest_alike (suc m) k h =
        let g = good_alike (ikim_at s k) (ikim_at t k) (get_or rows k 0) (get_or harmonics k 0) (λ j q. integer_alike (ikim_place k j) (omega arith)) in
        let e = lowest_alike m (k + 1) (omega arith) in
        λ i. cond (g i) (e i) (Err (Index (k + 1)))

    pub check_alike : index_check s ≡ index_check t
    unfolding index_check
    check_alike = lowest_alike 6 0 (omega arith)

    pub index_alike : index_of s ≡ index_of t
    unfolding index_of
    index_alike = run_alike _ _ 60 (λ k q. word_alike (start_of ikim + k * 4) (omega arith))

  -- ---- the words of the tables

  pub words_alike : (why : ℕ → Refusal) (at m : ℕ) → at + 4 * m ≤ n → words_check why s at m ≡ words_check why t at m
  unfolding words_check
  words_alike why at zero h = refl
  words_alike why at (suc m) h =
      let f = ap finite (float_alike at (omega arith)) in
      let e = words_alike why (at + 4) m (omega arith) in
      λ i. cond (f i) (e i) (Err (why at))

  each_alike : (ts : List Table) → T (ends_by n ts) → each_check s ts ≡ each_check t ts
  unfolding each_check ends_by
  each_alike [] h = refl
  each_alike (x ∷ ts) h =
      let l = leb→le (table_end x) n (and_l (leb (table_end x) n) (ends_by n ts) h) in
      let e = words_alike MonthWord x.from (words_in x) l in
      let more = each_alike ts (and_r (leb (table_end x) n) (ends_by n ts) h) in
      λ i. e i then more i

  -- ---- the maps

  blend_alike : (at width : ℕ) (w : Weights) → at + 8 * width ≤ n → tabulate (blend_at s at width w) width ≡ tabulate (blend_at t at width w) width
  unfolding blend_at
  blend_alike at width w h =
      run_alike _ _ width
      (λ k q.
      let x0 = float_alike (at + 4 * k) (omega arith) in
      let x1 = float_alike (at + 4 * (width + k)) (omega arith) in
      λ i. blend_of w (x0 i) (x1 i))

-- ---- a month file, whole in both

fours : List ℕ → ℕ
fours [] = 0
fours (n ∷ ns) = n / 4 + 2 + fours ns

length_layout : (ns : List ℕ) → length (layout ns) ≡ fours ns
unfolding layout fours
length_layout [] = refl
length_layout (n ∷ ns) =
    let h = length_layout ns in
    let a = length-append (replicate (n / 4) anything) (marker n ∷ layout ns) in
    let b = length-replicate {A = Four} (n / 4) anything in
    omega arith

module _ (s t : List ℕ) (a : Alike month_file_size s t) where
  pub file_alike : month_file_check s ≡ month_file_check t
  unfolding month_file_check fours
  file_alike = let e = length_layout sizes in walk_alike month_file_size s t a 0 (layout sizes) (omega arith)

  pub tables_alike : table_words_check s ≡ table_words_check t
  unfolding table_words_check ends_by
  tables_alike = each_alike month_file_size s t a float_tables tt

  table_alike : (number : ℕ) (w : Weights) → start_of number + 8 * plane_of number ≤ month_file_size → blend_table number w s ≡ blend_table number w t
  table_alike number w h = blend_alike month_file_size s t a (start_of number) (plane_of number) w h

  pub hmym_alike : (x : Float) → hmym_of s x ≡ hmym_of t x
  unfolding hmym_of
  hmym_alike x = table_alike xpmap (height_weights x) (lit≤ tt)

  pub fakmap_alike : fakmap_of s ≡ fakmap_of t
  unfolding fakmap_of
  fakmap_alike = run_alike _ _ (words_of fakmap) (λ k q. float_alike month_file_size s t a (start_of fakmap + 4 * k) (omega arith))

  -- beside any record
  pub cofion_month : (f : List ℕ) (x : Float) → cofion_of f s x ≡ cofion_of f t x
  unfolding cofion_of eslcof_of esmcof_of esucof_of fm3cof_of ercof_of
  cofion_month f x =
      let m1 = table_alike xeslcf (e_weights x) (lit≤ tt) in
      let m2 = table_alike xesmcf (e_weights x) (lit≤ tt) in
      let m3 = table_alike xesucf (e_weights x) (lit≤ tt) in
      let m5 = table_alike xfm3cf (f2_weights x) (lit≤ tt) in
      let m6 = table_alike xercof (e_weights x) (lit≤ tt) in
      λ i. appended (m1 i ∷ m2 i ∷ m3 i ∷ f2cof_of f x ∷ m5 i ∷ m6 i ∷ [])

-- ---- a record, whole in both, beside any month file

module _ (f g : List ℕ) (b : Alike record_size f g) where
  pub records_alike : record_words_check f 1 ≡ record_words_check g 1
  unfolding record_words_check
  records_alike = words_alike record_size f g b RecordWord (start_of xf2cof) (words_of xf2cof) (lit≤ tt)

  f2_alike : (x : Float) → f2cof_of f x ≡ f2cof_of g x
  unfolding f2cof_of
  f2_alike x = blend_alike record_size f g b (start_of xf2cof) (plane_of xf2cof) (f2_weights x) (lit≤ tt)

  pub cofion_record : (s : List ℕ) (x : Float) → cofion_of f s x ≡ cofion_of g s x
  unfolding cofion_of
  cofion_record s x =
      let m4 = f2_alike x in
      λ i. appended (eslcof_of s x ∷ esmcof_of s x ∷ esucof_of s x ∷ m4 i ∷ fm3cof_of s x ∷ ercof_of s x ∷ [])
