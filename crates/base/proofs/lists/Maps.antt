-- An array filled by one run after the other is the runs one after the other: the six maps of
-- COFION, and the height map. Assumes nothing.
use Rattle.std.proofs.Common.{◌≡◌, ℕ, zero, suc, ◌+◌, ◌-◌, ◌*◌, ◌<◌, List, [], ◌∷◌, ◌++◌, length, get_or, drop, sym, refl, ap, ◌∙◌, append_assoc, append-nil, zero-add, arith, length-append, length-drop, get_or-append-add, Float}
use lib.ListN.{get_or-append}
use Rattle.base.specs.declared.blend.Weights.{Weights}
use Rattle.base.specs.Fill.{fill, tabulate}
use Rattle.base.specs.Blend.{blend_at, blend_table, f2_weights, e_weights, height_weights, eslcof_of, esmcof_of, esucof_of, f2cof_of, fm3cof_of, ercof_of, hmym_of, cofion_maps, appended, cofion_of, IA, IB}
use Rattle.base.specs.Tables.{start_of, plane_of, xf2cof, xfm3cf, xesmcf, xpmap, xeslcf, xesucf, xercof}
use Rattle.base.specs.Index.{rows}
use Rattle.base.proofs.lists.Fills.{fill_run, fill_all, length_run}
use Rattle.base.proofs.ladder.Ladders.{six}

-- l starts with xs, which has `base` elements, and has `rest` more
pub record Starts (base rest : ℕ) (xs l : List Float) : Type 0 where
  pub others : List Float
  pub is : l ≡ xs ++ others
  pub before : length xs ≡ base
  pub after : length others ≡ rest

empty : (l : List Float) → length l ≡ 0 → l ≡ []
empty [] e = refl
empty (x ∷ l) e = absurd (omega arith)

pub start : (l : List Float) (n : ℕ) → length l ≡ n → Starts 0 n [] l
start l n e = record { others = l; is = refl; before = refl; after = e }

pub filled :
    {base rest : ℕ} {xs l : List Float} (f : ℕ → Float) (n : ℕ) {o : List Float} → Starts base (n + rest) xs l → o ≡ fill f base l n →
    Starts (base + n) rest (xs ++ tabulate f n) o
filled {base} {rest} {xs} {l} f n s e =
    record {
      others = drop n s.others;
      is =
          e
          ∙ ap (λ (x : List Float). fill f base x n) s.is
          ∙ fill_run f base xs s.others n s.before (omega arith)
          ∙ sym (append_assoc xs (tabulate f n) (drop n s.others));
      before = length-append xs (tabulate f n) ∙ (let a = length_run f n in let b = s.before in omega arith);
      after = length-drop n s.others ∙ (let a = s.after in omega arith);
    }

pub whole : {base : ℕ} {xs l : List Float} → Starts base 0 xs l → l ≡ xs
whole {base} {xs} s = s.is ∙ ap (λ (x : List Float). xs ++ x) (empty s.others s.after) ∙ append-nil xs

-- the elements that a call of `blend` makes of a table
abbrev table_blend : ℕ → Weights → List ℕ → ℕ → Float
table_blend number w file = blend_at file (start_of number) (plane_of number) w

-- the six calls of `cofion_of`
module _
    (f2 month : List ℕ) (s : Float) {wf we : Weights} (ef : wf ≡ f2_weights s) (ee : we ≡ e_weights s)
    (o0 o1 o2 o3 o4 o5 : List Float) {o6 : List Float} (all : length o0 ≡ 2604)
    (e1 : o1 ≡ fill (table_blend xeslcf we month) 0 o0 (plane_of xeslcf))
    (e2 : o2 ≡ fill (table_blend xesmcf we month) 275 o1 (plane_of xesmcf))
    (e3 : o3 ≡ fill (table_blend xesucf we month) 702 o2 (plane_of xesucf))
    (e4 : o4 ≡ fill (table_blend xf2cof wf f2) 977 o3 (plane_of xf2cof))
    (e5 : o5 ≡ fill (table_blend xfm3cf wf month) 1965 o4 (plane_of xfm3cf))
    (e6 : o6 ≡ fill (table_blend xercof we month) 2406 o5 (plane_of xercof))
  where
    abbrev runs : Weights → Weights → List Float
    runs wf we =
        ((((([] ++ blend_table xeslcf we month) ++ blend_table xesmcf we month) ++ blend_table xesucf we month)
        ++ blend_table xf2cof wf f2)
        ++ blend_table xfm3cf wf month)
        ++ blend_table xercof we month

    one_after_the_other : o6 ≡ runs wf we
    one_after_the_other =
        whole
        (filled (table_blend xercof we month) (plane_of xercof)
        (filled (table_blend xfm3cf wf month) (plane_of xfm3cf)
        (filled (table_blend xf2cof wf f2) (plane_of xf2cof)
        (filled (table_blend xesucf we month) (plane_of xesucf)
        (filled (table_blend xesmcf we month) (plane_of xesmcf)
        (filled (table_blend xeslcf we month) (plane_of xeslcf) (start o0 2604 all) e1) e2) e3) e4) e5) e6)

    pub six_maps : o6 ≡ cofion_of f2 month s
    unfolding cofion_of eslcof_of esmcof_of esucof_of f2cof_of fm3cof_of ercof_of
    six_maps =
        one_after_the_other
        ∙ ap (λ (w : Weights). runs w we) ef
        ∙ ap (runs (f2_weights s)) ee
        ∙ simp (append_assoc, append-nil)

-- the one call of `hmym_of`
pub height_map :
    (month : List ℕ) (s : Float) {w : Weights} (l : List Float) {o : List Float} → w ≡ height_weights s → length l ≡ plane_of xpmap →
    o ≡ fill (table_blend xpmap w month) 0 l (plane_of xpmap) → o ≡ hmym_of month s
unfolding hmym_of
height_map month s {w} l ew n e =
    e ∙ fill_all (table_blend xpmap w month) l (plane_of xpmap) n ∙ ap (λ (v : Weights). blend_table xpmap v month) ew

-- ---- where the maps stand in COFION

-- the elements of the first k lists
abbrev pub lengths_before : List (List Float) → ℕ → ℕ
lengths_before ls zero = 0
lengths_before [] (suc k) = 0
lengths_before (l ∷ ls) (suc k) = length l + lengths_before ls k

appended_at :
    (ls : List (List Float)) (k i : ℕ) (d : Float) → i < length (get_or ls k []) →
    get_or (appended ls) (lengths_before ls k + i) d ≡ get_or (get_or ls k []) i d
appended_at [] zero i d h = absurd (omega arith)
appended_at [] (suc k) i d h = absurd (omega arith)
appended_at (l ∷ ls) zero i d h = ap (λ (n : ℕ). get_or (l ++ appended ls) n d) (zero-add i) ∙ get_or-append l (appended ls) d i h
appended_at (l ∷ ls) (suc k) i d h =
    let e : length l + lengths_before ls k + i ≡ length l + (lengths_before ls k + i) = omega arith in
    ap (λ (n : ℕ). get_or (l ++ appended ls) n d) e
    ∙ get_or-append-add l (appended ls) (lengths_before ls k + i) d
    ∙ appended_at ls k i d h

module _ (f2 month : List ℕ) (s : Float) where
  length_eslcof : length (eslcof_of month s) ≡ plane_of xeslcf
  unfolding eslcof_of
  length_eslcof = length_run _ (plane_of xeslcf)

  length_esmcof : length (esmcof_of month s) ≡ plane_of xesmcf
  unfolding esmcof_of
  length_esmcof = length_run _ (plane_of xesmcf)

  length_esucof : length (esucof_of month s) ≡ plane_of xesucf
  unfolding esucof_of
  length_esucof = length_run _ (plane_of xesucf)

  length_f2cof : length (f2cof_of f2 s) ≡ plane_of xf2cof
  unfolding f2cof_of
  length_f2cof = length_run _ (plane_of xf2cof)

  length_fm3cof : length (fm3cof_of month s) ≡ plane_of xfm3cf
  unfolding fm3cof_of
  length_fm3cof = length_run _ (plane_of xfm3cf)

  length_ercof : length (ercof_of month s) ≡ plane_of xercof
  unfolding ercof_of
  length_ercof = length_run _ (plane_of xercof)

  -- each run has a row for each row of its map, as wide as IB says
  pub run_length : (k : ℕ) → k < 6 → length (get_or (cofion_maps f2 month s) k []) ≡ get_or rows k 0 * get_or IB k 0
  run_length =
      six (λ k. length (get_or (cofion_maps f2 month s) k []) ≡ get_or rows k 0 * get_or IB k 0)
      length_eslcof
      length_esmcof
      length_esucof
      length_f2cof
      length_fm3cof
      length_ercof

  -- and starts at IA - 1
  pub run_start : (k : ℕ) → k < 6 → lengths_before (cofion_maps f2 month s) k ≡ get_or IA k 0 - 1
  run_start =
      let a = length_eslcof in
      let b = length_esmcof in
      let c = length_esucof in
      let d = length_f2cof in
      let e = length_fm3cof in
      six (λ k. lengths_before (cofion_maps f2 month s) k ≡ get_or IA k 0 - 1)
      refl
      (omega arith)
      (omega arith)
      (omega arith)
      (omega arith)
      (omega arith)

  -- so that the coefficients of the map k are read from IA - 1 on
  pub cofion_at :
      (k i : ℕ) (d : Float) → k < 6 → i < get_or rows k 0 * get_or IB k 0 →
      get_or (cofion_of f2 month s) (get_or IA k 0 - 1 + i) d ≡ get_or (get_or (cofion_maps f2 month s) k []) i d
  unfolding cofion_of
  cofion_at k i d h l =
      let n = run_length k h in
      ap (λ (b : ℕ). get_or (appended (cofion_maps f2 month s)) (b + i) d) (sym (run_start k h))
      ∙ appended_at (cofion_maps f2 month s) k i d (omega arith)
