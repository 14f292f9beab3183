-- Words put in place: the fields of a set that is read and written, by computation; and six sets of
-- 16 words, put one after the other into 96 words, are the six appended, by what a put leaves before
-- and behind it. Assumes nothing.
use Rattle.std.proofs.Common.{None, Option, Some, ◌≡◌, ℕ, ◌+◌, ◌≤◌, Bool, true, false, cond, List, [], ◌++◌, length, get_or, take, drop, replicate, refl, sym, ap, ◌∙◌, append_assoc, append-nil, length-append, arith, leb, leb-true}
use Rattle.std.proofs.lemmas.List.{get_or-take, get_or-drop}
use Rattle.std.proofs.Math.Seq.{take-append_seam, drop-append-add}
use Rattle.maps.specs.Inputs.{route_from, factors_from, pole_from, inputs_from, field_words}
use Rattle.maps.specs.declared.inputs.Inputs.{Inputs}
use Rattle.worksheet.specs.declared.desks.Draft.{Draft}
use Rattle.worksheet.specs.declared.desks.Draft.TheVariants.{Closed, Fresh, Stale}
use Rattle.worksheet.specs.declared.desks.Worksheet.{Worksheet}
use Rattle.jutetrowel.specs.Words.{inputs_in, set_words, earlier_words, draft_words, sheet_words}

-- ---- one set

-- inputs look at 15 words alone
inputs_agree : (f g : ℕ → ℕ) → ((k : ℕ) → k ≤ 14 → f k ≡ g k) → inputs_from f ≡ inputs_from g
unfolding inputs_from route_from factors_from pole_from
inputs_agree f g h = λ t. inputs_from (λ (k : ℕ). same k (leb k 14) (leb-true k 14) t)
  where
    same : (k : ℕ) (b : Bool) → (b ≡ true → k ≤ 14) → cond b (f k) 0 ≡ cond b (g k) 0
    same k true e = h k (e refl)
    same k false e = refl

-- the 15 words that stand behind what the set at `at` is
pub fields_read : (l : List ℕ) (at n : ℕ) → n ≡ 15 → inputs_from (λ (k : ℕ). get_or (take n (drop (at + 1) l)) k 0) ≡ inputs_in l at
unfolding inputs_in
fields_read l at n e = inputs_agree _ _ (λ k h. get_or-take n (drop (at + 1) l) k 0 (omega arith) ∙ get_or-drop (at + 1) l k 0)

pub set_length : (what : ℕ) (i : Inputs) → length (set_words what i) ≡ 16
unfolding set_words field_words
set_length what i = refl

pub earlier_length : (e : Option Inputs) → length (earlier_words e) ≡ 16
unfolding earlier_words
earlier_length None = refl
earlier_length (Some i) = set_length 1 i

pub draft_length : (d : Draft) → length (draft_words d) ≡ 16
unfolding draft_words
draft_length Closed = refl
draft_length (Fresh i) = set_length 1 i
draft_length (Stale i) = set_length 2 i

-- ---- six sets

-- the words l after v is put at the place n, as the contract of `put` has them
abbrev put : ℕ → List ℕ → List ℕ → List ℕ
put n v l = take n l ++ (v ++ drop (n + 16) l)

-- a set put behind xs
after : {o o' : List ℕ} (xs ys v : List ℕ) (n : ℕ) → length xs ≡ n → o ≡ xs ++ ys → o' ≡ put n v o →
    o' ≡ (xs ++ v) ++ drop 16 ys
after xs ys v n l p e =
    e
    ∙ ap (put n v) p
    ∙ ap (λ (m : ℕ). put m v (xs ++ ys)) (sym l)
    ∙ (λ t. take-append_seam xs ys t ++ (v ++ drop-append-add xs ys 16 t))
    ∙ sym (append_assoc xs v (drop 16 ys))

longer : (xs v : List ℕ) (n m : ℕ) → length xs ≡ n → length v ≡ 16 → n + 16 ≡ m → length (xs ++ v) ≡ m
longer xs v n m e l s = length-append xs v ∙ omega arith

module _
    (w : Worksheet) {v0 v1 v2 v3 v4 v5 o1 o2 o3 o4 o5 o6 : List ℕ}
    (q0 : v0 ≡ set_words 1 w.inputs)
    (q1 : v1 ≡ earlier_words w.earlier)
    (q2 : v2 ≡ draft_words w.d1)
    (q3 : v3 ≡ draft_words w.d2)
    (q4 : v4 ≡ draft_words w.d3)
    (q5 : v5 ≡ draft_words w.d4)
    (e1 : o1 ≡ put 0 v0 (replicate 96 0))
    (e2 : o2 ≡ put 16 v1 o1)
    (e3 : o3 ≡ put 32 v2 o2)
    (e4 : o4 ≡ put 48 v3 o3)
    (e5 : o5 ≡ put 64 v4 o4)
    (e6 : o6 ≡ put 80 v5 o5)
  where
    appended : o6 ≡ v0 ++ (v1 ++ (v2 ++ (v3 ++ (v4 ++ v5))))
    appended =
        let l0 : length v0 ≡ 16 = ap length q0 ∙ set_length 1 w.inputs in
        let l1 : length v1 ≡ 16 = ap length q1 ∙ earlier_length w.earlier in
        let l2 : length v2 ≡ 16 = ap length q2 ∙ draft_length w.d1 in
        let l3 : length v3 ≡ 16 = ap length q3 ∙ draft_length w.d2 in
        let l4 : length v4 ≡ 16 = ap length q4 ∙ draft_length w.d3 in
        let n1 = longer v0 v1 16 32 l0 l1 refl in
        let n2 = longer (v0 ++ v1) v2 32 48 n1 l2 refl in
        let n3 = longer ((v0 ++ v1) ++ v2) v3 48 64 n2 l3 refl in
        let n4 = longer (((v0 ++ v1) ++ v2) ++ v3) v4 64 80 n3 l4 refl in
        let p1 : o1 ≡ v0 ++ replicate 80 0 = after [] (replicate 96 0) v0 0 refl refl e1 in
        let p2 = after v0 (replicate 80 0) v1 16 l0 p1 e2 in
        let p3 = after (v0 ++ v1) (replicate 64 0) v2 32 n1 p2 e3 in
        let p4 = after ((v0 ++ v1) ++ v2) (replicate 48 0) v3 48 n2 p3 e4 in
        let p5 = after (((v0 ++ v1) ++ v2) ++ v3) (replicate 32 0) v4 64 n3 p4 e5 in
        after ((((v0 ++ v1) ++ v2) ++ v3) ++ v4) (replicate 16 0) v5 80 n4 p5 e6 ∙ simp (append_assoc, append-nil)

    pub six_sets : o6 ≡ sheet_words w
    unfolding sheet_words
    six_sets = appended ∙ (λ t. q0 t ++ (q1 t ++ (q2 t ++ (q3 t ++ (q4 t ++ q5 t)))))
