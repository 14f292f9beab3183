-- What is read off marks depends on the marks at the places that are looked at, and on no others: by
-- going through those places. Assumes nothing.
use Rattle.std.proofs.Common.{Option, Some, ℕ, zero, suc, ◌+◌, ◌<◌, ◌≤◌, Bool, true, false, cond, ◌&&◌, ◌||◌, List, [], ◌∷◌, ◌++◌, ◌≡◌, refl, ap, ◌∙◌, arith, eqb}
use Rattle.auditing.specs.declared.marks.Origin.{Origin}
use Rattle.auditing.specs.declared.marks.Origin.TheVariants.{Set}
use Rattle.auditing.specs.declared.marks.Fate.TheVariants.{Stands, TakenBack, Cancelled}
use Rattle.auditing.specs.Marks.{mark_sort, mark_desk, is_done, is_done_by, is_own_mark, is_refused_commit, mark_at, change_before, origin_before, settled_from, fate_from, refused_from, own_places, kept_at, kept_places}

-- the same marks at the places below n
abbrev pub Alike : List ℕ → List ℕ → ℕ → Type 0
Alike ms ns n = (i : ℕ) → i < n → mark_at ms i ≡ mark_at ns i

module _ (ms ns : List ℕ) where
  fewer : (m n : ℕ) → m ≤ n → Alike ms ns n → Alike ms ns m
  fewer m n h same i q = same i (omega arith)

  -- ---- backwards

  change_alike :
      (part n settled : ℕ) (other : Origin) (j : ℕ) → Alike ms ns j →
      change_before ms part n settled other j ≡ change_before ns part n settled other j
  unfolding change_before
  change_alike part n settled other zero same = refl
  change_alike part n settled other (suc j) same =
      let rest = change_alike part n settled other j (fewer j (suc j) (omega arith) same) in
      λ t.
      let m = same j (omega arith) t in
      cond (is_done_by 8 n m) other (cond (is_done_by part n m) (Set j settled) (rest t))

  pub origin_alike :
      (part : ℕ) (back : Bool) (j : ℕ) → Alike ms ns j → origin_before ms part back j ≡ origin_before ns part back j
  unfolding origin_before
  origin_alike part back zero same = refl
  origin_alike part back (suc j) same =
      let less = fewer j (suc j) (omega arith) same in
      let d = mark_desk (mark_at ns j) in
      let none = origin_alike part false j less in
      let change =
      change_alike part d j (origin_before ms part false j) j less
      ∙ ap (λ (o : Origin). change_before ns part d j o j) none in
      (λ t.
      let m = same j (omega arith) t in
      cond (is_done 11 m) (origin_before ms part true j)
      (cond (is_done 9 m)
      (cond back (origin_before ms part false j) (change_before ms part (mark_desk m) j (origin_before ms part false j) j))
      (origin_before ms part back j)))
      ∙ (λ t.
      let m = mark_at ns j in
      cond (is_done 11 m) (origin_alike part true j less t)
      (cond (is_done 9 m) (cond back (none t) (change t)) (origin_alike part back j less t)))

  -- ---- forwards

  settled_alike :
      (settled at k : ℕ) → Alike ms ns (at + k) → settled_from ms settled at k ≡ settled_from ns settled at k
  unfolding settled_from
  settled_alike settled at zero same = refl
  settled_alike settled at (suc k) same =
      let rest = settled_alike settled (suc at) k (fewer (suc at + k) (at + suc k) (omega arith) same) in
      λ t.
      let m = same at (omega arith) t in
      cond (is_done 9 m) (Stands settled) (cond (is_done 11 m) (TakenBack settled at) (rest t))

  pub fate_alike : (n at k : ℕ) → Alike ms ns (at + k) → fate_from ms n at k ≡ fate_from ns n at k
  unfolding fate_from
  fate_alike n at zero same = refl
  fate_alike n at (suc k) same =
      let less = fewer (suc at + k) (at + suc k) (omega arith) same in
      let settled = settled_alike at (suc at) k less in
      let rest = fate_alike n (suc at) k less in
      λ t.
      let m = same at (omega arith) t in
      cond (is_done_by 10 n m) (Cancelled at) (cond (is_done_by 9 n m) (settled t) (rest t))

  pub refused_alike :
      (n : ℕ) (last : Option ℕ) (at k : ℕ) → Alike ms ns (at + k) →
      refused_from ms n last at k ≡ refused_from ns n last at k
  unfolding refused_from
  refused_alike n last at zero same = refl
  refused_alike n last at (suc k) same =
      let less = fewer (suc at + k) (at + suc k) (omega arith) same in
      (λ t.
      let m = same at (omega arith) t in
      cond (is_done_by 10 n m || is_done_by 9 n m) last
      (refused_from ms n (cond (is_refused_commit n m) (Some at) last) (suc at) k))
      ∙ (λ t.
      let m = mark_at ns at in
      cond (is_done_by 10 n m || is_done_by 9 n m) last
      (refused_alike n (cond (is_refused_commit n m) (Some at) last) (suc at) k less t))

  -- ---- the places kept

  own_alike : (n j : ℕ) → Alike ms ns j → own_places ms n j ≡ own_places ns n j
  unfolding own_places
  own_alike n zero same = refl
  own_alike n (suc j) same =
      let rest = own_alike n j (fewer j (suc j) (omega arith) same) in
      λ t.
      let m = same j (omega arith) t in
      cond (is_done_by 8 n m) (j ∷ []) (cond (is_own_mark n m) (rest t ++ (j ∷ [])) (rest t))

  kept_at_alike : (j : ℕ) → Alike ms ns (suc j) → kept_at ms j ≡ kept_at ns j
  unfolding kept_at
  kept_at_alike j same =
      let less = fewer j (suc j) (omega arith) same in
      let own = own_alike (mark_desk (mark_at ns j)) j less in
      (λ t.
      let m = same j (omega arith) t in
      cond (is_done 9 m) (own_places ms (mark_desk m) j ++ (j ∷ []))
      (cond (is_done 11 m || (eqb (mark_sort m) 12 && eqb (mark_desk m) 0)) (j ∷ []) []))
      ∙ (λ t.
      let m = mark_at ns j in
      cond (is_done 9 m) (own t ++ (j ∷ []))
      (cond (is_done 11 m || (eqb (mark_sort m) 12 && eqb (mark_desk m) 0)) (j ∷ []) []))

  pub kept_alike : (j : ℕ) → Alike ms ns j → kept_places ms j ≡ kept_places ns j
  unfolding kept_places
  kept_alike zero same = refl
  kept_alike (suc j) same =
      λ t. kept_alike j (fewer j (suc j) (omega arith) same) t ++ kept_at_alike j same t
