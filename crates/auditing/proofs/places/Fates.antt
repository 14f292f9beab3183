-- The fate of a draft, and where its commit was refused, a call at a time from the first to the last:
-- one call decides, or those after it do. Assumes nothing.
use Rattle.std.proofs.Common.{Option, Some, ℕ, suc, ◌+◌, ◌-◌, ◌<◌, ◌≤◌, cond, ◌||◌, List, ◌≡◌, sym, ap, ◌∙◌, arith, add-one}
use Rattle.auditing.specs.declared.marks.Fate.TheVariants.{Stands, TakenBack, Cancelled, Never}
use Rattle.auditing.specs.Marks.{is_done, is_done_by, is_refused_commit, mark_at, settled_from, fate_from, refused_from}

-- how many calls are left from place k on
pub left_next : (k count : ℕ) → k < count → count - k ≡ suc (count - (k + 1))
left_next k count h = omega arith

pub left_none : (k count : ℕ) → count ≤ k → count - k ≡ 0
left_none k count h = omega arith

-- one call more, by the mark m of the call at place k
module _ (ms : List ℕ) (k count m : ℕ) (h : k < count) (e : m ≡ mark_at ms k) where
  pub settled_next :
      (settled : ℕ) →
      settled_from ms settled k (count - k)
      ≡ cond (is_done 9 m) (Stands settled)
      (cond (is_done 11 m) (TakenBack settled k) (settled_from ms settled (k + 1) (count - (k + 1))))
  unfolding settled_from
  settled_next settled =
      let p = sym e in
      let q = sym (add-one k) in
      ap (settled_from ms settled k) (left_next k count h)
      ∙ (λ t. cond (is_done 9 (p t)) (Stands settled) (cond (is_done 11 (p t)) (TakenBack settled k) (settled_from ms settled (q t) (count - (k + 1)))))

  pub fate_next :
      (n : ℕ) →
      fate_from ms n k (count - k)
      ≡ cond (is_done_by 10 n m) (Cancelled k)
      (cond (is_done_by 9 n m) (settled_from ms k (k + 1) (count - (k + 1))) (fate_from ms n (k + 1) (count - (k + 1))))
  unfolding fate_from
  fate_next n =
      let p = sym e in
      let q = sym (add-one k) in
      ap (fate_from ms n k) (left_next k count h)
      ∙ (λ t.
      cond (is_done_by 10 n (p t)) (Cancelled k)
      (cond (is_done_by 9 n (p t)) (settled_from ms k (q t) (count - (k + 1))) (fate_from ms n (q t) (count - (k + 1)))))

  pub refused_next :
      (n : ℕ) (last : Option ℕ) →
      refused_from ms n last k (count - k)
      ≡ cond (is_done_by 10 n m || is_done_by 9 n m) last
      (refused_from ms n (cond (is_refused_commit n m) (Some k) last) (k + 1) (count - (k + 1)))
  unfolding refused_from
  refused_next n last =
      let p = sym e in
      let q = sym (add-one k) in
      ap (refused_from ms n last k) (left_next k count h)
      ∙ (λ t.
      cond (is_done_by 10 n (p t) || is_done_by 9 n (p t)) last
      (refused_from ms n (cond (is_refused_commit n (p t)) (Some k) last) (q t) (count - (k + 1))))

-- no call is left
module _ (ms : List ℕ) (k count : ℕ) (h : count ≤ k) where
  pub settled_end : (settled : ℕ) → settled_from ms settled k (count - k) ≡ Stands settled
  unfolding settled_from
  settled_end settled = ap (settled_from ms settled k) (left_none k count h)

  pub fate_end : (n : ℕ) → fate_from ms n k (count - k) ≡ Never
  unfolding fate_from
  fate_end n = ap (fate_from ms n k) (left_none k count h)

  pub refused_end : (n : ℕ) (last : Option ℕ) → refused_from ms n last k (count - k) ≡ last
  unfolding refused_from
  refused_end n last = ap (refused_from ms n last k) (left_none k count h)
