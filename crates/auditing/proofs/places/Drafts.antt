-- A draft's own places from its begin on, upwards: on the way down from a commit to the begin, each
-- call is put before those after it. Assumes nothing.
use Rattle.std.proofs.Common.{ℕ, suc, ◌-◌, ◌<◌, ◌≤◌, Bool, true, false, cond, ◌||◌, List, [], ◌∷◌, ◌++◌, append_assoc, append-nil, ◌≡◌, refl, sym, ap, subst, ◌∙◌, arith}
use Rattle.base.proofs.verdicts.Picks.{never, never'}
use Rattle.auditing.specs.Marks.{is_done_by, is_own_mark, mark_at, own_places, draft_places}
use Rattle.auditing.proofs.places.Origins.{down, start}

-- one call more, by what it is: on top of the places before it, or in front of those after it
abbrev own : Bool → Bool → ℕ → List ℕ → List ℕ
own begun belongs k before = cond begun (k ∷ []) (cond belongs (before ++ (k ∷ [])) before)

abbrev drafts : Bool → Bool → ℕ → List ℕ → List ℕ
drafts begun belongs k after = cond (begun || belongs) (k ∷ after) after

own_begun : (begun belongs : Bool) (k : ℕ) (before after : List ℕ) → begun ≡ true → own begun belongs k before ++ after ≡ drafts begun belongs k after
own_begun true belongs k before after e = refl
own_begun false belongs k before after e = never e

own_on :
    (begun belongs : Bool) (k : ℕ) (before after : List ℕ) → begun ≡ false →
    own begun belongs k before ++ after ≡ before ++ drafts begun belongs k after
own_on true belongs k before after e = never' e
own_on false true k before after e = append_assoc before (k ∷ []) after
own_on false false k before after e = refl

-- the own places before place j are those before place k, and all of drafts from k to j
pub record Since (ms : List ℕ) (n j k : ℕ) : Type 0 where
  pub within : k ≤ j
  pub same : own_places ms n j ≡ own_places ms n k ++ draft_places ms n k (j - k)

module _ (ms : List ℕ) (n j : ℕ) where
  drafts_next :
      (k : ℕ) → k < j →
      draft_places ms n k (j - k) ≡ drafts (is_done_by 8 n (mark_at ms k)) (is_own_mark n (mark_at ms k)) k (draft_places ms n (suc k) (j - suc k))
  unfolding draft_places
  drafts_next k h = let z : j - k ≡ suc (j - suc k) = omega arith in ap (draft_places ms n k) z

  begun_at : (k : ℕ) → is_done_by 8 n (mark_at ms k) ≡ true → Since ms n j (suc k) → own_places ms n j ≡ draft_places ms n k (j - k)
  unfolding own_places
  begun_at k e s =
      s.same
      ∙ own_begun (is_done_by 8 n (mark_at ms k)) (is_own_mark n (mark_at ms k)) k (own_places ms n k) (draft_places ms n (suc k) (j - suc k)) e
      ∙ sym (drafts_next k s.within)

  on_at : (k : ℕ) → is_done_by 8 n (mark_at ms k) ≡ false → Since ms n j (suc k) → Since ms n j k
  unfolding own_places
  on_at k e s =
      let h = s.within in
      record {
        within = omega arith;
        same =
            s.same
            ∙ own_on (is_done_by 8 n (mark_at ms k)) (is_own_mark n (mark_at ms k)) k (own_places ms n k) (draft_places ms n (suc k) (j - suc k)) e
            ∙ ap (λ (l : List ℕ). own_places ms n k ++ l) (sym (drafts_next k h));
      }

  pub since_all : Since ms n j j
  unfolding draft_places
  since_all =
      let z : 0 ≡ j - j = omega arith in
      record {
        within = omega arith;
        same = sym (append-nil (own_places ms n j)) ∙ ap (λ (i : ℕ). own_places ms n j ++ draft_places ms n j i) z;
      }

  -- downwards from place k, by the mark m of the call before it: a begin, another call, none
  pub since_begun :
      (k m : ℕ) → 0 < k → m ≡ mark_at ms (k - 1) → is_done_by 8 n m ≡ true → Since ms n j k →
      own_places ms n j ≡ draft_places ms n (k - 1) (j - (k - 1))
  since_begun k m h e t s =
      begun_at (k - 1) (ap (is_done_by 8 n) (sym e) ∙ t) (subst (Since ms n j) (down k h) s)

  pub since_on : (k m : ℕ) → 0 < k → m ≡ mark_at ms (k - 1) → is_done_by 8 n m ≡ false → Since ms n j k → Since ms n j (k - 1)
  since_on k m h e t s = on_at (k - 1) (ap (is_done_by 8 n) (sym e) ∙ t) (subst (Since ms n j) (down k h) s)

  pub since_start : (k : ℕ) → k ≤ 0 → Since ms n j k → own_places ms n j ≡ draft_places ms n 0 (j - 0)
  unfolding own_places
  since_start k h s = (subst (Since ms n j) (start k h) s).same
