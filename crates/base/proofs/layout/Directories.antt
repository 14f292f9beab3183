-- The year file's directory: a pair's rules by the tests that the code makes; what is left of the
-- check after k pairs is the whole check; and the part of a pair, by whether it is within the file.
-- Assumes nothing.
use Rattle.std.proofs.Common.{◌≡◌, ℕ, suc, ◌+◌, ◌-◌, ◌*◌, ◌<◌, ◌≤◌, Bool, true, false, ◌&&◌, ◌||◌, eqb, ltb, leb, List, length, sym, refl, ap, ◌∙◌, add-one, arith, le-ltb, lt-ltb, eqb-true, le-leb, leb-true, Err, Ok}
use borrow.Author.Tests.{lt-leb}
use Rattle.base.specs.declared.refusal.Refusal.TheVariants.{Year}
use Rattle.base.specs.Ranges.{is_month, is_bit}
use Rattle.base.specs.MonthFile.{empty_part}
use Rattle.base.specs.Year.{offset_at, length_at, end_at, is_there, floor_at, is_after, keeps_rules, pairs_check, year_check, pair_part, year_month, year_model}
use Rattle.base.proofs.verdicts.Picks.{cond_true, cond_false, never}

-- ---- the rules of a pair, test by test

module _ (s : List ℕ) (k : ℕ) where
  by_tests : {a b c d : Bool} → is_there s k ≡ a → is_after s k ≡ b → ltb k 13 ≡ c → leb (end_at s k) (length s) ≡ d
      → keeps_rules s k ≡ (a && (b && (c || d)))
  unfolding keeps_rules
  by_tests p q r u = λ t. p t && (q t && (r t || u t))

  pub rule_cut : length s < 8 * k + 8 → false ≡ keeps_rules s k
  rule_cut h = sym (by_tests (lt-leb (8 * k + 8) (length s) h) refl refl refl)

  module _ (there : 8 * k + 8 ≤ length s) where
    pub rule_early : offset_at s k < floor_at s k → false ≡ keeps_rules s k
    rule_early h = sym (by_tests (le-leb (8 * k + 8) (length s) there) (lt-leb (floor_at s k) (offset_at s k) h) refl refl)

    pub rule_kept : floor_at s k ≤ offset_at s k → k < 13 → true ≡ keeps_rules s k
    rule_kept h l =
        sym (by_tests (le-leb (8 * k + 8) (length s) there) (le-leb (floor_at s k) (offset_at s k) h) (lt-ltb k 13 l) refl)

    pub rule_last : floor_at s k ≤ offset_at s k → 13 ≤ k → leb (end_at s k) (length s) ≡ keeps_rules s k
    rule_last h l =
        sym (by_tests (le-leb (8 * k + 8) (length s) there) (le-leb (floor_at s k) (offset_at s k) h) (le-ltb k 13 l) refl)

-- ---- the check

module _ (s : List ℕ) where
  -- the first k pairs keep their rules: what is left is the whole
  pub record Passed (k : ℕ) : Type 0 where
    pub most : k ≤ 14
    pub rest : pairs_check s k (14 - k) ≡ year_check s

  pub first : Passed 0
  unfolding year_check
  first = record { most = omega arith; rest = refl }

  module _ (k : ℕ) (h : Passed k) (l : k < 14) where
    one_left : 14 - k ≡ suc (14 - (k + 1))
    one_left = let e : 14 - k ≡ 14 - (k + 1) + 1 = omega arith in e ∙ add-one (14 - (k + 1))

    pub next : keeps_rules s k ≡ true → Passed (k + 1)
    unfolding pairs_check
    next g = record { most = omega arith; rest = sym (ap (pairs_check s k) one_left ∙ cond_true _ _ g) ∙ h.rest }

    pub broken : keeps_rules s k ≡ false → Err (Year (k + 1)) ≡ year_check s
    unfolding pairs_check
    broken g = sym (ap (pairs_check s k) one_left ∙ cond_false _ _ g) ∙ h.rest

  pub done : (k : ℕ) → Passed k → 14 ≤ k → Ok tt ≡ year_check s
  unfolding pairs_check
  done k h l = let e : 14 - k ≡ 0 = omega arith in sym (ap (pairs_check s k) e) ∙ h.rest

-- ---- the part of a pair

module _ (s : List ℕ) (k : ℕ) where
  inside : {a b : Bool} → is_there s k ≡ a → leb (end_at s k) (length s) ≡ b → (is_there s k && leb (end_at s k) (length s)) ≡ (a && b)
  inside p q = λ t. p t && q t

  pub part_there : 8 * k + 8 ≤ length s → end_at s k ≤ length s → pair_part s k ≡ record { from = offset_at s k; size = length_at s k }
  unfolding pair_part
  part_there h l = cond_true _ _ (inside (le-leb _ _ h) (le-leb _ _ l))

  pub part_cut : length s < 8 * k + 8 → pair_part s k ≡ empty_part
  unfolding pair_part
  part_cut h = cond_false _ _ (inside {b = leb (end_at s k) (length s)} (lt-leb _ _ h) refl)

  pub part_beyond : 8 * k + 8 ≤ length s → length s < end_at s k → pair_part s k ≡ empty_part
  unfolding pair_part
  part_beyond h l = cond_false _ _ (inside (le-leb _ _ h) (lt-leb _ _ l))

-- ---- a month's and a model's

pub month_known : (m : ℕ) → is_month m ≡ true → (1 ≤ m) × (m ≤ 12)
month_known m e = go (leb 1 m) (leb m 12) (leb-true 1 m) (leb-true m 12) e
  where
    go : (a b : Bool) → (a ≡ true → 1 ≤ m) → (b ≡ true → m ≤ 12) → (a && b) ≡ true → (1 ≤ m) × (m ≤ 12)
    go true true f g e = (f refl, g refl)
    go true false f g e = never e
    go false b f g e = never e

pub bit_known : (m : ℕ) → is_bit m ≡ true → m ≤ 1
bit_known m e = go (eqb m 0) (eqb m 1) (eqb-true m 0) (eqb-true m 1) e
  where
    go : (a b : Bool) → (a ≡ true → m ≡ 0) → (b ≡ true → m ≡ 1) → (a || b) ≡ true → m ≤ 1
    go true b f g e = omega (arith, f refl)
    go false true f g e = omega (arith, g refl)
    go false false f g e = never e

module _ (s : List ℕ) (m : ℕ) where
  pub month_part_is : is_month m ≡ true → year_month s m ≡ pair_part s (m - 1)
  unfolding year_month
  month_part_is e = cond_true _ _ e

  pub no_month : is_month m ≡ false → year_month s m ≡ empty_part
  unfolding year_month
  no_month e = cond_false _ _ e

  pub model_part_is : is_bit m ≡ true → year_model s m ≡ pair_part s (12 + m)
  unfolding year_model
  model_part_is e = cond_true _ _ e

  pub no_model : is_bit m ≡ false → year_model s m ≡ empty_part
  unfolding year_model
  no_model e = cond_false _ _ e
