-- Legendre's functions as magnetic.rs has them: the recurrences of a textbook, the first values,
-- the zeros for m above n, and that the constants of the recurrence have Gauss's digits to less
-- than a unit of the eighth. By the clauses of `p_of` and `dp_of`. Assumes nothing.
use Rattle.std.proofs.Common.{◌≡◌, ℕ, zero, suc, ◌+◌, ◌-◌, ◌*◌, ◌^◌, ◌<◌, ◌≤◌, refl, ◌∙◌, arith, lit<, eq-eqb, ne_eqb, le-leb, Float}
use lib.Ieee.{neg, round}
use borrow.Author.Tests.{lt-leb}
use Rattle.base.specs.Single.{◌⊕◌, ◌⊖◌, ◌⊗◌, decimal}
use Rattle.base.proofs.verdicts.Picks.{cond_true, cond_false}
use Rattle.maps.specs.Magnetic.{o, CT, entry, p_of, dp_of}

module _ (c s : Float) where
  -- ---- the recurrences

  -- P(n, n) = s P(n - 1, n - 1)
  pub p_diagonal : (n : ℕ) → p_of c s (suc n) (suc n) ≡ s ⊗ p_of c s n n
  unfolding p_of
  p_diagonal zero = refl
  p_diagonal (suc n) =
      cond_false _ _ (lt-leb (suc (suc n)) (suc n) (omega arith)) ∙ cond_true _ _ (eq-eqb (suc (suc n)) (suc (suc n)) refl)

  -- its derivative
  pub dp_diagonal : (n : ℕ) → dp_of c s (suc n) (suc n) ≡ s ⊗ dp_of c s n n ⊕ c ⊗ p_of c s n n
  unfolding p_of dp_of
  dp_diagonal zero = refl
  dp_diagonal (suc n) =
      cond_false _ _ (lt-leb (suc (suc n)) (suc n) (omega arith)) ∙ cond_true _ _ (eq-eqb (suc (suc n)) (suc (suc n)) refl)

  -- P(n, m) = c P(n - 1, m) - CT(n, m) P(n - 2, m), for m below n
  pub p_below :
      (n m : ℕ) → m ≤ suc n →
      p_of c s (suc (suc n)) m ≡ c ⊗ p_of c s (suc n) m ⊖ entry CT (suc (suc n)) m ⊗ p_of c s n m
  unfolding p_of
  p_below n m h = cond_true _ _ (le-leb m (suc n) h)

  -- its derivative
  pub dp_below :
      (n m : ℕ) → m ≤ suc n →
      dp_of c s (suc (suc n)) m ≡ c ⊗ dp_of c s (suc n) m ⊖ s ⊗ p_of c s (suc n) m ⊖ entry CT (suc (suc n)) m ⊗ dp_of c s n m
  unfolding dp_of
  dp_below n m h = cond_true _ _ (le-leb m (suc n) h)

  -- both are 0 for m above n
  pub p_above : (n m : ℕ) → n < m → p_of c s n m ≡ o
  unfolding p_of
  p_above zero m h = cond_false _ _ (ne_eqb m 0 (λ e. omega arith))
  p_above (suc zero) m h = cond_false _ _ (ne_eqb m 0 (λ e. omega arith)) ∙ cond_false _ _ (ne_eqb m 1 (λ e. omega arith))
  p_above (suc (suc n)) m h =
      cond_false _ _ (lt-leb m (suc n) (omega arith)) ∙ cond_false _ _ (ne_eqb m (suc (suc n)) (λ e. omega arith))

  pub dp_above : (n m : ℕ) → n < m → dp_of c s n m ≡ o
  unfolding dp_of
  dp_above zero m h = refl
  dp_above (suc zero) m h = cond_false _ _ (ne_eqb m 0 (λ e. omega arith)) ∙ cond_false _ _ (ne_eqb m 1 (λ e. omega arith))
  dp_above (suc (suc n)) m h =
      cond_false _ _ (lt-leb m (suc n) (omega arith)) ∙ cond_false _ _ (ne_eqb m (suc (suc n)) (λ e. omega arith))

  -- ---- the first values

  -- P(0, 0) = 1, P(1, 0) = cos, P(1, 1) = sin
  pub p_0_0 : p_of c s 0 0 ≡ decimal 10 1
  unfolding p_of
  p_0_0 = refl

  pub p_1_0 : p_of c s 1 0 ≡ c
  unfolding p_of
  p_1_0 = refl

  pub p_1_1 : p_of c s 1 1 ≡ s ⊗ decimal 10 1
  unfolding p_of
  p_1_1 = refl

  -- P(2, 0) = cos² - 1/3, P(2, 1) = cos sin, P(2, 2) = sin²
  pub p_2_0 : p_of c s 2 0 ≡ c ⊗ c ⊖ decimal 33333333 8 ⊗ decimal 10 1
  unfolding p_of CT
  p_2_0 = refl

  pub p_2_1 : p_of c s 2 1 ≡ c ⊗ (s ⊗ decimal 10 1) ⊖ o ⊗ o
  unfolding p_of CT
  p_2_1 = refl

  pub p_2_2 : p_of c s 2 2 ≡ s ⊗ (s ⊗ decimal 10 1)
  unfolding p_of
  p_2_2 = refl

  -- P'(1, 0) = -sin, P'(1, 1) = cos, P'(2, 0) = -2 cos sin
  pub dp_1_0 : dp_of c s 1 0 ≡ neg s
  unfolding dp_of
  dp_1_0 = refl

  pub dp_1_1 : dp_of c s 1 1 ≡ s ⊗ o ⊕ c ⊗ decimal 10 1
  unfolding p_of dp_of
  dp_1_1 = refl

  pub dp_2_0 : dp_of c s 2 0 ≡ c ⊗ neg s ⊖ s ⊗ c ⊖ decimal 33333333 8 ⊗ o
  unfolding p_of dp_of CT
  dp_2_0 = refl

-- ---- the constants

-- Gauss's recurrence takes P(n - 2, m) times ((n - 1)² - m²) / ((2 n - 1) (2 n - 3)); CT(n, m) is
-- the f32 nearest to a decimal of eight digits that is less than one unit of the eighth from it
pub record Gauss (n m : ℕ) : Type 0 where
  pub digits : ℕ
  pub value : entry CT n m ≡ decimal digits 8
  pub low : 10 ^ 8 * ((n - 1) * (n - 1) - m * m) < (digits + 1) * ((2 * n - 1) * (2 * n - 3))
  pub high : digits * ((2 * n - 1) * (2 * n - 3)) < 10 ^ 8 * ((n - 1) * (n - 1) - m * m) + (2 * n - 1) * (2 * n - 3)

ct_2 : (m : ℕ) → m < 2 → Gauss 2 m
unfolding CT o decimal round
ct_2 zero h = record { digits = 33333333; value = refl; low = lit< tt; high = lit< tt }
ct_2 (suc zero) h = record { digits = 0; value = refl; low = lit< tt; high = lit< tt }
ct_2 (suc (suc m)) h = absurd (omega arith)

ct_3 : (m : ℕ) → m < 3 → Gauss 3 m
unfolding CT o decimal round
ct_3 zero h = record { digits = 26666667; value = refl; low = lit< tt; high = lit< tt }
ct_3 (suc zero) h = record { digits = 20000000; value = refl; low = lit< tt; high = lit< tt }
ct_3 (suc (suc zero)) h = record { digits = 0; value = refl; low = lit< tt; high = lit< tt }
ct_3 (suc (suc (suc m))) h = absurd (omega arith)

ct_4 : (m : ℕ) → m < 4 → Gauss 4 m
unfolding CT o decimal round
ct_4 zero h = record { digits = 25714286; value = refl; low = lit< tt; high = lit< tt }
ct_4 (suc zero) h = record { digits = 22857142; value = refl; low = lit< tt; high = lit< tt }
ct_4 (suc (suc zero)) h = record { digits = 14285714; value = refl; low = lit< tt; high = lit< tt }
ct_4 (suc (suc (suc zero))) h = record { digits = 0; value = refl; low = lit< tt; high = lit< tt }
ct_4 (suc (suc (suc (suc m)))) h = absurd (omega arith)

ct_5 : (m : ℕ) → m < 5 → Gauss 5 m
unfolding CT o decimal round
ct_5 zero h = record { digits = 25396825; value = refl; low = lit< tt; high = lit< tt }
ct_5 (suc zero) h = record { digits = 23809523; value = refl; low = lit< tt; high = lit< tt }
ct_5 (suc (suc zero)) h = record { digits = 19047619; value = refl; low = lit< tt; high = lit< tt }
ct_5 (suc (suc (suc zero))) h = record { digits = 11111111; value = refl; low = lit< tt; high = lit< tt }
ct_5 (suc (suc (suc (suc zero)))) h = record { digits = 0; value = refl; low = lit< tt; high = lit< tt }
ct_5 (suc (suc (suc (suc (suc m))))) h = absurd (omega arith)

ct_6 : (m : ℕ) → m < 6 → Gauss 6 m
unfolding CT o decimal round
ct_6 zero h = record { digits = 25252525; value = refl; low = lit< tt; high = lit< tt }
ct_6 (suc zero) h = record { digits = 24242424; value = refl; low = lit< tt; high = lit< tt }
ct_6 (suc (suc zero)) h = record { digits = 21212121; value = refl; low = lit< tt; high = lit< tt }
ct_6 (suc (suc (suc zero))) h = record { digits = 16161616; value = refl; low = lit< tt; high = lit< tt }
ct_6 (suc (suc (suc (suc zero)))) h = record { digits = 9090909; value = refl; low = lit< tt; high = lit< tt }
ct_6 (suc (suc (suc (suc (suc zero))))) h = record { digits = 0; value = refl; low = lit< tt; high = lit< tt }
ct_6 (suc (suc (suc (suc (suc (suc m)))))) h = absurd (omega arith)

pub ct_gauss : (n m : ℕ) → 2 ≤ n → n ≤ 6 → m < n → Gauss n m
ct_gauss zero m a b h = absurd (omega arith)
ct_gauss (suc zero) m a b h = absurd (omega arith)
ct_gauss (suc (suc zero)) m a b h = ct_2 m h
ct_gauss (suc (suc (suc zero))) m a b h = ct_3 m h
ct_gauss (suc (suc (suc (suc zero)))) m a b h = ct_4 m h
ct_gauss (suc (suc (suc (suc (suc zero))))) m a b h = ct_5 m h
ct_gauss (suc (suc (suc (suc (suc (suc zero)))))) m a b h = ct_6 m h
ct_gauss (suc (suc (suc (suc (suc (suc (suc n))))))) m a b h = absurd (omega arith)
