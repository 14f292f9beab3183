-- `closest m d` without a branch, for an even d: half of d less one is added before the division,
-- and one more where the quotient is odd. Assumes nothing.
use Rattle.std.proofs.Common.{◌≡◌, ℕ, suc, ◌+◌, ◌-◌, ◌*◌, ◌/◌, ◌%◌, ◌^◌, ◌<◌, ◌≤◌, not, T, ◌⊎◌, sym, refl, ap, ◌∙◌, subst, inl, inr, le_of_suc-le-suc, le_of_lt, lt_irrefl, mod-lt, mod-eq_of_lt, suc-mul, mul_comm, div-lt_iff_lt-mul, le_antisymm, one-mul, pow-suc, div-add-mod', le-div_iff_mul-le, add-one, arith, le→leb, eqb→eq, pow_pos}
use Prim.Native.Nat.{compare, Ordering}
use native.Mathlib.Decide.{dec_lt}
use lib.Dec.{is_le, compare_is_eq}
use lib.Arith.{lt→nleb}
use lib.Pow.{pow-lt}
use lib.Ieee.{nearest}
use lib.Ieee.Fits.{eq→eqb}
use lib.Ieee.Nearest.{closest}

-- ---- `nearest` by an order
module _ (q a b : ℕ) where
  pub nearest_below : a < b → nearest q (compare a b) ≡ q
  nearest_below h = go (compare a b) (le→leb a b (le_of_lt h)) (λ (t : T (compare_is_eq (compare a b))). lt_irrefl b (subst (λ (x : ℕ). x < b) (eqb→eq a b t) h))
    where
      go : (o : Ordering) → T (is_le o) → (T (compare_is_eq o) → ⊥) → nearest q o ≡ q
      go Ordering.lt t n = refl
      go Ordering.eq t n = absurd (n tt)
      go Ordering.gt t n = absurd t

  pub nearest_at : a ≡ b → nearest q (compare a b) ≡ q + q % 2
  nearest_at e = go (compare a b) (eq→eqb e)
    where
      go : (o : Ordering) → T (compare_is_eq o) → nearest q o ≡ q + q % 2
      go Ordering.lt t = absurd t
      go Ordering.eq t = refl
      go Ordering.gt t = absurd t

  pub nearest_above : b < a → nearest q (compare a b) ≡ q + 1
  nearest_above h = go (compare a b) (lt→nleb a b h)
    where
      go : (o : Ordering) → T (not (is_le o)) → nearest q o ≡ q + 1
      go Ordering.lt t = absurd t
      go Ordering.eq t = absurd t
      go Ordering.gt t = sym (add-one q)

-- ---- the quotient of a sum
pub quotient_is : (x d k : ℕ) → 0 < d → k * d ≤ x → x < suc k * d → x / d ≡ k
quotient_is x d k D lo hi = le_antisymm (le_of_suc-le-suc ((div-lt_iff_lt-mul D).1 hi)) ((le-div_iff_mul-le D).1 lo)

-- ---- with d = 2 * h: h - 1 is added, and one more where the quotient is odd
module _ (m h d : ℕ) (H : 0 < h) (e : d ≡ 2 * h) where
  abbrev q : ℕ
  q = m / d

  whole : q * d + m % d ≡ m
  whole = div-add-mod' m d

  rest_lt : m % d < d
  rest_lt = mod-lt m (omega arith)

  next : suc q * d ≡ q * d + d
  next = suc-mul q d

  after : suc (suc q) * d ≡ q * d + d + d
  after = suc-mul (suc q) d ∙ ap (λ (x : ℕ). x + d) next

  stays : m + (h - 1) + q % 2 < q * d + d → (m + (h - 1) + q % 2) / d ≡ q
  stays l = quotient_is (m + (h - 1) + q % 2) d q (omega arith) (omega (arith, whole)) (omega (arith, next))

  moves : q * d + d ≤ m + (h - 1) + q % 2 → (m + (h - 1) + q % 2) / d ≡ q + 1
  moves l = quotient_is (m + (h - 1) + q % 2) d (suc q) (omega arith) (omega (arith, next)) (omega (arith, whole, rest_lt, after)) ∙ sym (add-one q)

  at_half : (q % 2 ≡ 0) ⊎ (q % 2 ≡ 1) → m % d * 2 ≡ d → (m + (h - 1) + q % 2) / d ≡ q + q % 2
  at_half (inl z) t = stays (omega (arith, whole)) ∙ omega arith
  at_half (inr z) t = moves (omega (arith, whole)) ∙ omega arith

  pub half_up : (m + (h - 1) + q % 2) / d ≡ closest m d
  half_up = elim (dec_lt (m % d * 2) d) [
    | yes l ↦ stays (omega (arith, whole)) ∙ sym (nearest_below q (m % d * 2) d l)
    | no l ↦ elim (dec_lt d (m % d * 2)) [
      | yes g ↦ moves (omega (arith, whole)) ∙ sym (nearest_above q (m % d * 2) d g)
      | no g ↦ (let t : m % d * 2 ≡ d = omega arith in at_half (parity q) t ∙ sym (nearest_at q (m % d * 2) d t))
    ]
  ]
    where
      parity : (k : ℕ) → (k % 2 ≡ 0) ⊎ (k % 2 ≡ 1)
      parity k = elim (dec_lt (k % 2) 1) [ yes l ↦ inl (omega arith) | no l ↦ inr (omega arith) ]

-- ---- half of 2 ^ n, as the shift of a `u64` gives it
abbrev pub half_of : ℕ → ℕ
half_of n = 1 * 2 ^ (n - 1) % 2 ^ 64

module _ (n : ℕ) (N : 0 < n) (W : n < 64) where
  half_is : half_of n ≡ 2 ^ (n - 1)
  half_is = ap (λ (x : ℕ). x % 2 ^ 64) (one-mul (2 ^ (n - 1))) ∙ mod-eq_of_lt (pow-lt {i = n - 1} {j = 64} (omega arith))

  pub half_pos : 0 < half_of n
  half_pos = rw half_is (pow_pos (n - 1))

  pub half_twice : 2 ^ n ≡ 2 * half_of n
  half_twice =
      let e : n ≡ suc (n - 1) = omega arith in
      ap (λ (k : ℕ). 2 ^ k) e ∙ pow-suc 2 (n - 1) ∙ ap (λ (x : ℕ). x * 2) (sym half_is) ∙ mul_comm (half_of n) 2
