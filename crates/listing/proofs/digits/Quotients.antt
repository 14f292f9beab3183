-- Quotients by powers, one factor at a time, and quotients to the nearest, which are those of the
-- fraction however it is written. Assumes nothing.
use Rattle.std.proofs.Common.{◌≡◌, sym, ap, ◌∙◌, ℕ, suc, ◌+◌, ◌-◌, ◌*◌, ◌/◌, ◌%◌, ◌^◌, ◌<◌, pow-suc, div-one, mul_comm, mul_assoc, add-mul, mul-lt-mul_of_pos_right, lt_of_mul-lt-mul_right, add-one, arith, pow_pos}
use native.Mathlib.Nat.{pow-zero, pow-succ', div-div-eq-div-mul, add-div_right, mul-div-mul_left, mul-div-mul_right}
use Rattle.listing.specs.Decimal.{nearest_of}

pub by_none : (n b : ℕ) → n / b ^ 0 ≡ n
by_none n b = ap (λ (x : ℕ). n / x) (pow-zero b) ∙ div-one n

pub by_one_more : (n b k : ℕ) → n / b ^ k / b ≡ n / b ^ (k + 1)
by_one_more n b k =
    div-div-eq-div-mul n (b ^ k) b
    ∙ ap (λ (x : ℕ). n / x) (sym (pow-suc b k))
    ∙ ap (λ (i : ℕ). n / b ^ i) (sym (add-one k))

pub by_one_fewer : (n b k : ℕ) → 0 < k → n / b / b ^ (k - 1) ≡ n / b ^ k
by_one_fewer n b k h =
    let e : suc (k - 1) ≡ k = omega arith in
    div-div-eq-div-mul n b (b ^ (k - 1)) ∙ ap (λ (x : ℕ). n / x) (sym (pow-succ' b (k - 1))) ∙ ap (λ (i : ℕ). n / b ^ i) e

-- ---- to the nearest

pub nearest_none : (n : ℕ) → nearest_of n (2 ^ 0) ≡ n
unfolding nearest_of
nearest_none n = omega arith

-- half a number, to the nearest
half : (h : ℕ) → h / 2 + h % 2 ≡ (h + 1) / 2
half h = omega arith

pub to_nearest : (n s : ℕ) → 0 < s → n / 2 ^ (s - 1) / 2 + n / 2 ^ (s - 1) % 2 ≡ nearest_of n (2 ^ s)
unfolding nearest_of
to_nearest n s h =
    let p = 2 ^ (s - 1) in
    let e : suc (s - 1) ≡ s = omega arith in
    let q : p * 2 ≡ 2 ^ s = sym (pow-suc 2 (s - 1)) ∙ ap (λ (i : ℕ). 2 ^ i) e in
    let t : 2 * (n + p) ≡ 2 * n + p * 2 = omega arith in
    half (n / p)
    ∙ ap (λ (x : ℕ). x / 2) (sym (add-div_right n (pow_pos (s - 1))))
    ∙ div-div-eq-div-mul (n + p) p 2
    ∙ sym (mul-div-mul_left {m = 2} (n + p) (p * 2) (omega arith))
    ∙ ap (λ (x : ℕ). x / (2 * (p * 2))) t
    ∙ ap (λ (x : ℕ). (2 * n + x) / (2 * x)) q

-- ---- n / d and n' / d', the same fraction
module _ (n d n' d' : ℕ) (h : 0 < d) (h' : 0 < d') (e : n * d' ≡ n' * d) where
  pub same_nearest : nearest_of n d ≡ nearest_of n' d'
  unfolding nearest_of
  same_nearest =
      let a = add-mul (2 * n) d d' in
      let b = mul_assoc 2 n d' in
      let a' = add-mul (2 * n') d' d in
      let b' = mul_assoc 2 n' d in
      let m = mul_comm d d' in
      let c = mul_assoc 2 d d' in
      let c' = mul_assoc 2 d' d in
      let above : (2 * n + d) * d' ≡ (2 * n' + d') * d = omega arith in
      let below : 2 * d * d' ≡ 2 * d' * d = omega arith in
      sym (mul-div-mul_right (2 * n + d) (2 * d) h') ∙ (λ i. above i / below i) ∙ mul-div-mul_right (2 * n' + d') (2 * d') h

  pub same_quotient : n / d ≡ n' / d'
  same_quotient = sym (mul-div-mul_right n d h') ∙ (λ i. e i / mul_comm d d' i) ∙ mul-div-mul_right n' d' h

  -- it is below k in both forms
  pub same_below : (k : ℕ) → n < k * d → n' < k * d'
  same_below k l =
      let a : n * d' < k * d * d' = mul-lt-mul_of_pos_right l h' in
      let b = mul_assoc k d d' in
      let b' = mul_assoc k d' d in
      let m : k * (d * d') ≡ k * (d' * d) = ap (λ (x : ℕ). k * x) (mul_comm d d') in
      lt_of_mul-lt-mul_right d (omega arith)
