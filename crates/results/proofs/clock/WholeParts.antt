-- A number's whole part, as a conversion to `i32` takes it, from what the number lies between.
-- Assumes nothing.
use Rattle.std.proofs.Common.{◌≡◌, ap, ◌∙◌, ◌⊎◌, inl, inr, true, false, ℕ, zero, suc, ◌+◌, ◌-◌, ◌*◌, ◌/◌, ◌^◌, ◌≤◌, ◌<◌, min, add-mul, one-mul, zero-mul, suc-mul, div-lt_iff_lt-mul, le-div_iff_mul-le, arith, T, lit<, ℤ, pos, negsuc, neg_ℤ, Float}
use native.Mathlib.Nat.{min-eq_left}
use native.Mathlib.Decide.{dec_lt}
use lib.Ieee.{nan, inf, fin, up, down, le, to_signed}
use lib.Ieee.Fits.{down_pos}
use lib.Ieee.Scale.{finite}
use lib.Ieee.Positive.{den}
use Rattle.base.proofs.order.Order.{plus, less, nought, le→cross, cross→le, less_zero, Between, between_finite}

quotient : (n d k : ℕ) → 0 < d → k * d ≤ n → n < k * d + d → n / d ≡ k
quotient n d k D a b =
    let u : k ≤ n / d = (le-div_iff_mul-le D).1 a in
    let v : n / d < suc k = (div-lt_iff_lt-mul D).1 (omega (arith, suc-mul k d)) in
    omega arith

plus_whole : (k m : ℕ) (e : ℤ) → k < 1000 → k * down e ≤ m * up e → m * up e < k * down e + down e → to_signed 31 (fin false m e) ≡ pos k
unfolding to_signed
plus_whole k m e h a b =
    let q = quotient (m * up e) (down e) k (down_pos e) a b in
    ap pos (ap (λ (n : ℕ). min n (2 ^ 31 - 1)) q ∙ min-eq_left (omega arith))

minus_whole : (k m : ℕ) (e : ℤ) → k < 1000 → k * down e ≤ m * up e → m * up e < k * down e + down e → to_signed 31 (fin true m e) ≡ neg_ℤ (pos k)
unfolding to_signed
minus_whole k m e h a b =
    let q = quotient (m * up e) (down e) k (down_pos e) a b in
    ap (λ (n : ℕ). neg_ℤ (pos n)) (ap (λ (n : ℕ). min n (2 ^ 31)) q ∙ min-eq_left (omega arith))

-- of a number from 0 on
whole_is : (k : ℕ) (x : Float) → k < 1000 → T (finite x) → T (le nought x) → k * den x ≤ plus x → plus x < k * den x + den x → to_signed 31 x ≡ pos k
whole_is k nan h p n a b = absurd p
whole_is k (inf s) h p n a b = absurd p
whole_is k (fin false m e) h p n a b = plus_whole k m e h a b
whole_is zero (fin true m e) h p n a b = let z = less_zero (fin true m e) tt n in minus_whole 0 m e h (omega (arith, zero-mul (down e))) (omega (arith, zero-mul (down e), down_pos e))
whole_is (suc k) (fin true m e) h p n a b = absurd (omega (arith, suc-mul k (down e), down_pos e))

-- x below y
pub gap : (x y : Float) → T (finite x) → T (finite y) → (T (le y x) → ⊥) → plus x * den y + less y * den x < plus y * den x + less x * den y
gap x y p q h = elim (dec_lt (plus x * den y + less y * den x) (plus y * den x + less x * den y)) [ yes u ↦ u | no u ↦ absurd (h (cross→le y x q p (omega arith))) ]

-- from k to below k + 1, as whole numbers have it
pub whole_below : (k : ℕ) (x : Float) → k < 1000 → Between (fin false k (pos 0)) (fin false 1000 (pos 0)) x → (T (le (fin false (k + 1) (pos 0)) x) → ⊥) → T (le nought x) → to_signed 31 x ≡ pos k
whole_below k x h b n i =
    let p : T (finite x) = between_finite {lo = fin false k (pos 0)} {hi = fin false 1000 (pos 0)} tt tt b in
    let z = less_zero x p i in
    let u = le→cross (fin false k (pos 0)) x tt p b.low in
    let v = gap x (fin false (k + 1) (pos 0)) p tt n in
    whole_is k x h p i (omega (arith, zero-mul (den x))) (omega (arith, add-mul k 1 (den x), one-mul (den x), zero-mul (den x)))

-- above -2 and below 1
pub low_whole : (x : Float) → Between (fin true 13 (negsuc 2)) (fin false 5 (negsuc 2)) x → (to_signed 31 x ≡ negsuc 0) ⊎ (to_signed 31 x ≡ pos 0)
low_whole nan b = absurd (between_finite {lo = fin true 13 (negsuc 2)} {hi = fin false 5 (negsuc 2)} tt tt b)
low_whole (inf s) b = absurd (between_finite {lo = fin true 13 (negsuc 2)} {hi = fin false 5 (negsuc 2)} tt tt b)
low_whole (fin false m e) b =
    let u = le→cross (fin false m e) (fin false 5 (negsuc 2)) tt tt b.high in
    let D = down_pos e in
    inr (plus_whole 0 m e (lit< tt) (omega (arith, zero-mul (down e))) (omega (arith, zero-mul (down e))))
low_whole (fin true m e) b =
    let u = le→cross (fin true 13 (negsuc 2)) (fin true m e) tt tt b.low in
    let D = down_pos e in
    elim (dec_lt (m * up e) (down e)) [
      | yes q ↦ inr (minus_whole 0 m e (lit< tt) (omega (arith, zero-mul (down e))) (omega (arith, zero-mul (down e))))
      | no q ↦ inl (minus_whole 1 m e (lit< tt) (omega (arith, one-mul (down e))) (omega (arith, one-mul (down e))))
    ]

-- above -1 and below 2
pub high_whole : (x : Float) → Between (fin true 5 (negsuc 2)) (fin false 13 (negsuc 2)) x → (to_signed 31 x ≡ pos 0) ⊎ (to_signed 31 x ≡ pos 1)
high_whole nan b = absurd (between_finite {lo = fin true 5 (negsuc 2)} {hi = fin false 13 (negsuc 2)} tt tt b)
high_whole (inf s) b = absurd (between_finite {lo = fin true 5 (negsuc 2)} {hi = fin false 13 (negsuc 2)} tt tt b)
high_whole (fin false m e) b =
    let u = le→cross (fin false m e) (fin false 13 (negsuc 2)) tt tt b.high in
    let D = down_pos e in
    elim (dec_lt (m * up e) (down e)) [
      | yes q ↦ inl (plus_whole 0 m e (lit< tt) (omega (arith, zero-mul (down e))) (omega (arith, zero-mul (down e))))
      | no q ↦ inr (plus_whole 1 m e (lit< tt) (omega (arith, one-mul (down e))) (omega (arith, one-mul (down e))))
    ]
high_whole (fin true m e) b =
    let u = le→cross (fin true 5 (negsuc 2)) (fin true m e) tt tt b.low in
    let D = down_pos e in
    inl (minus_whole 0 m e (lit< tt) (omega (arith, zero-mul (down e))) (omega (arith, zero-mul (down e))))

-- -1
pub minus_one : (x : Float) → Between (fin true 1 (pos 0)) (fin true 1 (pos 0)) x → to_signed 31 x ≡ negsuc 0
minus_one nan b = absurd (between_finite {lo = fin true 1 (pos 0)} {hi = fin true 1 (pos 0)} tt tt b)
minus_one (inf s) b = absurd (between_finite {lo = fin true 1 (pos 0)} {hi = fin true 1 (pos 0)} tt tt b)
minus_one (fin false m e) b = let u = le→cross (fin false m e) (fin true 1 (pos 0)) tt tt b.high in absurd (omega (arith, down_pos e))
minus_one (fin true m e) b =
    let u = le→cross (fin true 1 (pos 0)) (fin true m e) tt tt b.low in
    let v = le→cross (fin true m e) (fin true 1 (pos 0)) tt tt b.high in
    minus_whole 1 m e (lit< tt) (omega (arith, one-mul (down e))) (omega (arith, one-mul (down e), down_pos e))
