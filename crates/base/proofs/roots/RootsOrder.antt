-- The square root keeps the order, in either format, as `round` does: where two roots drop as many
-- digits the kept numbers are in order, else a power of two lies between the two. Assumes nothing.
use Rattle.std.proofs.Common.{◌≡◌, ℕ, zero, suc, ◌+◌, ◌-◌, ◌*◌, ◌/◌, ◌^◌, ◌<◌, ◌≤◌, Bool, true, false, not, T, ltb, ℤ, sym, refl, ap, ◌∙◌, subst, inl, inr, true≢false, zero-le, le_trans, le_of_eq, lt_of_lt_of_le, lt_of_le_of_lt, mul-le-mul_right, zero-lt-suc, mul_assoc, mul_comm, div-lt_iff_lt-mul, mul-le-mul, eq-or-lt_of_le, mul-pos, le-div_iff_mul-le, zero-mul, mul_right_comm, not-le_of_lt, le_of_mul-le-mul_right, mul_left_comm, arith, ltb→lt, nltb→le, pow_pos, pow_mono, pow-add, Float}
use Prim.Native.Nat.{compare}
use native.Mathlib.Nat.{mul-mul-mul_comm, div-div-eq-div-mul}
use native.Mathlib.Decide.{dec_lt}
use lib.Ieee.{nan, inf, fin, Format, prec, emax, low, up, down, size, nearest, units, le, is_nan}
use lib.Ieee.Digits.{size-lt, size-le, size_reaches}
use lib.Ieee.Fits.{nearest-le, up_pos, down_pos, two, two-le_pos}
use lib.Ieee.Exact.{HasValue, units_val}
use lib.Ieee.Nearest.{nearest-ge, div_mono}
use lib.Ieee.Order.{le_of_values}
use lib.Ieee.Scale.{finite}
use lib.Ieee.Positive.{den, den_pos}
use Rattle.base.specs.Number.{root, closest_root, rounded, sqrt_of}
use Rattle.base.proofs.rounding.Rounding.{units_inf}
use Rattle.base.proofs.rounding.Halves.{nearest_below, nearest_at, nearest_above}
use Rattle.base.proofs.roots.Roots.{root_whole, root_ge, root_lt}
use Rattle.base.proofs.roots.Rooted.{four}
use Rattle.base.proofs.order.Order.{plus, le→cross, le_left, le_right, le_inf, trans_le, nought, less_zero}
use Rattle.base.proofs.order.Monotone.{apart, flat}

-- ---- the nearest whole number, by X / Y ≤ X' / Y'
nearest_order : (q X Y X' Y' : ℕ) → 0 < Y → 0 < Y' → X * Y' ≤ X' * Y → nearest q (compare X Y) ≤ nearest q (compare X' Y')
nearest_order q X Y X' Y' P P' h = elim (dec_lt Y' X') [
  | yes u ↦ le_trans (nearest-le q (compare X Y)) (le_of_eq (sym (nearest_above q X' Y' u ∙ omega arith)))
  | no u ↦
      let a : X' * Y ≤ Y * Y' = le_trans (mul-le-mul_right Y (omega arith)) (le_of_eq (mul_comm Y' Y)) in
      let b : X ≤ Y = le_of_mul-le-mul_right (le_trans h a) P' in
      elim (eq-or-lt_of_le b) [
        | inr l ↦ le_trans (le_of_eq (nearest_below q X Y l)) (nearest-ge q (compare X' Y'))
        | inl e ↦
            let c : Y' ≤ X' = le_of_mul-le-mul_right (le_trans (le_of_eq (mul_comm Y' Y ∙ ap (λ (z : ℕ). z * Y') (sym e))) h) P in
            le_of_eq (nearest_at q X Y e ∙ sym (nearest_at q X' Y' (omega arith)))
      ]
]

root_order : (a b : ℕ) → a ≤ b → root a ≤ root b
root_order a b h = root_ge b (root a) (le_trans (root_whole a).0 h)

closest_root_order : (a b c d : ℕ) → 0 < b → 0 < d → a * d ≤ c * b → closest_root a b ≤ closest_root c d
unfolding closest_root
closest_root_order a b c d B D h = go (root (a / b)) (root (c / d)) (root_order (a / b) (c / d) (div_mono a b c d B D h))
  where
    go : (q r : ℕ) → q ≤ r → nearest q (compare (a * 4) ((2 * q + 1) * (2 * q + 1) * b)) ≤ nearest r (compare (c * 4) ((2 * r + 1) * (2 * r + 1) * d))
    go q r l = elim (eq-or-lt_of_le l) [
      | inr g ↦ le_trans (nearest-le q (compare (a * 4) ((2 * q + 1) * (2 * q + 1) * b))) (le_trans g (nearest-ge r (compare (c * 4) ((2 * r + 1) * (2 * r + 1) * d))))
      | inl e ↦
          subst (λ (z : ℕ). nearest q (compare (a * 4) ((2 * q + 1) * (2 * q + 1) * b)) ≤ nearest z (compare (c * 4) ((2 * z + 1) * (2 * z + 1) * d))) e
          (let s = (2 * q + 1) * (2 * q + 1) in
          let o : 0 < 2 * q + 1 = omega arith in
          let S : 0 < s = mul-pos o o in
          nearest_order q (a * 4) (s * b) (c * 4) (s * d) (mul-pos S B) (mul-pos S D)
          (le_trans (le_of_eq (shuffle a s d)) (le_trans (mul-le-mul_right (4 * s) h) (le_of_eq (sym (shuffle c s b))))))
    ]
      where
        shuffle : (x s y : ℕ) → x * 4 * (s * y) ≡ x * y * (4 * s)
        shuffle x s y = simp (mul_assoc, mul_comm, mul_left_comm)

-- ---- powers of four
four_pos : (k : ℕ) → 0 < 4 ^ k
four_pos k = subst (λ (x : ℕ). 0 < x) (sym (four k)) (mul-pos (pow_pos k) (pow_pos k))

square : (i k : ℕ) → 2 ^ (i + k) * 2 ^ (i + k) ≡ 2 ^ i * 2 ^ i * 4 ^ k
square i k = ap (λ (x : ℕ). x * x) (pow-add 2 i k) ∙ mul-mul-mul_comm (2 ^ i) (2 ^ k) (2 ^ i) (2 ^ k) ∙ ap (λ (x : ℕ). 2 ^ i * 2 ^ i * x) (sym (four k))

-- ---- what `rounded` does with the root of n / den: it drops `dropped` digits of its whole part,
-- and keeps a number of p digits
abbrev dropped : ℕ → ℕ → ℕ → ℕ
dropped p n c = size (root (n / c)) - p

abbrev kept : ℕ → ℕ → ℕ → ℕ
kept p n c = closest_root n (c * 4 ^ dropped p n c)

module _ (p n c : ℕ) (C : 0 < c) where
  below_four : n / c < 2 ^ (p + (size (root (n / c)) - p)) * 2 ^ (p + (size (root (n / c)) - p))
  below_four =
      let r = root (n / c) in
      let l : r + 1 ≤ 2 ^ (p + (size r - p)) = le_trans (le_of_eq (omega arith)) (le_trans (size-lt r) (pow_mono (omega arith))) in
      lt_of_lt_of_le (root_whole (n / c)).1 (mul-le-mul l l)

  kept_le : kept p n c ≤ 2 ^ p
  unfolding closest_root
  kept_le =
      let j = size (root (n / c)) - p in
      let q = root (n / (c * 4 ^ j)) in
      let h : n / (c * 4 ^ j) < 2 ^ p * 2 ^ p = subst (λ (x : ℕ). x < 2 ^ p * 2 ^ p) (div-div-eq-div-mul n c (4 ^ j)) ((div-lt_iff_lt-mul (four_pos j)).1 (lt_of_lt_of_le below_four (le_of_eq (square p j)))) in
      le_trans (nearest-le q (compare (n * 4) ((2 * q + 1) * (2 * q + 1) * (c * 4 ^ j)))) (root_lt (n / (c * 4 ^ j)) (2 ^ p) h)

  kept_ge : 0 < p → 0 < dropped p n c → 2 ^ (p - 1) ≤ kept p n c
  unfolding closest_root
  kept_ge P K =
      let r = root (n / c) in
      let j = size r - p in
      let q = root (n / (c * 4 ^ j)) in
      let a : 2 ^ (p - 1 + j) ≤ r = size_reaches r (p - 1 + j) (omega arith) in
      let b : 2 ^ (p - 1) * 2 ^ (p - 1) * 4 ^ j ≤ n / c = le_trans (le_of_eq (sym (square (p - 1) j))) (le_trans (mul-le-mul a a) (root_whole (n / c)).0) in
      let d : 2 ^ (p - 1) * 2 ^ (p - 1) ≤ n / (c * 4 ^ j) = subst (λ (x : ℕ). 2 ^ (p - 1) * 2 ^ (p - 1) ≤ x) (div-div-eq-div-mul n c (4 ^ j)) ((le-div_iff_mul-le (four_pos j)).1 b) in
      le_trans (root_ge (n / (c * 4 ^ j)) (2 ^ (p - 1)) d) (nearest-ge q (compare (n * 4) ((2 * q + 1) * (2 * q + 1) * (c * 4 ^ j))))

-- ---- the two cases
grid_order : (p a b c d : ℕ) → 0 < p → 0 < b → 0 < d → a * d ≤ c * b → kept p a b * 2 ^ dropped p a b ≤ kept p c d * 2 ^ dropped p c d
grid_order p a b c d P B D h =
    let j = dropped p a b in
    let k = dropped p c d in
    elim (eq-or-lt_of_le (fewer (size (root (a / b))) (size (root (c / d))) (size-le (root (a / b)) (size (root (c / d))) (lt_of_le_of_lt (root_order (a / b) (c / d) (div_mono a b c d B D h)) (size-lt (root (c / d))))))) [
      | inl e ↦
          subst (λ (x : ℕ). closest_root a (b * 4 ^ x) * 2 ^ x ≤ kept p c d * 2 ^ k) (sym e)
          (mul-le-mul_right (2 ^ k)
          (closest_root_order a (b * 4 ^ k) c (d * 4 ^ k) (mul-pos B (four_pos k)) (mul-pos D (four_pos k))
          (le_trans (le_of_eq (sym (mul_assoc a d (4 ^ k)))) (le_trans (mul-le-mul_right (4 ^ k) h) (le_of_eq (mul_assoc c b (4 ^ k)))))))
      | inr l ↦
          le_trans (mul-le-mul_right (2 ^ j) (kept_le p a b B))
          (le_trans (le_of_eq (sym (pow-add 2 p j)))
          (le_trans (pow_mono (room j k l))
          (le_trans (le_of_eq (pow-add 2 (p - 1) k)) (mul-le-mul_right (2 ^ k) (kept_ge p c d D P (lt_of_le_of_lt zero-le l))))))
    ]
  where
    fewer : (x y : ℕ) → x ≤ y → x - p ≤ y - p
    fewer x y h = omega arith

    room : (j k : ℕ) → j < k → p + j ≤ p - 1 + k
    room j k h = omega arith

-- ---- `units`, `rounded`, `sqrt_of`
valued : (x : Float) (s : Bool) (a c : ℕ) → HasValue x s a c → T (not (is_nan x))
unfolding is_nan
valued nan s a c h = absurd h
valued (inf t) s a c h = absurd h
valued (fin t m e) s a c h = tt

units_order : (f : Format) (q j r k : ℕ) → q * 2 ^ j ≤ r * 2 ^ k → T (le (units f false q j) (units f false r k))
units_order f q j r k h = go (ltb (q * 2 ^ j) o) (ltb→lt (q * 2 ^ j) o) (nltb→le (q * 2 ^ j) o) (ltb (r * 2 ^ k) o) (ltb→lt (r * 2 ^ k) o) (nltb→le (r * 2 ^ k) o)
  where
    o : ℕ
    o = 2 ^ (low f + suc (emax f))

    go : (a : Bool) → (T a → q * 2 ^ j < o) → (T (not a) → o ≤ q * 2 ^ j) → (b : Bool) → (T b → r * 2 ^ k < o) → (T (not b) → o ≤ r * 2 ^ k) → T (le (units f false q j) (units f false r k))
    go true u u' true v v' =
        le_of_values (units f false q j) (units f false r k) (q * 2 ^ j) (2 ^ low f) (r * 2 ^ k) (2 ^ low f) (pow_pos (low f)) (pow_pos (low f)) (units_val f false q j (u tt)) (units_val f false r k (v tt)) (mul-le-mul_right (2 ^ low f) h)
    go true u u' false v v' = subst (λ (z : Float). T (le (units f false q j) z)) (sym (units_inf f false r k (v' tt))) (le_inf (units f false q j) (valued (units f false q j) false (q * 2 ^ j) (2 ^ low f) (units_val f false q j (u tt))))
    go false u u' true v v' = absurd (not-le_of_lt (lt_of_le_of_lt h (v tt)) (u' tt))
    go false u u' false v v' = subst (λ (z : Float). T (le z (units f false r k))) (sym (units_inf f false q j (u' tt))) (subst (λ (z : Float). T (le (inf false) z)) (sym (units_inf f false r k (v' tt))) (le_inf (inf false) (unfold is_nan in tt)))

rounded_is : (f : Format) (a c : ℕ) → rounded f a c ≡ units f false (kept (prec f) (a * 4 ^ low f) c) (dropped (prec f) (a * 4 ^ low f) c)
unfolding rounded
rounded_is f a c = refl

rounded_order : (f : Format) (a b c d : ℕ) → 0 < b → 0 < d → a * d ≤ c * b → T (le (rounded f a b) (rounded f c d))
rounded_order f a b c d B D h =
    let l = 4 ^ low f in
    let p = prec f in
    let x : a * l * d ≤ c * l * b = le_trans (le_of_eq (mul_right_comm a l d)) (le_trans (mul-le-mul_right l h) (le_of_eq (mul_right_comm c b l))) in
    subst (λ (z : Float). T (le z (rounded f c d))) (sym (rounded_is f a b))
    (subst (λ (z : Float). T (le (units f false (kept p (a * l) b) (dropped p (a * l) b)) z)) (sym (rounded_is f c d))
    (units_order f (kept p (a * l) b) (dropped p (a * l) b) (kept p (c * l) d) (dropped p (c * l) d) (grid_order p (a * l) b (c * l) d (two-le_pos p (two f)) B D x)))

zero_root : (f : Format) (s : Bool) (e : ℤ) → sqrt_of f (fin s 0 e) ≡ fin s 0 e
unfolding sqrt_of
zero_root f s e = refl

some_root : (f : Format) (m : ℕ) (e : ℤ) → sqrt_of f (fin false (suc m) e) ≡ rounded f (suc m * up e) (down e)
unfolding sqrt_of
some_root f m e = refl

inf_root : (f : Format) → sqrt_of f (inf false) ≡ inf false
unfolding sqrt_of
inf_root f = refl

-- a number above zero is not under one with no part above zero
above_flat : (m : ℕ) (e : ℤ) (y : Float) → T (finite y) → plus y ≡ 0 → T (le (fin false (suc m) e) y) → ⊥
above_flat m e y q b h =
    let u : plus y * down e ≡ 0 = ap (λ (z : ℕ). z * down e) b ∙ zero-mul (down e) in
    let v : 0 < suc m * up e * den y = mul-pos (mul-pos (zero-lt-suc m) (up_pos e)) (den_pos y) in
    let c = le→cross (fin false (suc m) e) y tt q h in
    omega (arith, zero-mul (den y))

valued_above : (x : Float) (a c : ℕ) → HasValue x false a c → T (le nought x)
valued_above nan a c h = absurd h
valued_above (inf t) a c h = absurd h
valued_above (fin true m e) a c h = absurd (true≢false h.0)
valued_above (fin false m e) a c h = apart nought (fin false m e) tt tt refl refl

units_above : (f : Format) (q k : ℕ) → T (le nought (units f false q k))
units_above f q k = go (ltb (q * 2 ^ k) o) (ltb→lt (q * 2 ^ k) o) (nltb→le (q * 2 ^ k) o)
  where
    o : ℕ
    o = 2 ^ (low f + suc (emax f))

    go : (a : Bool) → (T a → q * 2 ^ k < o) → (T (not a) → o ≤ q * 2 ^ k) → T (le nought (units f false q k))
    go true u u' = valued_above (units f false q k) (q * 2 ^ k) (2 ^ low f) (units_val f false q k (u tt))
    go false u u' = subst (λ (z : Float). T (le nought z)) (sym (units_inf f false q k (u' tt))) (le_inf nought (unfold is_nan in tt))

pub sqrt_not_below : (f : Format) (x : Float) → T (le nought x) → T (le nought (sqrt_of f x))
unfolding is_nan
sqrt_not_below f nan h = absurd (le_right nought nan h)
sqrt_not_below f (inf true) h = absurd (unfold le in h)
sqrt_not_below f (inf false) h = rw (inf_root f) h
sqrt_not_below f (fin s zero e) h = rw (zero_root f s e) h
sqrt_not_below f (fin true (suc m) e) h = absurd (omega (arith, less_zero (fin true (suc m) e) tt h, mul-pos (zero-lt-suc m) (up_pos e)))
sqrt_not_below f (fin false (suc m) e) h = rw (some_root f m e, rounded_is f (suc m * up e) (down e)) (units_above f (kept (prec f) (suc m * up e * 4 ^ low f) (down e)) (dropped (prec f) (suc m * up e * 4 ^ low f) (down e)))

pub sqrt_mono : (f : Format) (x y : Float) → T (le nought x) → T (le x y) → T (le (sqrt_of f x) (sqrt_of f y))
unfolding is_nan
sqrt_mono f nan y n h = absurd (le_left nan y h)
sqrt_mono f (inf true) y n h = absurd (unfold le in n)
sqrt_mono f (inf false) nan n h = absurd (le_right (inf false) nan h)
sqrt_mono f (inf false) (inf true) n h = absurd (unfold le in h)
sqrt_mono f (inf false) (inf false) n h = rw (inf_root f) h
sqrt_mono f (inf false) (fin t i d) n h = absurd (unfold le in h)
sqrt_mono f (fin s zero e) y n h =
    rw (zero_root f s e) (trans_le (fin s 0 e) nought (sqrt_of f y) (flat_zero s e) (sqrt_not_below f y (trans_le nought (fin s 0 e) y n h)))
  where
    flat_zero : (s : Bool) (e : ℤ) → T (le (fin s 0 e) nought)
    flat_zero true e = apart (fin true 0 e) nought tt tt refl refl
    flat_zero false e = apart (fin false 0 e) nought tt tt (zero-mul (up e)) refl
sqrt_mono f (fin true (suc m) e) y n h = absurd (omega (arith, less_zero (fin true (suc m) e) tt n, mul-pos (zero-lt-suc m) (up_pos e)))
sqrt_mono f (fin false (suc m) e) nan n h = absurd (le_right (fin false (suc m) e) nan h)
sqrt_mono f (fin false (suc m) e) (inf true) n h = absurd (unfold le in h)
sqrt_mono f (fin false (suc m) e) (inf false) n h =
    let x = fin false (suc m) e in
    subst (λ (z : Float). T (le (sqrt_of f x) z)) (sym (inf_root f)) (le_inf (sqrt_of f x) (le_right nought (sqrt_of f x) (sqrt_not_below f x n)))
sqrt_mono f (fin false (suc m) e) (fin true i d) n h = absurd (above_flat m e (fin true i d) tt refl h)
sqrt_mono f (fin false (suc m) e) (fin false zero d) n h = absurd (above_flat m e (fin false 0 d) tt (zero-mul (up d)) h)
sqrt_mono f (fin false (suc m) e) (fin false (suc i) d) n h =
    let x = fin false (suc m) e in
    let y = fin false (suc i) d in
    rw (some_root f m e, some_root f i d) (rounded_order f (suc m * up e) (down e) (suc i * up d) (down d) (down_pos e) (down_pos d) (flat x y tt tt n (trans_le nought x y n h) h))
