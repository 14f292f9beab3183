-- Rounding keeps order and size, in either format: sums, differences, products, quotients and
-- narrowing are monotone, since each is `round` of a signed fraction (p - n) / c (`Rounds`) and
-- `round` is monotone in it. Assumes nothing.
use Rattle.std.proofs.Common.{◌≡◌, ℕ, zero, suc, ◌+◌, ◌-◌, ◌*◌, ◌/◌, ◌%◌, ◌^◌, ◌<◌, ◌≤◌, Bool, true, false, cond, not, T, eqb, ltb, ℤ, pos, sym, refl, ap, ◌∙◌, subst, inl, inr, mul-le-mul_right, mul_assoc, mul_comm, add-mul, eq-zero-or-pos, mul-le-mul, mul-pos, mul-zero, zero-mul, mul_left_comm, arith, lit<, ltb→lt, lt→ltb, nltb→le, le-ltb, ne_eqb, Float}
use Prim.Native.Nat.{compare}
use lib.Ieee.{nan, inf, fin, Format, binary32, binary64, prec, emax, low, up, down, unlike, size, nearest, odd, units, round, neg, sum, add, sub, mul, div, le, is_nan}
use lib.Ieee.Fits.{core, round_is, up_pos, down_pos}
use lib.Ieee.Exact.{HasValue, round_exact}
use lib.Ieee.Order.{round_mono}
use lib.Ieee.Scale.{finite}
use lib.Ieee.Positive.{den, den_pos, positive, positive-finite, above, above_of_le}
use Rattle.base.specs.Number.{negative, abs_of, narrow_of}
use Rattle.base.proofs.verdicts.Picks.{cond_false, never'}
use Rattle.base.proofs.order.Order.{gain, loss, plus, less, le→cross, cross→le, le_left, le_right, le_inf, inf_le, refl_le, trans_le, neg_le, neg_neg, neg_finite, nought, less_zero, finite_between, neg_not_above, abs_fin, abs_inf, abs_nan, abs_not_below, abs_no_nan, abs→le, abs→ge, le→abs, abs_neg}

-- ---- the sign is nothing to a rounded fraction's size
abbrev pub signed : Bool → Float → Float
signed s nan = nan
signed s (inf t) = inf s
signed s (fin t m e) = fin s m e

odd_signed : (d : ℕ) (s : Bool) (q k l : ℕ) → odd d s q k l ≡ signed s (odd d false q k l)
unfolding odd
odd_signed d s zero k l = refl
odd_signed d s (suc q) k l = refl

cond_signed : (b s : Bool) (x y x' y' : Float) → x ≡ signed s x' → y ≡ signed s y' → cond b x y ≡ signed s (cond b x' y')
cond_signed true s x y x' y' p q = p
cond_signed false s x y x' y' p q = q

pub units_signed : (f : Format) (s : Bool) (q k : ℕ) → units f s q k ≡ signed s (units f false q k)
unfolding units
units_signed f s q k = cond_signed (ltb (q * 2 ^ k) (2 ^ (low f + suc (emax f)))) s (odd (suc (prec f)) s q k (low f)) (inf s) (odd (suc (prec f)) false q k (low f)) (inf false) (odd_signed (suc (prec f)) s q k (low f)) refl

core_signed : (f : Format) (s : Bool) (n c k : ℕ) → core f s n c k ≡ signed s (core f false n c k)
core_signed f s n c k = units_signed f s (nearest (n / (c * 2 ^ k)) (compare (n % (c * 2 ^ k) * 2) (c * 2 ^ k))) k

pub round_signed : (f : Format) (s : Bool) (a c : ℕ) → round f s a c ≡ signed s (round f false a c)
round_signed f s a c = round_is f s a c ∙ core_signed f s (a * 2 ^ low f) c (size (a * 2 ^ low f / c) - prec f) ∙ ap (signed s) (sym (round_is f false a c))

neg_signed : (x : Float) → signed true x ≡ neg (signed false x)
unfolding neg
neg_signed nan = refl
neg_signed (inf s) = refl
neg_signed (fin s m e) = refl

pub round_neg : (f : Format) (a c : ℕ) → round f true a c ≡ neg (round f false a c)
round_neg f a c = round_signed f true a c ∙ neg_signed (round f false a c) ∙ ap neg (sym (round_signed f false a c))

-- ---- `round` of signed fractions
pub zero_val : (f : Format) (s : Bool) (c : ℕ) → 0 < c → HasValue (round f s 0 c) s 0 c
zero_val binary32 s c C = round_exact binary32 s 0 c 0 0 C (lit< tt) (lit< tt) (sym (zero-mul c))
zero_val binary64 s c C = round_exact binary64 s 0 c 0 0 C (lit< tt) (lit< tt) (sym (zero-mul c))

-- what has no part above zero is not above what has none below
pub apart : (x y : Float) → T (finite x) → T (finite y) → plus x ≡ 0 → less y ≡ 0 → T (le x y)
apart x y p q h k = cross→le x y p q (let u : plus x * den y ≡ 0 = ap (λ (z : ℕ). z * den y) h ∙ zero-mul (den y) in let v : less y * den x ≡ 0 = ap (λ (z : ℕ). z * den x) k ∙ zero-mul (den x) in omega arith)

zero_of_mul : (a c : ℕ) → 0 < c → a * c ≡ 0 → a ≡ 0
zero_of_mul a c C e = elim (eq-zero-or-pos a) [ inl z ↦ z | inr p ↦ absurd (omega (arith, mul-pos p C)) ]

gain_zero : (s : Bool) (a : ℕ) → a ≡ 0 → gain s a ≡ 0
gain_zero true a e = refl
gain_zero false a e = e

loss_zero : (s : Bool) (a : ℕ) → a ≡ 0 → loss s a ≡ 0
loss_zero true a e = e
loss_zero false a e = refl

zeros : (x y : Float) (s t : Bool) (c d : ℕ) → 0 < c → 0 < d → HasValue x s 0 c → HasValue y t 0 d → T (le x y)
zeros nan y s t c d C D h k = absurd h
zeros (inf r) y s t c d C D h k = absurd h
zeros (fin r m e) nan s t c d C D h k = absurd k
zeros (fin r m e) (inf q) s t c d C D h k = absurd k
zeros (fin r m e) (fin q n i) s t c d C D h k =
    apart (fin r m e) (fin q n i) tt tt (gain_zero r (m * up e) (zero_of_mul (m * up e) c C (h.1 ∙ zero-mul (down e)))) (loss_zero q (n * up i) (zero_of_mul (n * up i) d D (k.1 ∙ zero-mul (down i))))

-- r / c ≤ q / d, turned round
round_anti : (f : Format) (r c q d : ℕ) → 0 < c → 0 < d → q * c ≤ r * d → T (le (round f true r c) (round f true q d))
round_anti f r c q d C D h =
    subst (λ (z : Float). T (le z (round f true q d))) (sym (round_neg f r c))
    (subst (λ (z : Float). T (le (neg (round f false r c)) z)) (sym (round_neg f q d)) (neg_le (round f false q d) (round f false r c) (round_mono f q d r c D C h)))

round_apart : (f : Format) (r c q d : ℕ) → 0 < c → 0 < d → T (le (round f true r c) (round f false q d))
round_apart f r c q d C D =
    trans_le (round f true r c) (round f true 0 1) (round f false q d) (round_anti f r c 0 1 C (lit< tt) (omega (arith, zero-mul c)))
    (trans_le (round f true 0 1) (round f false 0 1) (round f false q d) (zeros (round f true 0 1) (round f false 0 1) true false 1 1 (lit< tt) (lit< tt) (zero_val f true 1 (lit< tt)) (zero_val f false 1 (lit< tt)))
    (round_mono f 0 1 q d (lit< tt) D (omega (arith, zero-mul d))))

-- z is (p - n) / c, rounded
pub record Rounds (f : Format) (z : Float) (p n c : ℕ) : Type 0 where
  pub sign : Bool
  pub size : ℕ
  pub is : z ≡ round f sign size c
  pub value : p + loss sign size ≡ n + gain sign size

times : {a b : ℕ} → a ≡ b → (k : ℕ) → a * k ≡ b * k
times e k = ap (λ (z : ℕ). z * k) e

-- (p - n) / c ≤ (q - m) / d
by_signs : (f : Format) (s t : Bool) (r k p n c q m d : ℕ) → 0 < c → 0 < d → p + loss s r ≡ n + gain s r → q + loss t k ≡ m + gain t k → p * d + m * c ≤ q * c + n * d → T (le (round f s r c) (round f t k d))
by_signs f false false r k p n c q m d C D u v h = round_mono f r c k d C D (omega (arith, times u d, times v c, add-mul n r d, add-mul m k c, add-mul p 0 d, add-mul q 0 c))
by_signs f false true r k p n c q m d C D u v h =
    let w : r * d + k * c ≤ 0 = omega (arith, times u d, times v c, add-mul n r d, add-mul p 0 d, add-mul q k c, add-mul m 0 c) in
    let y : r ≡ 0 = zero_of_mul r d D (omega arith) in
    let z : k ≡ 0 = zero_of_mul k c C (omega arith) in
    subst (λ (i : ℕ). T (le (round f false i c) (round f true k d))) (sym y)
    (subst (λ (i : ℕ). T (le (round f false 0 c) (round f true i d))) (sym z) (zeros (round f false 0 c) (round f true 0 d) false true c d C D (zero_val f false c C) (zero_val f true d D)))
by_signs f true false r k p n c q m d C D u v h = round_apart f r c k d C D
by_signs f true true r k p n c q m d C D u v h = round_anti f r c k d C D (omega (arith, times u d, times v c, add-mul p r d, add-mul n 0 d, add-mul q k c, add-mul m 0 c))

pub rounds_mono : (f : Format) (x y : Float) (p n c q m d : ℕ) → 0 < c → 0 < d → Rounds f x p n c → Rounds f y q m d → p * d + m * c ≤ q * c + n * d → T (le x y)
rounds_mono f x y p n c q m d C D u v h =
    subst (λ (z : Float). T (le z y)) (sym u.is)
    (subst (λ (z : Float). T (le (round f u.sign u.size c) z)) (sym v.is) (by_signs f u.sign v.sign u.size v.size p n c q m d C D u.value v.value h))

-- ---- the operations as rounded fractions
gain_mul : (s : Bool) (a k : ℕ) → gain s a * k ≡ gain s (a * k)
gain_mul true a k = zero-mul k
gain_mul false a k = refl

loss_mul : (s : Bool) (a k : ℕ) → loss s a * k ≡ loss s (a * k)
loss_mul true a k = refl
loss_mul false a k = zero-mul k

pub sum_rounds : (f : Format) (s : Bool) (a : ℕ) (t : Bool) (b c : ℕ) → Rounds f (sum f s a t b c) (gain s a + gain t b) (loss s a + loss t b) c
unfolding sum
sum_rounds f false a false b c = record { sign = false; size = a + b; is = refl; value = omega arith }
sum_rounds f true a true b c = record { sign = true; size = a + b; is = refl; value = omega arith }
sum_rounds f false a true b c = go (ltb a b) (ltb→lt a b) (nltb→le a b)
  where
    go : (i : Bool) → (T i → a < b) → (T (not i) → b ≤ a) → Rounds f (cond i (round f true (b - a) c) (round f false (a - b) c)) (a + 0) (0 + b) c
    go true h k = let l = h tt in record { sign = true; size = b - a; is = refl; value = omega arith }
    go false h k = let l = k tt in record { sign = false; size = a - b; is = refl; value = omega arith }
sum_rounds f true a false b c = go (ltb a b) (ltb b a) (ltb→lt a b) (nltb→le a b) (ltb→lt b a) (nltb→le b a)
  where
    go : (i j : Bool) → (T i → a < b) → (T (not i) → b ≤ a) → (T j → b < a) → (T (not j) → a ≤ b) → Rounds f (cond i (round f false (b - a) c) (round f j (a - b) c)) (0 + b) (a + 0) c
    go true j h k h' k' = let l = h tt in record { sign = false; size = b - a; is = refl; value = omega arith }
    go false true h k h' k' = let l = k tt in record { sign = true; size = a - b; is = refl; value = omega arith }
    go false false h k h' k' = let l = k tt in let l' = k' tt in record { sign = false; size = a - b; is = refl; value = omega arith }

add_sum : (f : Format) (s : Bool) (m : ℕ) (e : ℤ) (t : Bool) (n : ℕ) (d : ℤ) → add f (fin s m e) (fin t n d) ≡ sum f s (m * up e * down d) t (n * up d * down e) (down e * down d)
unfolding add
add_sum f s m e t n d = refl

pub add_rounds : (f : Format) (x y : Float) → T (finite x) → T (finite y) → Rounds f (add f x y) (plus x * den y + plus y * den x) (less x * den y + less y * den x) (den x * den y)
add_rounds f nan y p q = absurd p
add_rounds f (inf s) y p q = absurd p
add_rounds f (fin s m e) nan p q = absurd q
add_rounds f (fin s m e) (inf t) p q = absurd q
add_rounds f (fin s m e) (fin t n d) p q =
    rw (add_sum f s m e t n d, gain_mul s (m * up e) (down d), gain_mul t (n * up d) (down e), loss_mul s (m * up e) (down d), loss_mul t (n * up d) (down e))
    (sum_rounds f s (m * up e * down d) t (n * up d * down e) (down e * down d))

neg_parts : (x : Float) → T (finite x) → (plus (neg x) ≡ less x) × (less (neg x) ≡ plus x) × (den (neg x) ≡ den x)
unfolding neg
neg_parts nan p = absurd p
neg_parts (inf s) p = absurd p
neg_parts (fin true m e) p = (refl, refl, refl)
neg_parts (fin false m e) p = (refl, refl, refl)

sub_add : (f : Format) (x y : Float) → sub f x y ≡ add f x (neg y)
unfolding sub
sub_add f x y = refl

pub sub_rounds : (f : Format) (x y : Float) → T (finite x) → T (finite y) → Rounds f (sub f x y) (plus x * den y + less y * den x) (less x * den y + plus y * den x) (den x * den y)
sub_rounds f x y p q =
    let e = neg_parts y q in
    rw sub_add (rw (e.0, e.1, e.2) at (add_rounds f x (neg y) p (neg_finite y q)))

mul_round : (f : Format) (s : Bool) (m : ℕ) (e : ℤ) (t : Bool) (n : ℕ) (d : ℤ) → mul f (fin s m e) (fin t n d) ≡ round f (unlike s t) (m * up e * (n * up d)) (down e * down d)
unfolding mul
mul_round f s m e t n d = refl

signs_value : (s t : Bool) (a b : ℕ) → gain s a * gain t b + loss s a * loss t b + loss (unlike s t) (a * b) ≡ gain s a * loss t b + loss s a * gain t b + gain (unlike s t) (a * b)
signs_value false false a b = omega arith
signs_value false true a b = omega arith
signs_value true false a b = omega arith
signs_value true true a b = omega arith

pub mul_rounds : (f : Format) (x y : Float) → T (finite x) → T (finite y) → Rounds f (mul f x y) (plus x * plus y + less x * less y) (plus x * less y + less x * plus y) (den x * den y)
mul_rounds f nan y p q = absurd p
mul_rounds f (inf s) y p q = absurd p
mul_rounds f (fin s m e) nan p q = absurd q
mul_rounds f (fin s m e) (inf t) p q = absurd q
mul_rounds f (fin s m e) (fin t n d) p q = record { sign = unlike s t; size = m * up e * (n * up d); is = mul_round f s m e t n d; value = signs_value s t (m * up e) (n * up d) }

pub narrow_rounds : (x : Float) → T (finite x) → Rounds binary32 (narrow_of x) (plus x) (less x) (den x)
unfolding narrow_of
narrow_rounds nan p = absurd p
narrow_rounds (inf s) p = absurd p
narrow_rounds (fin s m e) p = record { sign = s; size = m * up e; is = refl; value = go s }
  where
    go : (s : Bool) → gain s (m * up e) + loss s (m * up e) ≡ loss s (m * up e) + gain s (m * up e)
    go s = omega arith

-- ---- sums and differences
add_cross : (p n c p' n' c' q m d q' m' d' : ℕ) → p * c' + n' * c ≤ p' * c + n * c' → q * d' + m' * d ≤ q' * d + m * d'
    → (p * d + q * c) * (c' * d') + (n' * d' + m' * c') * (c * d) ≤ (p' * d' + q' * c') * (c * d) + (n * d + m * c) * (c' * d')
add_cross p n c p' n' c' q m d q' m' d' h k =
    let u = simp (add-mul, mul_assoc, mul_comm) at (mul-le-mul_right (d * d') h) in
    let v = simp (add-mul, mul_assoc, mul_comm) at (mul-le-mul_right (c * c') k) in
    simp (add-mul, mul_assoc, mul_comm, mul_left_comm) (omega (arith, u, v))

pub add_mono : (f : Format) (x x' y y' : Float) → T (finite x) → T (finite x') → T (finite y) → T (finite y') → T (le x x') → T (le y y') → T (le (add f x y) (add f x' y'))
add_mono f x x' y y' p p' q q' h k =
    rounds_mono f (add f x y) (add f x' y') (plus x * den y + plus y * den x) (less x * den y + less y * den x) (den x * den y) (plus x' * den y' + plus y' * den x') (less x' * den y' + less y' * den x') (den x' * den y') (mul-pos (den_pos x) (den_pos y)) (mul-pos (den_pos x') (den_pos y')) (add_rounds f x y p q) (add_rounds f x' y' p' q')
    (add_cross (plus x) (less x) (den x) (plus x') (less x') (den x') (plus y) (less y) (den y) (plus y') (less y') (den y') (le→cross x x' p p' h) (le→cross y y' q q' k))

pub sub_mono : (f : Format) (x x' y y' : Float) → T (finite x) → T (finite x') → T (finite y) → T (finite y') → T (le x x') → T (le y' y) → T (le (sub f x y) (sub f x' y'))
sub_mono f x x' y y' p p' q q' h k = rw (sub_add f x y, sub_add f x' y') (add_mono f x x' (neg y) (neg y') p p' (neg_finite y q) (neg_finite y' q') h (neg_le y' y k))

-- ---- products with a factor not below zero
mul_cross : (p n c p' n' c' q d : ℕ) → p * c' + n' * c ≤ p' * c + n * c' → p * q * (c' * d) + n' * q * (c * d) ≤ p' * q * (c * d) + n * q * (c' * d)
mul_cross p n c p' n' c' q d h =
    let u = simp (add-mul, mul_assoc, mul_comm) at (mul-le-mul_right (q * d) h) in
    simp (mul_assoc, mul_left_comm) (omega (arith, u))

-- the product by a y that is not below zero
pub scaled : (f : Format) (x y : Float) → T (finite x) → T (finite y) → T (le nought y) → Rounds f (mul f x y) (plus x * plus y) (less x * plus y) (den x * den y)
scaled f x y p q h =
    let r = mul_rounds f x y p q in
    let e = less_zero y q h in
    let u : plus x * less y ≡ 0 = ap (λ (z : ℕ). plus x * z) e ∙ mul-zero (plus x) in
    let v : less x * less y ≡ 0 = ap (λ (z : ℕ). less x * z) e ∙ mul-zero (less x) in
    record { sign = r.sign; size = r.size; is = r.is; value = omega (arith, r.value) }

pub mul_right : (f : Format) (x x' y : Float) → T (finite x) → T (finite x') → T (finite y) → T (le nought y) → T (le x x') → T (le (mul f x y) (mul f x' y))
mul_right f x x' y p p' q n h =
    rounds_mono f (mul f x y) (mul f x' y) (plus x * plus y) (less x * plus y) (den x * den y) (plus x' * plus y) (less x' * plus y) (den x' * den y) (mul-pos (den_pos x) (den_pos y)) (mul-pos (den_pos x') (den_pos y)) (scaled f x y p q n) (scaled f x' y p' q n)
    (mul_cross (plus x) (less x) (den x) (plus x') (less x') (den x') (plus y) (den y) (le→cross x x' p p' h))

unlike_comm : (s t : Bool) → unlike s t ≡ unlike t s
unlike_comm true true = refl
unlike_comm true false = refl
unlike_comm false true = refl
unlike_comm false false = refl

pub mul_turn : (f : Format) (x y : Float) → mul f x y ≡ mul f y x
unfolding mul
mul_turn f nan nan = refl
mul_turn f nan (inf t) = refl
mul_turn f nan (fin t n d) = refl
mul_turn f (inf s) nan = refl
mul_turn f (inf s) (inf t) = ap inf (unlike_comm s t)
mul_turn f (inf s) (fin t n d) = ap (λ (b : Bool). cond (eqb n 0) nan (inf b)) (unlike_comm s t)
mul_turn f (fin s m e) nan = refl
mul_turn f (fin s m e) (inf t) = ap (λ (b : Bool). cond (eqb m 0) nan (inf b)) (unlike_comm s t)
mul_turn f (fin s m e) (fin t n d) = λ i. round f (unlike_comm s t i) (mul_comm (m * up e) (n * up d) i) (mul_comm (down e) (down d) i)

pub mul_left : (f : Format) (x y y' : Float) → T (finite x) → T (finite y) → T (finite y') → T (le nought x) → T (le y y') → T (le (mul f x y) (mul f x y'))
mul_left f x y y' p q q' n h = rw (mul_turn f x y, mul_turn f x y') (mul_right f y y' x q q' p n h)

neg_round : (f : Format) (s : Bool) (a c : ℕ) → round f (not s) a c ≡ neg (round f s a c)
neg_round f true a c = sym (ap neg (round_neg f a c) ∙ neg_neg (round f false a c))
neg_round f false a c = round_neg f a c

unlike_not : (s t : Bool) → unlike (not s) t ≡ not (unlike s t)
unlike_not true true = refl
unlike_not true false = refl
unlike_not false true = refl
unlike_not false false = refl

neg_cond : (b : Bool) (s : Bool) → cond b nan (inf (not s)) ≡ neg (cond b nan (inf s))
unfolding neg
neg_cond true s = refl
neg_cond false s = refl

pub neg_mul : (f : Format) (x y : Float) → mul f (neg x) y ≡ neg (mul f x y)
unfolding mul neg
neg_mul f nan y = refl
neg_mul f (inf s) nan = refl
neg_mul f (inf s) (inf t) = ap inf (unlike_not s t)
neg_mul f (inf s) (fin t n d) = ap (λ (b : Bool). cond (eqb n 0) nan (inf b)) (unlike_not s t) ∙ neg_cond (eqb n 0) (unlike s t)
neg_mul f (fin s m e) nan = refl
neg_mul f (fin s m e) (inf t) = ap (λ (b : Bool). cond (eqb m 0) nan (inf b)) (unlike_not s t) ∙ neg_cond (eqb m 0) (unlike s t)
neg_mul f (fin s m e) (fin t n d) = ap (λ (b : Bool). round f b (m * up e * (n * up d)) (down e * down d)) (unlike_not s t) ∙ neg_round f (unlike s t) (m * up e * (n * up d)) (down e * down d)

-- by a factor not above zero the order turns round
pub mul_anti : (f : Format) (x y y' : Float) → T (finite x) → T (finite y) → T (finite y') → T (le x nought) → T (le y y') → T (le (mul f x y') (mul f x y))
mul_anti f x y y' p q q' n h =
    rw (sym (neg_neg (mul f x y')), sym (neg_neg (mul f x y)), sym (neg_mul f x y'), sym (neg_mul f x y))
    (neg_le (mul f (neg x) y) (mul f (neg x) y') (mul_left f (neg x) y y' (neg_finite x p) q q' (neg_not_above x n) h))

pub mul_mono : (f : Format) (x x' y y' : Float) → T (finite x') → T (finite y') → T (le nought x) → T (le nought y) → T (le x x') → T (le y y') → T (le (mul f x y) (mul f x' y'))
mul_mono f x x' y y' p' q' m n h k =
    let p : T (finite x) = finite_between nought x x' tt p' m h in
    let q : T (finite y) = finite_between nought y y' tt q' n k in
    trans_le (mul f x y) (mul f x' y) (mul f x' y') (mul_right f x x' y p p' q n h) (mul_left f x' y y' p' q q' (trans_le nought x x' m h) k)

-- ---- zero, and results not below it
nought_rounds : (f : Format) → T (le nought (round f false 0 1)) × T (le (round f false 0 1) nought)
nought_rounds f = (
  zeros nought (round f false 0 1) false false 1 1 (lit< tt) (lit< tt) (refl, refl) (zero_val f false 1 (lit< tt)),
  zeros (round f false 0 1) nought false false 1 1 (lit< tt) (lit< tt) (zero_val f false 1 (lit< tt)) (refl, refl),
)

zero_rounds : (f : Format) → Rounds f (round f false 0 1) 0 0 1
zero_rounds f = record { sign = false; size = 0; is = refl; value = refl }

pub rounds_not_below : (f : Format) (z : Float) (p n c : ℕ) → 0 < c → Rounds f z p n c → n ≤ p → T (le nought z)
rounds_not_below f z p n c C r h = trans_le nought (round f false 0 1) z (nought_rounds f).0 (rounds_mono f (round f false 0 1) z 0 0 1 p n c (lit< tt) C (zero_rounds f) r (omega arith))

pub mul_not_below : (f : Format) (x y : Float) → T (finite x) → T (finite y) → T (le nought x) → T (le nought y) → T (le nought (mul f x y))
mul_not_below f x y p q m n =
    rounds_not_below f (mul f x y) (plus x * plus y) (less x * plus y) (den x * den y) (mul-pos (den_pos x) (den_pos y)) (scaled f x y p q n)
    (let e : less x * plus y ≡ 0 = ap (λ (z : ℕ). z * plus y) (less_zero x p m) ∙ zero-mul (plus y) in omega arith)

apart_parts : (x : Float) → plus x * less x ≡ 0
apart_parts nan = refl
apart_parts (inf s) = refl
apart_parts (fin true m e) = zero-mul (m * up e)
apart_parts (fin false m e) = mul-zero (m * up e)

pub square_not_below : (f : Format) (x : Float) → T (finite x) → T (le nought (mul f x x))
square_not_below f x p =
    rounds_not_below f (mul f x x) (plus x * plus x + less x * less x) (plus x * less x + less x * plus x) (den x * den x) (mul-pos (den_pos x) (den_pos x)) (mul_rounds f x x p p)
    (omega (arith, apart_parts x, mul_comm (less x) (plus x)))

-- ---- sizes of results
abs_signed : (s : Bool) (x : Float) → abs_of (signed s x) ≡ signed false x
abs_signed s nan = abs_nan
abs_signed s (inf t) = abs_inf s
abs_signed s (fin t m e) = abs_fin s m e

pub abs_round : (f : Format) (s : Bool) (a c : ℕ) → abs_of (round f s a c) ≡ round f false a c
abs_round f s a c = ap abs_of (round_signed f s a c) ∙ abs_signed s (round f false a c) ∙ sym (round_signed f false a c)

abs_cond : (b : Bool) (x y x' y' : Float) → abs_of x ≡ x' → abs_of y ≡ y' → abs_of (cond b x y) ≡ cond b x' y'
abs_cond true x y x' y' p q = p
abs_cond false x y x' y' p q = q

pub abs_mul : (f : Format) (x y : Float) → abs_of (mul f x y) ≡ mul f (abs_of x) (abs_of y)
unfolding mul
abs_mul f nan y = abs_nan ∙ ap (λ (z : Float). mul f z (abs_of y)) (sym abs_nan)
abs_mul f (inf s) nan = abs_nan ∙ λ i. mul f (sym (abs_inf s) i) (sym abs_nan i)
abs_mul f (inf s) (inf t) = abs_inf (unlike s t) ∙ λ i. mul f (sym (abs_inf s) i) (sym (abs_inf t) i)
abs_mul f (inf s) (fin t n d) = abs_cond (eqb n 0) nan (inf (unlike s t)) nan (inf false) abs_nan (abs_inf (unlike s t)) ∙ λ i. mul f (sym (abs_inf s) i) (sym (abs_fin t n d) i)
abs_mul f (fin s m e) nan = abs_nan ∙ λ i. mul f (sym (abs_fin s m e) i) (sym abs_nan i)
abs_mul f (fin s m e) (inf t) = abs_cond (eqb m 0) nan (inf (unlike s t)) nan (inf false) abs_nan (abs_inf (unlike s t)) ∙ λ i. mul f (sym (abs_fin s m e) i) (sym (abs_inf t) i)
abs_mul f (fin s m e) (fin t n d) = abs_round f (unlike s t) (m * up e * (n * up d)) (down e * down d) ∙ λ i. mul f (sym (abs_fin s m e) i) (sym (abs_fin t n d) i)

abs_zero : (s : Bool) → abs_of (fin s 0 (pos 0)) ≡ fin false 0 (pos 0)
abs_zero s = abs_fin s 0 (pos 0)

pub abs_div : (f : Format) (x y : Float) → abs_of (div f x y) ≡ div f (abs_of x) (abs_of y)
unfolding div
abs_div f nan y = abs_nan ∙ ap (λ (z : Float). div f z (abs_of y)) (sym abs_nan)
abs_div f (inf s) nan = abs_nan ∙ λ i. div f (sym (abs_inf s) i) (sym abs_nan i)
abs_div f (inf s) (inf t) = abs_nan ∙ λ i. div f (sym (abs_inf s) i) (sym (abs_inf t) i)
abs_div f (inf s) (fin t n d) = abs_inf (unlike s t) ∙ λ i. div f (sym (abs_inf s) i) (sym (abs_fin t n d) i)
abs_div f (fin s m e) nan = abs_nan ∙ λ i. div f (sym (abs_fin s m e) i) (sym abs_nan i)
abs_div f (fin s m e) (inf t) = abs_zero (unlike s t) ∙ λ i. div f (sym (abs_fin s m e) i) (sym (abs_inf t) i)
abs_div f (fin s m e) (fin t n d) =
    abs_cond (eqb n 0) (cond (eqb m 0) nan (inf (unlike s t))) (round f (unlike s t) (m * up e * down d) (n * up d * down e)) (cond (eqb m 0) nan (inf false)) (round f false (m * up e * down d) (n * up d * down e))
    (abs_cond (eqb m 0) nan (inf (unlike s t)) nan (inf false) abs_nan (abs_inf (unlike s t))) (abs_round f (unlike s t) (m * up e * down d) (n * up d * down e))
    ∙ λ i. div f (sym (abs_fin s m e) i) (sym (abs_fin t n d) i)

pub abs_finite : (x a : Float) → T (finite a) → T (le (abs_of x) a) → T (finite x)
abs_finite x a p h = finite_between (neg a) x a (neg_finite a p) p (abs→ge x a h) (abs→le x a h)

-- a sum turned round, up to the sign of a zero
rounds_neg : (f : Format) (z : Float) (p n c : ℕ) → Rounds f z p n c → Rounds f (neg z) n p c
rounds_neg f z p n c r = record { sign = not r.sign; size = r.size; is = ap neg r.is ∙ sym (neg_round f r.sign r.size c); value = go r.sign r.size r.value }
  where
    go : (s : Bool) (k : ℕ) → p + loss s k ≡ n + gain s k → n + loss (not s) k ≡ p + gain (not s) k
    go true k e = sym e
    go false k e = sym e

neg_add : (f : Format) (x y : Float) → T (finite x) → T (finite y) → T (le (neg (add f x y)) (add f (neg x) (neg y)))
neg_add f x y p q =
    let u = neg_parts x p in
    let v = neg_parts y q in
    let r = rw (u.0, u.1, u.2, v.0, v.1, v.2) at (add_rounds f (neg x) (neg y) (neg_finite x p) (neg_finite y q)) in
    rounds_mono f (neg (add f x y)) (add f (neg x) (neg y)) (less x * den y + less y * den x) (plus x * den y + plus y * den x) (den x * den y) (less x * den y + less y * den x) (plus x * den y + plus y * den x) (den x * den y)
    (mul-pos (den_pos x) (den_pos y)) (mul-pos (den_pos x) (den_pos y)) (rounds_neg f (add f x y) (plus x * den y + plus y * den x) (less x * den y + less y * den x) (den x * den y) (add_rounds f x y p q)) r (omega arith)

pub add_size : (f : Format) (x y a b : Float) → T (finite a) → T (finite b) → T (le (abs_of x) a) → T (le (abs_of y) b) → T (le (abs_of (add f x y)) (add f a b))
add_size f x y a b p q h k =
    let X = abs_finite x a p h in
    let Y = abs_finite y b q k in
    le→abs (add f x y) (add f a b)
    (trans_le (neg (add f a b)) (add f (neg a) (neg b)) (add f x y) (neg_add f a b p q) (add_mono f (neg a) x (neg b) y (neg_finite a p) X (neg_finite b q) Y (abs→ge x a h) (abs→ge y b k)))
    (add_mono f x a y b X p Y q (abs→le x a h) (abs→le y b k))

pub sub_size : (f : Format) (x y a b : Float) → T (finite a) → T (finite b) → T (le (abs_of x) a) → T (le (abs_of y) b) → T (le (abs_of (sub f x y)) (add f a b))
sub_size f x y a b p q h k = rw sub_add (add_size f x (neg y) a b p q h (subst (λ (z : Float). T (le z b)) (sym (abs_neg y)) k))

pub mul_size : (f : Format) (x y a b : Float) → T (finite a) → T (finite b) → T (le (abs_of x) a) → T (le (abs_of y) b) → T (le (abs_of (mul f x y)) (mul f a b))
mul_size f x y a b p q h k =
    subst (λ (z : Float). T (le z (mul f a b))) (sym (abs_mul f x y))
    (mul_mono f (abs_of x) a (abs_of y) b p q (abs_not_below x (abs_no_nan x a h)) (abs_not_below y (abs_no_nan y b k)) h k)

-- ---- quotients
unlike_false : (s : Bool) → unlike s false ≡ s
unlike_false true = refl
unlike_false false = refl

div_round : (f : Format) (s : Bool) (m : ℕ) (e : ℤ) (n : ℕ) (d : ℤ) → 0 < n → div f (fin s m e) (fin false n d) ≡ round f s (m * up e * down d) (n * up d * down e)
unfolding div
div_round f s m e n d h = cond_false _ _ (ne_eqb n 0 (λ z. omega arith)) ∙ ap (λ (b : Bool). round f b (m * up e * down d) (n * up d * down e)) (unlike_false s)

pub div_rounds : (f : Format) (x y : Float) → T (finite x) → T (positive y) → Rounds f (div f x y) (plus x * den y) (less x * den y) (plus y * den x)
div_rounds f nan y p q = absurd p
div_rounds f (inf s) y p q = absurd p
div_rounds f (fin s m e) nan p q = absurd q
div_rounds f (fin s m e) (inf t) p q = absurd q
div_rounds f (fin s m e) (fin true n d) p q = absurd q
div_rounds f (fin s m e) (fin false n d) p q = record {
  sign = s;
  size = m * up e * down d;
  is = div_round f s m e n d (ltb→lt 0 n q);
  value = rw (gain_mul s (m * up e) (down d), loss_mul s (m * up e) (down d)) (omega arith);
}

pub positive_plus : (y : Float) → T (positive y) → 0 < plus y
positive_plus nan p = absurd p
positive_plus (inf s) p = absurd p
positive_plus (fin true n d) p = absurd p
positive_plus (fin false n d) p = mul-pos (ltb→lt 0 n p) (up_pos d)

quotient_pos : (x y : Float) → T (positive y) → 0 < plus y * den x
quotient_pos x y p = mul-pos (positive_plus y p) (den_pos x)

-- of a dividend of any sign
pub div_right : (f : Format) (x x' y : Float) → T (finite x) → T (finite x') → T (positive y) → T (le x x') → T (le (div f x y) (div f x' y))
div_right f x x' y p p' q h =
    rounds_mono f (div f x y) (div f x' y) (plus x * den y) (less x * den y) (plus y * den x) (plus x' * den y) (less x' * den y) (plus y * den x') (quotient_pos x y q) (quotient_pos x' y q) (div_rounds f x y p q) (div_rounds f x' y p' q)
    (let u = simp (add-mul, mul_assoc, mul_comm) at (mul-le-mul_right (plus y * den y) (le→cross x x' p p' h)) in simp (mul_assoc, mul_comm, mul_left_comm) (omega (arith, u)))

pub div_not_below : (f : Format) (x y : Float) → T (finite x) → T (positive y) → T (le nought x) → T (le nought (div f x y))
div_not_below f x y p q h =
    rounds_not_below f (div f x y) (plus x * den y) (less x * den y) (plus y * den x) (quotient_pos x y q) (div_rounds f x y p q)
    (let e : less x * den y ≡ 0 = ap (λ (z : ℕ). z * den y) (less_zero x p h) ∙ zero-mul (den y) in omega arith)

-- by an infinity, a zero
by_inf : (f : Format) (x : Float) → T (finite x) → T (le (div f x (inf false)) nought)
unfolding div
by_inf f nan p = absurd p
by_inf f (inf s) p = absurd p
by_inf f (fin s m e) p = apart (fin (unlike s false) 0 (pos 0)) nought tt tt (gain_zero (unlike s false) (0 * 2 ^ 0) refl) refl

inf_above : (f : Format) (x : Float) → T (finite x) → T (le nought (div f x (inf false)))
unfolding div
inf_above f nan p = absurd p
inf_above f (inf s) p = absurd p
inf_above f (fin s m e) p = apart nought (fin (unlike s false) 0 (pos 0)) tt tt refl (loss_zero (unlike s false) (0 * 2 ^ 0) refl)

pub div_above : (f : Format) (x y : Float) → T (finite x) → T (above y) → T (le nought x) → T (le nought (div f x y))
div_above f x nan p q h = absurd q
div_above f x (inf true) p q h = absurd q
div_above f x (inf false) p q h = inf_above f x p
div_above f x (fin true n d) p q h = absurd q
div_above f x (fin false n d) p q h = div_not_below f x (fin false n d) p q h

by_zero : (f : Format) (m : ℕ) (e d : ℤ) → 0 < m → div f (fin false m e) (fin false 0 d) ≡ inf false
unfolding div
by_zero f m e d h = cond_false nan (inf false) (ne_eqb m 0 (λ z. omega arith))

-- a number above zero by one with no sign, +0 included
pub div_plus : (f : Format) (x y : Float) → T (positive x) → T (finite y) → negative y ≡ false → T (le nought (div f x y))
unfolding negative is_nan
div_plus f x nan p q e = absurd q
div_plus f x (inf t) p q e = absurd q
div_plus f x (fin true n d) p q e = never' e
div_plus f nan (fin false n d) p q e = absurd p
div_plus f (inf s) (fin false n d) p q e = absurd p
div_plus f (fin true m i) (fin false n d) p q e = absurd p
div_plus f (fin false m i) (fin false zero d) p q e = subst (λ (z : Float). T (le nought z)) (sym (by_zero f m i d (ltb→lt 0 m p))) (le_inf nought tt)
div_plus f (fin false m i) (fin false (suc n) d) p q e = div_not_below f (fin false m i) (fin false (suc n) d) tt (lt→ltb 0 (suc n) (omega arith)) (apart nought (fin false m i) tt tt refl refl)

div_cross : (p c p' c' q d q' d' : ℕ) → p * c' ≤ p' * c → q' * d ≤ q * d' → p * d * (q' * c') ≤ p' * d' * (q * c)
div_cross p c p' c' q d q' d' h k =
    let u = simp (mul_assoc, mul_comm) at (mul-le-mul h k) in
    simp (mul_assoc, mul_comm, mul_left_comm) (omega (arith, u))

-- the order of values not below zero
pub flat : (x y : Float) → T (finite x) → T (finite y) → T (le nought x) → T (le nought y) → T (le x y) → plus x * den y ≤ plus y * den x
flat x y p q m n h =
    let u : less x * den y ≡ 0 = ap (λ (z : ℕ). z * den y) (less_zero x p m) ∙ zero-mul (den y) in
    omega (arith, le→cross x y p q h)

div_flat : (f : Format) (x y : Float) → T (finite x) → T (positive y) → T (le nought x) → Rounds f (div f x y) (plus x * den y) 0 (plus y * den x)
div_flat f x y p q h = subst (λ (n : ℕ). Rounds f (div f x y) (plus x * den y) n (plus y * den x)) (ap (λ (z : ℕ). z * den y) (less_zero x p h) ∙ zero-mul (den y)) (div_rounds f x y p q)

pub positive_above : (y : Float) → T (positive y) → T (le nought y)
positive_above nan p = absurd p
positive_above (inf s) p = absurd p
positive_above (fin true n d) p = absurd p
positive_above (fin false n d) p = apart nought (fin false n d) tt tt refl refl

-- of a dividend and a divisor that are not below zero
pub div_mono : (f : Format) (x x' y y' : Float) → T (finite x') → T (positive y') → T (le nought x) → T (le x x') → T (le y' y) → T (le (div f x y) (div f x' y'))
div_mono f x x' y y' p' q' n h k = go y k (above_of_le y' y q' k)
  where
    p : T (finite x)
    p = finite_between nought x x' tt p' n h

    n' : T (le nought x')
    n' = trans_le nought x x' n h

    finish : (y : Float) → T (positive y) → T (le y' y) → T (le (div f x y) (div f x' y'))
    finish y q k =
        rounds_mono f (div f x y) (div f x' y') (plus x * den y) 0 (plus y * den x) (plus x' * den y') 0 (plus y' * den x') (quotient_pos x y q) (quotient_pos x' y' q') (div_flat f x y p q n) (div_flat f x' y' p' q' n')
        (omega (arith, div_cross (plus x) (den x) (plus x') (den x') (plus y) (den y) (plus y') (den y') (flat x x' p p' n n' h) (flat y' y (positive-finite y' q') (positive-finite y q) (positive_above y' q') (positive_above y q) k)))

    go : (y : Float) → T (le y' y) → T (above y) → T (le (div f x y) (div f x' y'))
    go nan k a = absurd a
    go (inf true) k a = absurd a
    go (inf false) k a = trans_le (div f x (inf false)) nought (div f x' y') (by_inf f x p) (div_not_below f x' y' p' q' n')
    go (fin true m e) k a = absurd a
    go (fin false m e) k a = finish (fin false m e) a k

pub div_size : (f : Format) (x y a b : Float) → T (finite a) → T (positive b) → T (le (abs_of x) a) → T (le b (abs_of y)) → T (le (abs_of (div f x y)) (div f a b))
div_size f x y a b p q h k =
    subst (λ (z : Float). T (le z (div f a b))) (sym (abs_div f x y)) (div_mono f (abs_of x) a (abs_of y) b p q (abs_not_below x (abs_no_nan x a h)) h k)

-- ---- narrowing
round_no_nan : (f : Format) (s : Bool) (a c : ℕ) → 0 < c → T (not (is_nan (round f s a c)))
round_no_nan f s a c C =
    let r : Rounds f (round f s a c) (gain s a) (loss s a) c = record { sign = s; size = a; is = refl; value = omega arith } in
    le_left (round f s a c) (round f s a c) (rounds_mono f (round f s a c) (round f s a c) (gain s a) (loss s a) c (gain s a) (loss s a) c C C r r (omega arith))

pub narrow_no_nan : (x : Float) → T (not (is_nan x)) → T (not (is_nan (narrow_of x)))
unfolding narrow_of is_nan
narrow_no_nan nan h = h
narrow_no_nan (inf s) h = h
narrow_no_nan (fin s m e) h = round_no_nan binary32 s (m * up e) (down e) (down_pos e)

narrow_inf : (s : Bool) → narrow_of (inf s) ≡ inf s
unfolding narrow_of
narrow_inf s = refl

pub narrow_mono : (x y : Float) → T (le x y) → T (le (narrow_of x) (narrow_of y))
unfolding is_nan
narrow_mono nan y h = absurd (le_left nan y h)
narrow_mono (inf true) y h = subst (λ (z : Float). T (le z (narrow_of y))) (sym (narrow_inf true)) (inf_le (narrow_of y) (narrow_no_nan y (le_right (inf true) y h)))
narrow_mono (inf false) nan h = absurd (le_right (inf false) nan h)
narrow_mono (inf false) (inf true) h = absurd (unfold le in h)
narrow_mono (inf false) (inf false) h = refl_le (narrow_of (inf false)) (narrow_no_nan (inf false) tt)
narrow_mono (inf false) (fin t n d) h = absurd (unfold le in h)
narrow_mono (fin s m e) nan h = absurd (le_right (fin s m e) nan h)
narrow_mono (fin s m e) (inf true) h = absurd (unfold le in h)
narrow_mono (fin s m e) (inf false) h = subst (λ (z : Float). T (le (narrow_of (fin s m e)) z)) (sym (narrow_inf false)) (le_inf (narrow_of (fin s m e)) (narrow_no_nan (fin s m e) tt))
narrow_mono (fin s m e) (fin t n d) h =
    let x = fin s m e in
    let y = fin t n d in
    rounds_mono binary32 (narrow_of x) (narrow_of y) (plus x) (less x) (den x) (plus y) (less y) (den y) (down_pos e) (down_pos d) (narrow_rounds x tt) (narrow_rounds y tt) (le→cross x y tt tt h)

pub abs_narrow : (x : Float) → abs_of (narrow_of x) ≡ narrow_of (abs_of x)
unfolding narrow_of
abs_narrow nan = abs_nan ∙ ap narrow_of (sym abs_nan)
abs_narrow (inf s) = abs_inf s ∙ ap narrow_of (sym (abs_inf s))
abs_narrow (fin s m e) = abs_round binary32 s (m * up e) (down e) ∙ ap narrow_of (sym (abs_fin s m e))

pub narrow_size : (x a : Float) → T (le (abs_of x) a) → T (le (abs_of (narrow_of x)) (narrow_of a))
narrow_size x a h = subst (λ (z : Float). T (le z (narrow_of a))) (sym (abs_narrow x)) (narrow_mono (abs_of x) a h)

signed_negative : (s : Bool) (x : Float) → T (not (is_nan x)) → negative (signed s x) ≡ s
unfolding negative is_nan
signed_negative s nan h = absurd h
signed_negative s (inf t) h = refl
signed_negative s (fin t m e) h = refl

pub round_negative : (f : Format) (s : Bool) (a c : ℕ) → 0 < c → negative (round f s a c) ≡ s
round_negative f s a c C = ap negative (round_signed f s a c) ∙ signed_negative s (round f false a c) (round_no_nan f false a c C)

-- a sum that is not below zero has no sign, where its first operand has none
pub add_negative : (f : Format) (x y : Float) → T (finite x) → T (finite y) → negative x ≡ false → T (le (neg y) x) → negative (add f x y) ≡ false
unfolding negative neg sum
add_negative f nan y p q e h = absurd p
add_negative f (inf s) y p q e h = absurd p
add_negative f (fin true m i) y p q e h = never' e
add_negative f (fin false m i) nan p q e h = absurd q
add_negative f (fin false m i) (inf t) p q e h = absurd q
add_negative f (fin false m i) (fin false n d) p q e h = ap negative (add_sum f false m i false n d) ∙ round_negative f false (m * up i * down d + n * up d * down i) (down i * down d) (mul-pos (down_pos i) (down_pos d))
add_negative f (fin false m i) (fin true n d) p q e h =
    let a = m * up i * down d in
    let b = n * up d * down i in
    let l : b ≤ a = flat (fin false n d) (fin false m i) tt tt (apart nought (fin false n d) tt tt refl refl) (apart nought (fin false m i) tt tt refl refl) h in
    ap negative (add_sum f false m i true n d ∙ cond_false (round f true (b - a) (down i * down d)) (round f false (a - b) (down i * down d)) (le-ltb a b l))
    ∙ round_negative f false (a - b) (down i * down d) (mul-pos (down_pos i) (down_pos d))
