-- What sin and cos leave of an argument up to 1000 in size, v - n × π/2, is 7/4 at most in size:
-- between two floats of a coarse grid a value is rounded to between them, so n is little more than
-- 1 from v / (π/2). Assumes nothing.
use Rattle.std.proofs.Common.{◌≡◌, ℕ, ◌+◌, ◌-◌, ◌*◌, ◌/◌, ◌^◌, ◌<◌, ◌≤◌, Bool, true, false, T, pos, negsuc, sym, ap, ◌∙◌, subst, true≢false, zero-le, lt_of_lt_of_le, mul-le-mul_right, mul_assoc, mul_comm, div-lt_iff_lt-mul, add-mul, mul-pos, le-div_iff_mul-le, zero-mul, div-mul-le_self, le_of_mul-le-mul_right, mul_left_comm, arith, lit<, lit≤, pow_pos, pow_mono, pow-add, shl_lt, Float}
use lib.Ieee.{nan, inf, fin, binary64, up, down, round, sum, add, sub, mul, neg, le}
use lib.Ieee.Exact.{HasValue, round_exact}
use lib.Ieee.Scale.{finite}
use lib.Ieee.Positive.{den, den_pos}
use Rattle.base.specs.Double.{fraction}
use Rattle.base.specs.Number.{abs_of}
use Rattle.base.specs.Elementary.{near_of, half_pi, turns_of, reduced_of}
use Rattle.base.proofs.order.Order.{gain, loss, plus, less, le→cross, cross→le, finite_between, nought, Between, abs_fin}
use Rattle.base.proofs.order.Monotone.{Rounds, rounds_mono, sum_rounds, add_rounds, sub_rounds, scaled, abs_finite}

-- ---- (a - B) / 2 ^ j as a float, exactly
gain_at : (t s : Bool) (x k r d : ℕ) → t ≡ s → x * k ≡ r * d → (gain t x * k ≡ gain s r * d) × (loss t x * k ≡ loss s r * d)
gain_at true true x k r d u e = (omega (arith, zero-mul k, zero-mul d), e)
gain_at true false x k r d u e = absurd (true≢false u)
gain_at false true x k r d u e = absurd (true≢false (sym u))
gain_at false false x k r d u e = (e, omega (arith, zero-mul k, zero-mul d))

small : (s : Bool) (a b r m : ℕ) → a + loss s r ≡ b + gain s r → a < b + m → b < a + m → r < m
small true a b r m e h k = omega arith
small false a b r m e h k = omega arith

-- the value of z is (p - n) / c
abbrev Equals : Float → ℕ → ℕ → ℕ → Type 0
Equals z p n c = plus z * c + n * den z ≡ less z * c + p * den z

equals : (z : Float) (s : Bool) (r p n c : ℕ) → HasValue z s r c → p + loss s r ≡ n + gain s r → Equals z p n c
equals nan s r p n c h e = absurd h
equals (inf t) s r p n c h e = absurd h
equals (fin t m i) s r p n c h e =
    let g = gain_at t s (m * up i) c r (down i) h.0 h.1 in
    omega (arith, g.0, g.1, ap (λ (z : ℕ). z * down i) e, add-mul p (loss s r) (down i), add-mul n (gain s r) (down i))

module _ (j a B : ℕ) (J : j ≤ 1074) (h : a < B + 2 ^ 53) (k : B < a + 2 ^ 53) where
  at_rounds : Rounds binary64 (sum binary64 false a true B (2 ^ j)) (a + 0) (0 + B) (2 ^ j)
  at_rounds = sum_rounds binary64 false a true B (2 ^ j)

  at_value : HasValue (sum binary64 false a true B (2 ^ j)) at_rounds.sign at_rounds.size (2 ^ j)
  at_value =
      let s = at_rounds.sign in
      let r = at_rounds.size in
      let R : r < 2 ^ 53 = small s (a + 0) (0 + B) r (2 ^ 53) at_rounds.value (omega arith) (omega arith) in
      let e : 1074 - j + j ≡ 1074 = omega arith in
      subst (λ (z : Float). HasValue z s r (2 ^ j)) (sym at_rounds.is)
      (round_exact binary64 s r (2 ^ j) r (1074 - j) (pow_pos j) R (lt_of_lt_of_le (shl_lt 53 (1074 - j) R) (pow_mono {i = 53 + (1074 - j)} {j = 2098} (omega arith)))
      (ap (λ (x : ℕ). r * 2 ^ x) (sym e) ∙ ap (λ (x : ℕ). r * x) (pow-add 2 (1074 - j) j) ∙ sym (mul_assoc r (2 ^ (1074 - j)) (2 ^ j))))

  at_equals : Equals (sum binary64 false a true B (2 ^ j)) (a + 0) (0 + B) (2 ^ j)
  at_equals = equals (sum binary64 false a true B (2 ^ j)) at_rounds.sign at_rounds.size (a + 0) (0 + B) (2 ^ j) at_value at_rounds.value

  at_finite : T (finite (sum binary64 false a true B (2 ^ j)))
  at_finite = go (sum binary64 false a true B (2 ^ j)) at_value
    where
      go : (z : Float) → HasValue z at_rounds.sign at_rounds.size (2 ^ j) → T (finite z)
      go nan v = absurd v
      go (inf t) v = absurd v
      go (fin t m i) v = tt

-- ---- x between (a - B) / G and (b - B) / G
record In (B G a b : ℕ) (x : Float) : Type 0 where
  pub fine : T (finite x)
  pub low : less x * G + a * den x ≤ plus x * G + B * den x
  pub high : plus x * G + B * den x ≤ less x * G + b * den x

-- from the order of floats to that of values: with z equal to (a - B) / G
over : (p n d q m e a B G : ℕ) → 0 < d → p * G + B * d ≡ n * G + a * d → p * e + m * d ≤ q * d + n * e → m * G + a * e ≤ q * G + B * e
over p n d q m e a B G D u h =
    le_of_mul-le-mul_right
    (let v = simp (add-mul, mul_assoc, mul_comm) at (mul-le-mul_right G h) in
    let w = simp (add-mul, mul_assoc, mul_comm) at (ap (λ (z : ℕ). z * e) u) in
    simp (add-mul, mul_assoc, mul_comm, mul_left_comm) (omega (arith, v, w)))
    D

-- a and b are near B
abbrev Near : ℕ → ℕ → Type 0
Near B a = (a < B + 2 ^ 53) × (B < a + 2 ^ 53)

-- what lies between two values of the grid is rounded to between them
keep : (j B a b p n c : ℕ) (z : Float) → j ≤ 1074 → Near B a → Near B b → 0 < c → Rounds binary64 z p n c → n * 2 ^ j + a * c ≤ p * 2 ^ j + B * c → p * 2 ^ j + B * c ≤ n * 2 ^ j + b * c → In B (2 ^ j) a b z
keep j B a b p n c z J A A' C r h k =
    let x = sum binary64 false a true B (2 ^ j) in
    let y = sum binary64 false b true B (2 ^ j) in
    let X = at_finite j a B J A.0 A.1 in
    let Y = at_finite j b B J A'.0 A'.1 in
    let l : T (le x z) = rounds_mono binary64 x z (a + 0) (0 + B) (2 ^ j) p n c (pow_pos j) C (at_rounds j a B J A.0 A.1) r (omega arith) in
    let m : T (le z y) = rounds_mono binary64 z y p n c (b + 0) (0 + B) (2 ^ j) C (pow_pos j) r (at_rounds j b B J A'.0 A'.1) (omega arith) in
    let Z = finite_between x z y X Y l m in
    record {
      fine = Z;
      low = over (plus x) (less x) (den x) (plus z) (less z) (den z) a B (2 ^ j) (den_pos x) (omega (arith, at_equals j a B J A.0 A.1)) (le→cross x z X Z l);
      high = over (less y) (plus y) (den y) (less z) (plus z) (den z) B b (2 ^ j) (den_pos y) (omega (arith, at_equals j b B J A'.0 A'.1)) (omega (arith, le→cross z y Z Y m));
    }

-- ---- the operations: x in [a, b], y in [c, d], the result in [l, m]
sum_order : (p n e q m i a b c d l h G : ℕ) → n * G + a * e ≤ p * G + b * e → m * G + c * i ≤ q * G + d * i → l + (b + d) ≤ h + (a + c) → (n * i + m * e) * G + l * (e * i) ≤ (p * i + q * e) * G + h * (e * i)
sum_order p n e q m i a b c d l h G u v w =
    let x = simp (add-mul, mul_assoc, mul_comm) at (mul-le-mul_right i u) in
    let y = simp (add-mul, mul_assoc, mul_comm, mul_left_comm) at (mul-le-mul_right e v) in
    let z = simp (add-mul, mul_comm, mul_left_comm) at (mul-le-mul_right (e * i) w) in
    simp (add-mul, mul_assoc, mul_comm, mul_left_comm) (omega (arith, x, y, z))

module _ (j B : ℕ) (J : j ≤ 1074) {a b c d : ℕ} {x y : Float} (l m : ℕ) (L : Near B l) (M : Near B m) where
  add_keeps : l + B ≤ a + c → b + d ≤ m + B → In B (2 ^ j) a b x → In B (2 ^ j) c d y → In B (2 ^ j) l m (add binary64 x y)
  add_keeps h k u v =
      keep j B l m (plus x * den y + plus y * den x) (less x * den y + less y * den x) (den x * den y) (add binary64 x y) J L M (mul-pos (den_pos x) (den_pos y)) (add_rounds binary64 x y u.fine v.fine)
      (sum_order (plus x) (less x) (den x) (plus y) (less y) (den y) a B c B l B (2 ^ j) u.low v.low (omega arith))
      (sum_order (less x) (plus x) (den x) (less y) (plus y) (den y) B b B d B m (2 ^ j) u.high v.high (omega arith))

  sub_keeps : l + d ≤ a + B → b + B ≤ m + c → In B (2 ^ j) a b x → In B (2 ^ j) c d y → In B (2 ^ j) l m (sub binary64 x y)
  sub_keeps h k u v =
      keep j B l m (plus x * den y + less y * den x) (less x * den y + plus y * den x) (den x * den y) (sub binary64 x y) J L M (mul-pos (den_pos x) (den_pos y)) (sub_rounds binary64 x y u.fine v.fine)
      (sum_order (plus x) (less x) (den x) (less y) (plus y) (den y) a B B d l B (2 ^ j) u.low v.high (omega arith))
      (sum_order (less x) (plus x) (den x) (plus y) (less y) (den y) B b c B B m (2 ^ j) u.high v.low (omega arith))

-- by y, not below zero, from the grid of G to that of H
product_order : (p n e K D a b l h G H : ℕ) → 0 < G → n * G + a * e ≤ p * G + b * e → l * (G * D) + b * (K * H) ≤ h * (G * D) + a * (K * H) → n * K * H + l * (e * D) ≤ p * K * H + h * (e * D)
product_order p n e K D a b l h G H P u w =
    le_of_mul-le-mul_right
    (let x = simp (add-mul, mul_assoc, mul_comm, mul_left_comm) at (mul-le-mul_right (K * H) u) in
    let y = simp (add-mul, mul_assoc, mul_comm, mul_left_comm) at (mul-le-mul_right e w) in
    simp (add-mul, mul_assoc, mul_comm, mul_left_comm) (omega (arith, x, y)))
    P

mul_keeps : (j B : ℕ) → j ≤ 1074 → {G a b : ℕ} {x : Float} (y : Float) (l m : ℕ) → Near B l → Near B m → 0 < G → T (finite y) → T (le nought y)
    → l * (G * den y) + B * (plus y * 2 ^ j) ≤ B * (G * den y) + a * (plus y * 2 ^ j) → B * (G * den y) + b * (plus y * 2 ^ j) ≤ m * (G * den y) + B * (plus y * 2 ^ j) → In B G a b x → In B (2 ^ j) l m (mul binary64 x y)
mul_keeps j B J {G} {a} {b} {x} y l m L M P q n h k u =
    keep j B l m (plus x * plus y) (less x * plus y) (den x * den y) (mul binary64 x y) J L M (mul-pos (den_pos x) (den_pos y)) (scaled binary64 x y u.fine q n)
    (product_order (plus x) (less x) (den x) (plus y) (den y) a B l B G (2 ^ j) P u.low h)
    (product_order (less x) (plus x) (den x) (plus y) (den y) B b B m G (2 ^ j) P u.high k)

-- ---- an argument up to 1000 in size, on the grid of 2 ^ -10 with 2 ^ 24 for zero
abbrev B : ℕ
B = 2 ^ 24

abbrev pub thousand : Float
thousand = fin false 125 (pos 3)

parts_le : (v : Float) → T (le (abs_of v) thousand) → (plus v ≤ 1000 * den v) × (less v ≤ 1000 * den v)
parts_le nan h = (zero-le, zero-le)
parts_le (inf s) h = (zero-le, zero-le)
parts_le (fin s m e) h = go s (le→cross (fin false m e) thousand tt tt (subst (λ (z : Float). T (le z thousand)) (abs_fin s m e) h))
  where
    go : (s : Bool) → m * up e * 1 + 0 * down e ≤ 1000 * down e + 0 * 1 → (gain s (m * up e) ≤ 1000 * down e) × (loss s (m * up e) ≤ 1000 * down e)
    go true h = (omega arith, omega arith)
    go false h = (omega arith, omega arith)

record Start (v : Float) : Type 0 where
  pub a : ℕ
  pub least : B ≤ a + 1024000
  pub most : a ≤ B + 1024000
  pub held : In B (2 ^ 10) a (a + 1) v

start : (v : Float) → T (le (abs_of v) thousand) → Start v
start v h =
    let d = den v in
    let n = plus v * 1024 + 2 ^ 24 * d - less v * 1024 in
    let w = parts_le v h in
    let D = den_pos v in
    let x = div-mul-le_self n d in
    let y : n < (n / d + 1) * d = (div-lt_iff_lt-mul D).0 (omega arith) in
    let l : 15753216 ≤ n / d = (le-div_iff_mul-le D).1 (omega arith) in
    let m : n / d < 17801217 = (div-lt_iff_lt-mul D).1 (omega arith) in
    record { a = n / d; least = omega arith; most = omega arith; held = record { fine = abs_finite v thousand tt h; low = omega arith; high = omega arith } }

-- ---- v × 0.6366.., n, n × 1.5707.., and what is left
abbrev pub factor : Float
factor = fin false 5734161139222659 (negsuc 52)

abbrev right : Float
right = fin false 884279719003555 (negsuc 48)

abbrev pub big : Float
big = fin false 3 (pos 51)

abbrev rest : Float
rest = fin false 4967757600021511 (negsuc 105)

-- ends of n, from v's: 667544 is 0.6366.. × 2 ^ 20, cut
abbrev low_turn : ℕ → ℕ
low_turn a = (a * 667544 + 2 ^ 54 - 2 ^ 24 * 667544 - 1024000) / 2 ^ 30

abbrev high_turn : ℕ → ℕ
high_turn a = ((a + 1) * 667544 + 2 ^ 54 - 2 ^ 24 * 667544 + 1024001) / 2 ^ 30 + 1

-- ends of n × 1.5707.., from n's: 1647099 is 1.5707.. × 2 ^ 20, cut
abbrev low_arc : ℕ → ℕ
low_arc l = (l * 1647099 * 1024 + 2 ^ 44 - 2 ^ 34 * 1647099 - 640 * 1024) / 2 ^ 20

abbrev high_arc : ℕ → ℕ
high_arc m = (m * 1647099 * 1024 + 2 ^ 44 - 2 ^ 34 * 1647099 + 640 * 1024) / 2 ^ 20 + 1

turn_ends : (a : ℕ) → 2 ^ 24 ≤ a + 1024000 → a ≤ 2 ^ 24 + 1024000 → (a * 667544 + 2 ^ 54 < (low_turn a + 1) * 2 ^ 30 + 2 ^ 24 * 667544 + 1024000) × (high_turn a * 2 ^ 30 + 2 ^ 24 * 667544 ≤ (a + 1) * 667544 + 2 ^ 54 + 1024001 + 2 ^ 30)
turn_ends a h k = (omega arith, omega arith)

arc_low : (l : ℕ) → 2 ^ 24 ≤ l + 640 → l * 1647099 * 1024 + 2 ^ 44 < (low_arc l + 1) * 2 ^ 20 + 2 ^ 34 * 1647099 + 640 * 1024
arc_low l h = omega arith

arc_high : (m : ℕ) → 2 ^ 24 ≤ m + 640 → high_arc m * 2 ^ 20 + 2 ^ 34 * 1647099 ≤ m * 1647099 * 1024 + 2 ^ 44 + 640 * 1024 + 2 ^ 20
arc_high m h = omega arith

-- n × 1.5707.. is not far from v
far : (a l m x y : ℕ) → 2 ^ 24 ≤ a + 1024000 → a ≤ 2 ^ 24 + 1024000 → a * 667544 + 2 ^ 54 < (l + 1) * 2 ^ 30 + 2 ^ 24 * 667544 + 1024000 → m * 2 ^ 30 + 2 ^ 24 * 667544 ≤ (a + 1) * 667544 + 2 ^ 54 + 1024001 + 2 ^ 30
    → l * 1647099 * 1024 + 2 ^ 44 < (x + 1) * 2 ^ 20 + 2 ^ 34 * 1647099 + 640 * 1024 → y * 2 ^ 20 + 2 ^ 34 * 1647099 ≤ m * 1647099 * 1024 + 2 ^ 44 + 640 * 1024 + 2 ^ 20
    → 2 ^ 24 - 1791 + y ≤ a + 2 ^ 24 × a + 1 + 2 ^ 24 ≤ 2 ^ 24 + 1791 + x
far a l m x y h k p q r t = (omega arith, omega arith)

above_zero : T (le nought factor) × T (le nought right) × T (le nought rest)
unfolding le
above_zero = (tt, tt, tt)

rest_low : (D Q l : ℕ) → 640 * Q ≤ D → 2 ^ 24 ≤ l + 640 → (2 ^ 24 - 1) * D + 2 ^ 24 * Q ≤ 2 ^ 24 * D + l * Q
rest_low D Q l h k = let x = simp add-mul at (mul-le-mul_right Q k) in omega (arith, x)

rest_high : (D Q m : ℕ) → 640 * Q ≤ D → m ≤ 2 ^ 24 + 640 → 2 ^ 24 * D + m * Q ≤ (2 ^ 24 + 1) * D + 2 ^ 24 * Q
rest_high D Q m h k = let x = simp add-mul at (mul-le-mul_right Q k) in omega (arith, x)

module _ (v : Float) (a : ℕ) (A : 2 ^ 24 ≤ a + 1024000) (A' : a ≤ 2 ^ 24 + 1024000) (u : In B (2 ^ 10) a (a + 1) v) where
  low_turn_law : 2 ^ 24 ≤ low_turn a + 640
  low_turn_law = omega arith

  high_turn_law : high_turn a ≤ 2 ^ 24 + 640
  high_turn_law = omega arith

  product_in : In B (2 ^ 0) (low_turn a) (high_turn a) (mul binary64 v factor)
  product_in = mul_keeps 0 B (lit≤ tt) factor (low_turn a) (high_turn a) (omega arith, omega arith) (omega arith, omega arith) (lit< tt) tt above_zero.0 (omega arith) (omega arith) u

  turns_in : In B (2 ^ 0) (low_turn a) (high_turn a) (sub binary64 (add binary64 (mul binary64 v factor) big) big)
  turns_in =
      let l = low_turn a + 3 * 2 ^ 51 in
      let m = high_turn a + 3 * 2 ^ 51 in
      let c = 2 ^ 24 + 3 * 2 ^ 51 in
      let b : In B (2 ^ 0) (2 ^ 24 + 3 * 2 ^ 51) (2 ^ 24 + 3 * 2 ^ 51) big = record { fine = tt; low = lit≤ tt; high = lit≤ tt } in
      sub_keeps 0 B (lit≤ tt) (low_turn a) (high_turn a) (omega arith, omega arith) (omega arith, omega arith) (omega arith) (omega arith)
      (add_keeps 0 B (lit≤ tt) l m (omega arith, omega arith) (omega arith, omega arith) (omega arith) (omega arith) product_in b) b

  module _ (n : Float) (t : In B (2 ^ 0) (low_turn a) (high_turn a) n) where
    arc_in : In B (2 ^ 10) (low_arc (low_turn a)) (high_arc (high_turn a)) (mul binary64 n right)
    arc_in =
        let l = low_turn a in
        let L = low_turn_law in
        let m = high_turn a in
        let M = high_turn_law in
        mul_keeps 10 B (lit≤ tt) right (low_arc (low_turn a)) (high_arc (high_turn a)) (omega arith, omega arith) (omega arith, omega arith) (lit< tt) tt above_zero.1 (omega arith) (omega arith) t

    rest_in : In B (2 ^ 10) (2 ^ 24 - 1) (2 ^ 24 + 1) (mul binary64 n rest)
    rest_in =
        mul_keeps 10 B (lit≤ tt) rest (2 ^ 24 - 1) (2 ^ 24 + 1) (lit< tt, lit< tt) (lit< tt, lit< tt) (lit< tt) tt above_zero.2
        (rest_low (2 ^ 0 * 2 ^ 106) (4967757600021511 * 1 * 2 ^ 10) (low_turn a) (lit≤ tt) low_turn_law) (rest_high (2 ^ 0 * 2 ^ 106) (4967757600021511 * 1 * 2 ^ 10) (high_turn a) (lit≤ tt) high_turn_law) t

    left_in : In B (2 ^ 10) (2 ^ 24 - 1792) (2 ^ 24 + 1792) (sub binary64 (sub binary64 v (mul binary64 n right)) (mul binary64 n rest))
    left_in =
        let f = far a (low_turn a) (high_turn a) (low_arc (low_turn a)) (high_arc (high_turn a)) A A' (turn_ends a A A').0 (turn_ends a A A').1 (arc_low (low_turn a) low_turn_law) (arc_high (high_turn a) (omega (arith, (turn_ends a A A').0))) in
        sub_keeps 10 B (lit≤ tt) (2 ^ 24 - 1792) (2 ^ 24 + 1792) (lit< tt, lit< tt) (lit< tt, lit< tt) (omega arith) (omega arith)
        (sub_keeps 10 B (lit≤ tt) (2 ^ 24 - 1791) (2 ^ 24 + 1791) (lit< tt, lit< tt) (lit< tt, lit< tt) f.0 f.1 u arc_in) rest_in

-- ---- what is left is 7/4 at most in size
abbrev pub seven : Float
seven = fin false 7 (negsuc 1)

within : (x : Float) → In B (2 ^ 10) (2 ^ 24 - 1792) (2 ^ 24 + 1792) x → Between (neg seven) seven x
unfolding neg
within x u =
    let l = u.low in
    let h = u.high in
    record { low = cross→le (fin true 7 (negsuc 1)) x tt u.fine (omega arith); high = cross→le x seven u.fine tt (omega arith) }

pub reduced_in_law : (v : Float) → T (le (abs_of v) thousand) → Between (neg seven) seven (reduced_of v (turns_of v))
unfolding reduced_of turns_of near_of half_pi fraction round
reduced_in_law v h =
    let s = start v h in
    within (reduced_of v (turns_of v)) (left_in v s.a s.least s.most s.held (turns_of v) (turns_in v s.a s.least s.most s.held))
