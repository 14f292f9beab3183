-- `sqrt_of` gives the value of its format that is nearest to the square root: `sqrt_nearest`. In
-- units of the format's smallest value the root of a positive x is √a * 2 ^ k, where the whole
-- number a has two digits for each that the format keeps (`Scaled`), and `sqrt_of` is q * 2 ^ k
-- units, with the whole number q that is nearest to √a (`Near`). There is no tie: a middle would be
-- (2 * q + 1) / 2, and the square of 2 * q + 1 is odd where 4 * a is even. Any other value of the
-- format is a multiple of 2 ^ k units, or lies below every root with that k (`coarse`). Assumes
-- nothing.
use Rattle.std.proofs.Common.{◌≡◌, ℕ, zero, suc, ◌+◌, ◌-◌, ◌*◌, ◌/◌, ◌%◌, ◌^◌, ◌<◌, ◌≤◌, Bool, true, false, not, ◌&&◌, ◌||◌, T, eqb, ltb, leb, ◌⊎◌, ℤ, pos, negsuc, sym, ap, ◌∙◌, subst, inl, inr, le_trans, le_of_eq, lt_of_lt_of_le, le_of_suc-le-suc, lt_of_le_of_lt, le_of_lt, lt_irrefl, mul-le-mul_right, mul_assoc, mul_comm, add-mul, mul-le-mul, lt_of_mul-lt-mul_right, eq-or-lt_of_le, mul-le-mul_left, mul-lt-mul_of_pos_right, mul-pos, one-mul, pow-suc, lt_of_not-le, zero-mul, mul-one, mul_right_comm, not-le_of_lt, arith, lit≤, eqb→eq, ltb→lt, leb→le, pow_pos, pow_mono, pow-add, shl_lt, Float}
use native.Mathlib.Nat.{mul-mul-mul_comm, pow-zero}
use lib.Dec.{nleb→lt}
use lib.Pow.{pow-lt}
use lib.Ieee.{nan, inf, fin, Format, binary32, binary64, prec, emax, low, up, down, size, units, lt, le, fits}
use lib.Ieee.Digits.{size-lt, size-le, size_reaches, back}
use lib.Ieee.Fits.{two, reach, down_pos, and_l, and_r}
use lib.Ieee.Exact.{HasValue, units_val}
use lib.Ieee.Scale.{finite}
use lib.Ieee.Positive.{num, den, positive, den_pos, own_value, value→cross, first_pos, value_pos, positive_of_value, positive-finite}
use Rattle.base.specs.Number.{root, closest_root, sqrt_of, NearestRoot}
use Rattle.base.proofs.rounding.Rounding.{shifts, tail, prec_tail, size_gt, units_fit}
use Rattle.base.proofs.roots.Roots.{root_whole, root_ge, closest_down, closest_up, closest_root_le, closest_root_ge, closest_root_scale}
use Rattle.base.proofs.roots.Rooted.{four, rounded_units}

-- ---- two cases of an order
pub le_or_lt : (m n : ℕ) → (m ≤ n) ⊎ (n < m)
le_or_lt m n = go (leb m n) (leb→le m n) (nleb→lt m n)
  where
    go : (b : Bool) → (T b → m ≤ n) → (T (not b) → n < m) → (m ≤ n) ⊎ (n < m)
    go true y z = inl (y tt)
    go false y z = inr (z tt)

-- ---- q is the whole number nearest to √a: (2 * q - 1) ^ 2 < 4 * a < (2 * q + 1) ^ 2, divided by 4
abbrev pub Near : ℕ → ℕ → Type 0
Near a q = (q * q < a + q) × (a ≤ q * q + q)

pub closest_near : (a : ℕ) → 0 < a → Near a (closest_root a 1)
closest_near a h = go (le_or_lt a (w * w + w))
  where
    w : ℕ
    w = root a

    one : closest_root a 1 ≡ closest_root (a * 1) 1
    one = sym (closest_root_scale a 1 (pow_pos 0))

    go : (a ≤ w * w + w) ⊎ (w * w + w < a) → Near a (closest_root a 1)
    go (inl l) =
        let o = root_whole a in
        let g = root_ge a 1 h in
        subst (Near a) (sym (one ∙ closest_down a w 1 (pow_pos 0) o.0 l)) (omega arith, l)
    go (inr l) =
        let o = root_whole a in
        subst (Near a) (sym (one ∙ closest_up a w 1 (pow_pos 0) l o.1)) (omega arith, omega arith)

-- ---- the middles to both sides of q, all in multiples of u
squares_lt : {s t : ℕ} → s < t → s * s < t * t
squares_lt {s} {t} h = lt_of_le_of_lt (mul-le-mul_left s (le_of_lt h)) (mul-lt-mul_of_pos_right h (lt_of_le_of_lt (omega arith) h))

module _ (a q u : ℕ) (U : 0 < u) where
  square : (c : ℕ) → c * u * (c * u) ≡ c * c * (u * u)
  square c = mul-mul-mul_comm c u c u

  left_of : (c s : ℕ) → c * c < 4 * a → s ≤ c * u → s * s < 4 * a * (u * u)
  left_of c s h l = lt_of_le_of_lt (mul-le-mul l l) (lt_of_le_of_lt (le_of_eq (square c)) (mul-lt-mul_of_pos_right h (mul-pos U U)))

  right_of : (c s : ℕ) → 4 * a < c * c → c * u ≤ s → 4 * a * (u * u) < s * s
  right_of c s h l = lt_of_lt_of_le (mul-lt-mul_of_pos_right h (mul-pos U U)) (le_trans (le_of_eq (sym (square c))) (mul-le-mul l l))

  under : (z : ℕ) → Near a q → 0 < q → z ≤ (q - 1) * u → (z + q * u) * (z + q * u) < 4 * a * (u * u)
  under z n Q l =
      let c = q - 1 in
      let e : q ≡ c + 1 = omega arith in
      let n0 : (c + 1) * (c + 1) < a + (c + 1) = subst (λ (x : ℕ). x * x < a + x) e n.0 in
      let m : q * u ≡ (c + 1) * u = ap (λ (x : ℕ). x * u) e in
      left_of (2 * c + 1) (z + q * u) (omega arith) (omega arith)

  over : (z : ℕ) → Near a q → (q + 1) * u ≤ z → 4 * a * (u * u) < (z + q * u) * (z + q * u)
  over z n l = let n1 = n.1 in right_of (2 * q + 1) (z + q * u) (omega arith) (omega arith)

  exact : (z : ℕ) → q * q ≤ a → z < q * u → (z + q * u) * (z + q * u) < 4 * a * (u * u)
  exact z h l =
      let t : z + q * u < 2 * q * u = omega arith in
      lt_of_lt_of_le (squares_lt t) (le_trans (le_of_eq (square (2 * q))) (mul-le-mul_right (u * u) (omega arith)))

-- ---- m * 2 ^ i with an m of suc p digits is a multiple of 2 ^ k, or has fewer than suc p + k
-- digits
abbrev Coarse : ℕ → ℕ → ℕ → Type 0
Coarse p k z = (z < 2 ^ p * 2 ^ k) ⊎ ((c : ℕ) × (z ≡ c * 2 ^ k))

coarse : (p k m i : ℕ) → m < 2 ^ suc p → Coarse p k (m * 2 ^ i)
coarse p k m i h = go (le_or_lt k i)
  where
    go : (k ≤ i) ⊎ (i < k) → Coarse p k (m * 2 ^ i)
    go (inl l) = inr (m * 2 ^ (i - k), sym (mul_assoc m (2 ^ (i - k)) (2 ^ k) ∙ ap (λ (x : ℕ). m * x) (sym (pow-add 2 (i - k) k) ∙ ap (λ (x : ℕ). 2 ^ x) (back i k l))))
    go (inr l) = inl (lt_of_lt_of_le (shl_lt (suc p) i h) (le_trans (pow_mono {i = suc p + i} {j = p + k} (omega arith)) (le_of_eq (pow-add 2 p k))))

module _ (p a k q z : ℕ) (lo : 2 ^ p * 2 ^ p ≤ a) (n : Near a q) (Q : 2 ^ p ≤ q) where
  left : Coarse p k z → z < q * 2 ^ k → (z + q * 2 ^ k) * (z + q * 2 ^ k) < 4 * a * (2 ^ k * 2 ^ k)
  left (inr (c, e)) l =
      let d : c < q = lt_of_mul-lt-mul_right (2 ^ k) (lt_of_le_of_lt (le_of_eq (sym e)) l) in
      under a q (2 ^ k) (pow_pos k) z n (omega arith) (le_trans (le_of_eq e) (mul-le-mul_right (2 ^ k) (omega arith)))
  left (inl h) l = go (eq-or-lt_of_le Q)
    where
      go : (2 ^ p ≡ q) ⊎ (2 ^ p < q) → (z + q * 2 ^ k) * (z + q * 2 ^ k) < 4 * a * (2 ^ k * 2 ^ k)
      go (inl e) = exact a q (2 ^ k) (pow_pos k) z (le_trans (le_of_eq (ap (λ (x : ℕ). x * x) (sym e))) lo) l
      go (inr g) = under a q (2 ^ k) (pow_pos k) z n (omega arith) (le_trans (le_of_lt h) (mul-le-mul_right (2 ^ k) (omega arith)))

  right : Coarse p k z → q * 2 ^ k < z → 4 * a * (2 ^ k * 2 ^ k) < (z + q * 2 ^ k) * (z + q * 2 ^ k)
  right (inr (c, e)) l =
      let d : q < c = lt_of_mul-lt-mul_right (2 ^ k) (lt_of_lt_of_le l (le_of_eq e)) in
      over a q (2 ^ k) (pow_pos k) z n (le_trans (mul-le-mul_right (2 ^ k) (omega arith)) (le_of_eq (sym e)))
  right (inl h) l = absurd (lt_irrefl z (lt_of_lt_of_le h (le_trans (mul-le-mul_right (2 ^ k) Q) (le_of_lt l))))

-- ---- a finite value of the format is m * 2 ^ i of its smallest values, with an m of no more
-- digits than the format keeps
record InUnits (f : Format) (v : Float) : Type 0 where
  pub m : ℕ
  pub i : ℕ
  pub few : m < 2 ^ prec f
  pub value : num v * 2 ^ low f ≡ m * 2 ^ i * den v
  pub bound : m * 2 ^ i < 2 ^ (low f + suc (emax f))

exponent : (l : ℕ) (e : ℤ) → down e ≤ 2 ^ l → (i : ℕ) × (up e * 2 ^ l ≡ 2 ^ i * down e)
exponent l (pos b) h = (b + l, sym (pow-add 2 b l) ∙ sym (mul-one (2 ^ (b + l))))
exponent l (negsuc b) h =
    let g : suc b ≤ l = le_of_suc-le-suc (lt_of_not-le (λ (o : l < suc b). not-le_of_lt (pow-lt o) h)) in
    (l - suc b, one-mul (2 ^ l) ∙ ap (λ (x : ℕ). 2 ^ x) (sym (back l (suc b) g)) ∙ pow-add 2 (l - suc b) (suc b))

in_units : (f : Format) (v : Float) → T (fits f v) → T (finite v) → InUnits f v
unfolding fits
in_units f nan t p = absurd p
in_units f (inf s) t p = absurd p
in_units f (fin s zero e) t p = record {
  m = 0;
  i = 0;
  few = pow_pos (prec f);
  value = ap (λ (x : ℕ). x * 2 ^ low f) (zero-mul (up e)) ∙ zero-mul (2 ^ low f) ∙ sym (zero-mul (down e));
  bound = pow_pos (low f + suc (emax f));
}
in_units f (fin s (suc n) e) t p =
    let a : Bool = eqb (suc n % 2) 1 in
    let b : Bool = ltb (suc n) (2 ^ prec f) in
    let c : Bool = leb (down e) (2 ^ low f) in
    let d : Bool = ltb (suc n * up e) (2 ^ suc (emax f) * down e) in
    let w = exponent (low f) e (leb→le (down e) (2 ^ low f) (and_r (a && b) c (and_l (a && b && c) d t))) in
    let v : suc n * up e * 2 ^ low f ≡ suc n * 2 ^ w.0 * down e = mul_assoc (suc n) (up e) (2 ^ low f) ∙ ap (λ (x : ℕ). suc n * x) w.1 ∙ sym (mul_assoc (suc n) (2 ^ w.0) (down e)) in
    let h : suc n * up e < 2 ^ suc (emax f) * down e = ltb→lt (suc n * up e) (2 ^ suc (emax f) * down e) (and_r (a && b && c) d t) in
    record {
      m = suc n;
      i = w.0;
      few = ltb→lt (suc n) (2 ^ prec f) (and_r a b (and_l (a && b) c (and_l (a && b && c) d t)));
      value = v;
      bound =
          lt_of_mul-lt-mul_right (down e)
          (lt_of_le_of_lt (le_of_eq (sym v))
          (lt_of_lt_of_le (mul-lt-mul_of_pos_right h (pow_pos (low f)))
          (le_of_eq (mul_right_comm (2 ^ suc (emax f)) (down e) (2 ^ low f) ∙ ap (λ (x : ℕ). x * down e) (mul_comm (2 ^ suc (emax f)) (2 ^ low f) ∙ sym (pow-add 2 (low f) (suc (emax f))))))));
    }

-- ---- the square x of the root, in units squared: a * 4 ^ k, where a has two digits for each that
-- the format keeps
pub record Scaled (f : Format) (x : Float) : Type 0 where
  pub a : ℕ
  pub k : ℕ
  pub value : num x * 4 ^ low f ≡ a * 4 ^ k * den x
  pub least : 2 ^ tail f * 2 ^ tail f ≤ a
  pub most : a < 2 ^ suc (tail f) * 2 ^ suc (tail f)
  pub room : prec f + k < low f + suc (emax f)

-- the smallest root has all the digits that the format keeps
spacious : (f : Format) → 2 * prec f ≤ low f
spacious binary32 = lit≤ tt
spacious binary64 = lit≤ tt

-- of z digits and j zeros, z + t digits stay, two for each of p or one less, and an even number go
shift : (p z j : ℕ) → 2 ≤ p → z ≤ p → 2 * p ≤ j → (t : ℕ) × (k : ℕ) × (t + k + k ≡ j) × (2 * p ≤ z + t + 1) × (z + t ≤ 2 * p)
shift p z j b h g = let t = 2 * p - z - (j + z) % 2 in (t, (j - t) / 2, omega arith, omega arith, omega arith)

module _ (f : Format) (x : Float) (w : InUnits f x) (M : 0 < w.m) where
  scale : Scaled f x
  scale =
      let l = low f in
      let m = w.m in
      let i = w.i in
      let z = size m in
      let few : z ≤ prec f = size-le m (prec f) w.few in
      let big : 2 * prec f ≤ i + l = le_trans (spacious f) (omega arith) in
      let s = shift (prec f) z (i + l) (two f) few big in
      let t = s.0 in
      let k = s.1 in
      let e = prec_tail f in
      let lead : 2 ^ (z - 1) ≤ m = size_reaches m (z - 1) (omega (arith, size_gt m 0 M)) in
      let end : z - 1 + i < l + suc (emax f) = lt_of_not-le (λ (g : l + suc (emax f) ≤ z - 1 + i). not-le_of_lt w.bound (le_trans (pow_mono g) (le_trans (le_of_eq (pow-add 2 (z - 1) i)) (mul-le-mul_right (2 ^ i) lead)))) in
      let square : m * 2 ^ i * 2 ^ l ≡ m * 2 ^ t * 4 ^ k = sym (shifts m t k k i l s.2) ∙ mul_assoc (m * 2 ^ t) (2 ^ k) (2 ^ k) ∙ ap (λ (y : ℕ). m * 2 ^ t * y) (sym (four k)) in
      record {
        a = m * 2 ^ t;
        k = k;
        value =
            ap (λ (y : ℕ). num x * y) (four l) ∙ sym (mul_assoc (num x) (2 ^ l) (2 ^ l)) ∙ ap (λ (y : ℕ). y * 2 ^ l) w.value ∙ mul_right_comm (m * 2 ^ i) (den x) (2 ^ l)
            ∙ ap (λ (y : ℕ). y * den x) square;
        least =
            le_trans (le_of_eq (sym (pow-add 2 (tail f) (tail f))))
            (le_trans (pow_mono {i = tail f + tail f} {j = z - 1 + t} (omega arith)) (le_trans (le_of_eq (pow-add 2 (z - 1) t)) (mul-le-mul_right (2 ^ t) lead)));
        most =
            lt_of_lt_of_le (shl_lt z t (size-lt m)) (le_trans (pow_mono {i = z + t} {j = suc (tail f) + suc (tail f)} (omega arith)) (le_of_eq (pow-add 2 (suc (tail f)) (suc (tail f)))));
        room = omega (arith, two f, reach f);
      }

-- ---- so the root is q * 2 ^ k units
pub sqrt_units : (f : Format) (x : Float) → T (positive x) → (s : Scaled f x) → sqrt_of f x ≡ units f false (closest_root s.a 1) s.k
unfolding sqrt_of
sqrt_units f nan p s = absurd p
sqrt_units f (inf t) p s = absurd p
sqrt_units f (fin true m e) p s = absurd p
sqrt_units f (fin false zero e) p s = absurd p
sqrt_units f (fin false (suc m) e) p s = rounded_units f (suc m * up e) (down e) s.a s.k (down_pos e) s.value s.least s.most

num_pos : (x : Float) → T (positive x) → 0 < num x
num_pos x p = value_pos x (num x) (den x) p (den_pos x) (own_value x p)

pub scaled : (f : Format) (x : Float) → T (fits f x) → T (positive x) → Scaled f x
scaled f x t p =
    let w = in_units f x t (positive-finite x p) in
    scale f x w (first_pos w.m (2 ^ w.i) (first_pos (w.m * 2 ^ w.i) (den x) (lt_of_lt_of_le (mul-pos (num_pos x p) (pow_pos (low f))) (le_of_eq w.value))))

-- ---- from units to fractions: with Y / dy = z / l, R / dr = g / l and X / dx = N / (l * l), what
-- holds of z, g and N holds of the fractions
squared : (n : ℕ) → n ^ 2 ≡ n * n
squared n = pow-suc n 1 ∙ ap (λ (x : ℕ). x * n) (pow-suc n 0 ∙ ap (λ (x : ℕ). x * n) (pow-zero n) ∙ one-mul n)

module _ (l X dx Y dy R dr N z g : ℕ) (L : 0 < l) (Dx : 0 < dx) (Dy : 0 < dy) (Dr : 0 < dr) (x : X * (l * l) ≡ N * dx) (y : Y * l ≡ z * dy) (r : R * l ≡ g * dr) where
  left_term : Y * dr * l ≡ z * (dy * dr)
  left_term = mul_right_comm Y dr l ∙ ap (λ (n : ℕ). n * dr) y ∙ mul_assoc z dy dr

  right_term : R * dy * l ≡ g * (dy * dr)
  right_term = mul_right_comm R dy l ∙ ap (λ (n : ℕ). n * dy) r ∙ mul_right_comm g dr dy ∙ mul_assoc g dy dr

  sum : (Y * dr + R * dy) * l ≡ (z + g) * (dy * dr)
  sum = add-mul (Y * dr) (R * dy) l ∙ ap (λ (n : ℕ). n + R * dy * l) left_term ∙ ap (λ (n : ℕ). z * (dy * dr) + n) right_term ∙ sym (add-mul z g (dy * dr))

  middle : (Y * dr + R * dy) ^ 2 * dx * (l * l) ≡ (z + g) * (z + g) * (dx * (dy * dr * (dy * dr)))
  middle =
      let s = Y * dr + R * dy in
      let d = dy * dr in
      ap (λ (n : ℕ). n * dx * (l * l)) (squared s)
      ∙ mul_right_comm (s * s) dx (l * l)
      ∙ ap (λ (n : ℕ). n * dx) (mul-mul-mul_comm s s l l ∙ ap (λ (n : ℕ). n * n) sum ∙ mul-mul-mul_comm (z + g) d (z + g) d)
      ∙ mul_assoc ((z + g) * (z + g)) (d * d) dx
      ∙ ap (λ (n : ℕ). (z + g) * (z + g) * n) (mul_comm (d * d) dx)

  four_times : 4 * X * (dy * dr) ^ 2 * (l * l) ≡ 4 * N * (dx * (dy * dr * (dy * dr)))
  four_times =
      let d = dy * dr in
      ap (λ (n : ℕ). 4 * X * n * (l * l)) (squared d)
      ∙ mul_right_comm (4 * X) (d * d) (l * l)
      ∙ ap (λ (n : ℕ). n * (d * d)) (mul_assoc 4 X (l * l) ∙ ap (λ (n : ℕ). 4 * n) x ∙ sym (mul_assoc 4 N dx))
      ∙ mul_assoc (4 * N) dx (d * d)

  bottom : 0 < dx * (dy * dr * (dy * dr))
  bottom = mul-pos Dx (mul-pos (mul-pos Dy Dr) (mul-pos Dy Dr))

  fractions_below : (z < g → (z + g) * (z + g) < 4 * N) → Y * dr < R * dy → (Y * dr + R * dy) ^ 2 * dx < 4 * X * (dy * dr) ^ 2
  fractions_below k h =
      let o : z < g = lt_of_mul-lt-mul_right (dy * dr) (lt_of_le_of_lt (le_of_eq (sym left_term)) (lt_of_lt_of_le (mul-lt-mul_of_pos_right h L) (le_of_eq right_term))) in
      lt_of_mul-lt-mul_right (l * l) (lt_of_le_of_lt (le_of_eq middle) (lt_of_lt_of_le (mul-lt-mul_of_pos_right (k o) bottom) (le_of_eq (sym four_times))))

  fractions_above : (g < z → 4 * N < (z + g) * (z + g)) → R * dy < Y * dr → 4 * X * (dy * dr) ^ 2 < (Y * dr + R * dy) ^ 2 * dx
  fractions_above k h =
      let o : g < z = lt_of_mul-lt-mul_right (dy * dr) (lt_of_le_of_lt (le_of_eq (sym right_term)) (lt_of_lt_of_le (mul-lt-mul_of_pos_right h L) (le_of_eq left_term))) in
      lt_of_mul-lt-mul_right (l * l) (lt_of_le_of_lt (le_of_eq four_times) (lt_of_lt_of_le (mul-lt-mul_of_pos_right (k o) bottom) (le_of_eq (sym middle))))

-- ---- the order of values, as one of fractions
lt→cross : (r y : Float) → T (positive r) → T (finite y) → T (lt r y) → num r * den y < num y * den r
unfolding lt
lt→cross nan y p t h = absurd p
lt→cross (inf s) y p t h = absurd p
lt→cross (fin true m e) y p t h = absurd p
lt→cross (fin false m e) nan p t h = absurd t
lt→cross (fin false m e) (inf s) p t h = absurd t
lt→cross (fin false m e) (fin true n d) p t h = absurd h
lt→cross (fin false m e) (fin false n d) p t h = ltb→lt (m * up e * down d) (n * up d * down e) h

-- y is zero, of either sign, or above
zero-lt→cross : (y r : Float) → T (le (fin false 0 (pos 0)) y) → T (positive r) → T (lt y r) → T (finite y) × (num y * den r < num r * den y)
unfolding lt le
zero-lt→cross nan r z p h = absurd h
zero-lt→cross (inf true) r z p h = absurd z
zero-lt→cross (inf false) nan z p h = absurd h
zero-lt→cross (inf false) (inf t) z p h = absurd h
zero-lt→cross (inf false) (fin t n d) z p h = absurd h
zero-lt→cross (fin true m e) r z p h =
    let n : 0 < num r = num_pos r p in
    let e0 : m * up e * 1 ≡ 0 * down e = sym (eqb→eq (0 * down e) (m * up e * 1) (and_l (eqb (0 * down e) (m * up e * 1)) (false || eqb (0 * down e) 0) z)) in
    let v : m * up e * den r ≡ 0 = ap (λ (x : ℕ). x * den r) (sym (mul-one (m * up e)) ∙ e0 ∙ zero-mul (down e)) ∙ zero-mul (den r) in
    (tt, lt_of_le_of_lt (le_of_eq v) (mul-pos n (down_pos e)))
zero-lt→cross (fin false m e) nan z p h = absurd p
zero-lt→cross (fin false m e) (inf t) z p h = absurd p
zero-lt→cross (fin false m e) (fin true n d) z p h = absurd p
zero-lt→cross (fin false m e) (fin false n d) z p h = (tt, ltb→lt (m * up e * down d) (n * up d * down e) h)

-- ---- q * 2 ^ k units is the nearest value
module _ (f : Format) (x : Float) (s : Scaled f x) where
  abbrev q : ℕ
  q = closest_root s.a 1

  abbrev g : ℕ
  g = q * 2 ^ s.k

  abbrev r : Float
  r = units f false q s.k

  reaches : 2 ^ tail f ≤ q
  reaches = closest_root_ge s.a (2 ^ tail f) s.least

  fills : q ≤ 2 ^ prec f
  fills = subst (λ (p : ℕ). q ≤ 2 ^ p) (sym (prec_tail f)) (closest_root_le s.a (suc (tail f)) s.most)

  no_overflow : g < 2 ^ (low f + suc (emax f))
  no_overflow = lt_of_le_of_lt (mul-le-mul_right (2 ^ s.k) fills) (lt_of_le_of_lt (le_of_eq (sym (pow-add 2 (prec f) s.k))) (pow-lt s.room))

  pub root_value : HasValue r false g (2 ^ low f)
  root_value = units_val f false q s.k no_overflow

  near : Near s.a q
  near = closest_near s.a (lt_of_lt_of_le (mul-pos (pow_pos (tail f)) (pow_pos (tail f))) s.least)

  abbrev N : ℕ
  N = s.a * 4 ^ s.k

  four_squares : 4 * N ≡ 4 * s.a * (2 ^ s.k * 2 ^ s.k)
  four_squares = ap (λ (y : ℕ). 4 * (s.a * y)) (four s.k) ∙ sym (mul_assoc 4 s.a (2 ^ s.k * 2 ^ s.k))

  x_value : num x * (2 ^ low f * 2 ^ low f) ≡ N * den x
  x_value = ap (λ (y : ℕ). num x * y) (sym (four (low f))) ∙ s.value

  r_value : num r * 2 ^ low f ≡ g * den r
  r_value = value→cross r g (2 ^ low f) root_value

  module _ (y : Float) (w : InUnits f y) where
    abbrev z : ℕ
    z = w.m * 2 ^ w.i

    steps : Coarse (tail f) s.k z
    steps = coarse (tail f) s.k w.m w.i (subst (λ (p : ℕ). w.m < 2 ^ p) (prec_tail f) w.few)

    farther_below : num y * den r < num r * den y → (num y * den r + num r * den y) ^ 2 * den x < 4 * num x * (den y * den r) ^ 2
    farther_below =
        fractions_below (2 ^ low f) (num x) (den x) (num y) (den y) (num r) (den r) N z g (pow_pos (low f)) (den_pos x) (den_pos y) (den_pos r) x_value w.value r_value
        (λ (l : z < g). lt_of_lt_of_le (left (tail f) s.a s.k q z s.least near reaches steps l) (le_of_eq (sym four_squares)))

    farther_above : num r * den y < num y * den r → 4 * num x * (den y * den r) ^ 2 < (num y * den r + num r * den y) ^ 2 * den x
    farther_above =
        fractions_above (2 ^ low f) (num x) (den x) (num y) (den y) (num r) (den r) N z g (pow_pos (low f)) (den_pos x) (den_pos y) (den_pos r) x_value w.value r_value
        (λ (l : g < z). lt_of_le_of_lt (le_of_eq four_squares) (right (tail f) s.a s.k q z s.least near reaches steps l))

  nearest_units : NearestRoot f x r
  nearest_units =
      let p : T (positive r) = positive_of_value r g (2 ^ low f) root_value (mul-pos (lt_of_lt_of_le (pow_pos (tail f)) reaches) (pow_pos s.k)) in
      record {
        held = units_fit f false q s.k fills no_overflow;
        above_zero = p;
        below = λ y t o h. let c = zero-lt→cross y r o p h in farther_below y (in_units f y t c.0) c.1;
        above = λ y t o h. farther_above y (in_units f y t o) (lt→cross r y p o h);
      }

pub sqrt_nearest : (f : Format) (x : Float) → T (fits f x) → T (positive x) → NearestRoot f x (sqrt_of f x)
sqrt_nearest f x t p = let s = scaled f x t p in subst (NearestRoot f x) (sym (sqrt_units f x p s)) (nearest_units f x s)
