-- Intervals that are quick to compute with: their ends are whole numbers of 2 ^ -18, below 64 in
-- size. Such numbers are f32, so what lies between two of them is rounded to between them, and sums
-- and products of ends are those of whole numbers. Assumes nothing.
use Rattle.std.proofs.Common.{◌≡◌, refl, sym, ap, subst, ◌∙◌, Bool, true, false, not, ◌&&◌, cond, ℕ, ◌+◌, ◌-◌, ◌*◌, ◌/◌, ◌^◌, ◌≤◌, ◌<◌, mul_assoc, mul-one, lt_of_lt_of_le, zero-mul, arith, T, ltb, leb, ltb→lt, nltb→le, leb→le, lit<, negsuc, pow_pos, pow_mono, shl_lt, Float}
use lib.Dec.{nleb→lt}
use lib.Ieee.{nan, inf, fin, binary32, up, down, unlike, round, add, sub, mul, neg, le}
use lib.Ieee.Exact.{HasValue, round_exact}
use lib.Ieee.Scale.{finite}
use Rattle.base.specs.Number.{negative, abs_of}
use Rattle.base.proofs.order.Order.{gain, loss, nought, Between, wider, between_finite, cross→le, trans_le, le_right, le_abs, neg_le, abs_neg, le→abs, abs→le, abs→ge}
use Rattle.base.proofs.order.Monotone.{Rounds, rounds_mono, add_rounds, mul_left, mul_right, mul_anti, mul_turn, mul_size, add_mono}
use Rattle.results.proofs.numbers.Spans.{Span, any, span, In, unknown}

-- m / 2 ^ 18, or -m / 2 ^ 18
abbrev pub grid : Bool → ℕ → Float
grid s m = fin s m (negsuc 17)

-- ---- a number of the grid against what is rounded
module _ (s : Bool) (m : ℕ) (h : m < 2 ^ 24) where
  abbrev same : Float
  same = round binary32 s m (2 ^ 18)

  same_value : HasValue same s m (2 ^ 18)
  same_value = round_exact binary32 s m (2 ^ 18) m 131 (pow_pos 18) h (lt_of_lt_of_le (shl_lt 24 131 h) (pow_mono {i = 24 + 131} {j = 277} (omega arith))) (sym (mul_assoc m (2 ^ 131) (2 ^ 18)))

  signs : (t : Bool) (x d : ℕ) → t ≡ s → x * 2 ^ 18 ≡ m * d → (gain t x * 2 ^ 18 ≡ gain s (m * 1) * d) × (loss t x * 2 ^ 18 ≡ loss s (m * 1) * d)
  signs t x d e q = subst (λ (i : Bool). (gain i x * 2 ^ 18 ≡ gain s (m * 1) * d) × (loss i x * 2 ^ 18 ≡ loss s (m * 1) * d)) (sym e) (go s)
    where
      q' : x * 2 ^ 18 ≡ m * 1 * d
      q' = q ∙ ap (λ (z : ℕ). z * d) (sym (mul-one m))

      go : (b : Bool) → (gain b x * 2 ^ 18 ≡ gain b (m * 1) * d) × (loss b x * 2 ^ 18 ≡ loss b (m * 1) * d)
      go true = (sym (zero-mul d), q')
      go false = (q', sym (zero-mul d))

  both_ways : (z : Float) → HasValue z s m (2 ^ 18) → T (le (grid s m) z) × T (le z (grid s m))
  both_ways nan v = absurd v
  both_ways (inf t) v = absurd v
  both_ways (fin t n e) v =
      let g = signs t (n * up e) (down e) v.0 v.1 in
      (cross→le (grid s m) (fin t n e) tt tt (omega (arith, g.0, g.1)), cross→le (fin t n e) (grid s m) tt tt (omega (arith, g.0, g.1)))

  same_rounds : Rounds binary32 same (gain s m) (loss s m) (2 ^ 18)
  same_rounds = record { sign = s; size = m; is = refl; value = omega arith }

  module _ (z : Float) (p n c : ℕ) (C : 0 < c) (r : Rounds binary32 z p n c) where
    grid_low : gain s m * c + n * 2 ^ 18 ≤ p * 2 ^ 18 + loss s m * c → T (le (grid s m) z)
    grid_low k = trans_le (grid s m) same z (both_ways same same_value).0 (rounds_mono binary32 same z (gain s m) (loss s m) (2 ^ 18) p n c (pow_pos 18) C same_rounds r k)

    grid_high : p * 2 ^ 18 + loss s m * c ≤ gain s m * c + n * 2 ^ 18 → T (le z (grid s m))
    grid_high k = trans_le z same (grid s m) (rounds_mono binary32 z same p n c (gain s m) (loss s m) (2 ^ 18) C (pow_pos 18) r same_rounds k) (both_ways same same_value).1

-- ---- sums of numbers of the grid
unfoldable pub sum_sign : Bool → ℕ → Bool → ℕ → Bool
sum_sign true a true c = true
sum_sign true a false c = ltb c a
sum_sign false a true c = ltb a c
sum_sign false a false c = false

unfoldable pub sum_size : Bool → ℕ → Bool → ℕ → ℕ
sum_size true a true c = a + c
sum_size true a false c = a - c + (c - a)
sum_size false a true c = a - c + (c - a)
sum_size false a false c = a + c

sum_value : (s : Bool) (a : ℕ) (t : Bool) (c : ℕ) → gain (sum_sign s a t c) (sum_size s a t c) + (loss s a + loss t c) ≡ loss (sum_sign s a t c) (sum_size s a t c) + (gain s a + gain t c)
unfolding sum_sign sum_size
sum_value true a true c = omega arith
sum_value true a false c = go (ltb c a) refl
  where
    go : (b : Bool) → ltb c a ≡ b → gain b (a - c + (c - a)) + (a + 0) ≡ loss b (a - c + (c - a)) + (0 + c)
    go true e = let h = ltb→lt c a (subst T (sym e) tt) in omega arith
    go false e = let h = nltb→le c a (subst (λ (i : Bool). T (not i)) (sym e) tt) in omega arith
sum_value false a true c = go (ltb a c) refl
  where
    go : (b : Bool) → ltb a c ≡ b → gain b (a - c + (c - a)) + (0 + c) ≡ loss b (a - c + (c - a)) + (a + 0)
    go true e = let h = ltb→lt a c (subst T (sym e) tt) in omega arith
    go false e = let h = nltb→le a c (subst (λ (i : Bool). T (not i)) (sym e) tt) in omega arith
sum_value false a false c = omega arith

one_gain : (s : Bool) (a : ℕ) → (gain s (a * 1) ≡ gain s a) × (loss s (a * 1) ≡ loss s a)
one_gain s a = (ap (gain s) (mul-one a), ap (loss s) (mul-one a))

sum_exact : (s : Bool) (a : ℕ) (t : Bool) (c : ℕ) → sum_size s a t c < 2 ^ 24
    → T (le (grid (sum_sign s a t c) (sum_size s a t c)) (add binary32 (grid s a) (grid t c))) × T (le (add binary32 (grid s a) (grid t c)) (grid (sum_sign s a t c) (sum_size s a t c)))
sum_exact s a t c h =
    let r = add_rounds binary32 (grid s a) (grid t c) tt tt in
    let v = sum_value s a t c in
    let z = add binary32 (grid s a) (grid t c) in
    let C : 0 < 2 ^ 18 * 2 ^ 18 = lit< tt in
    let p = gain s (a * 1) * 2 ^ 18 + gain t (c * 1) * 2 ^ 18 in
    let n = loss s (a * 1) * 2 ^ 18 + loss t (c * 1) * 2 ^ 18 in (
      grid_low (sum_sign s a t c) (sum_size s a t c) h z p n (2 ^ 18 * 2 ^ 18) C r (omega (arith, v, (one_gain s a).0, (one_gain s a).1, (one_gain t c).0, (one_gain t c).1)),
      grid_high (sum_sign s a t c) (sum_size s a t c) h z p n (2 ^ 18 * 2 ^ 18) C r (omega (arith, v, (one_gain s a).0, (one_gain s a).1, (one_gain t c).0, (one_gain t c).1)),
    )

-- ---- products: cut down to the grid, or up
unfoldable pub cut_down : Bool → ℕ → ℕ
cut_down false q = q / 262144
cut_down true q = (q + 262143) / 262144

unfoldable pub cut_up : Bool → ℕ → ℕ
cut_up false q = (q + 262143) / 262144
cut_up true q = q / 262144

down_value : (s : Bool) (q : ℕ) → gain s (cut_down s q) * (2 ^ 18 * 2 ^ 18) + loss s q * 2 ^ 18 ≤ gain s q * 2 ^ 18 + loss s (cut_down s q) * (2 ^ 18 * 2 ^ 18)
unfolding cut_down
down_value true q = omega arith
down_value false q = omega arith

up_value : (s : Bool) (q : ℕ) → gain s q * 2 ^ 18 + loss s (cut_up s q) * (2 ^ 18 * 2 ^ 18) ≤ gain s (cut_up s q) * (2 ^ 18 * 2 ^ 18) + loss s q * 2 ^ 18
unfolding cut_up
up_value true q = omega arith
up_value false q = omega arith

module _ (s : Bool) (a : ℕ) (t : Bool) (c : ℕ) where
  product_rounds : Rounds binary32 (mul binary32 (grid s a) (grid t c)) (gain (unlike s t) (a * c)) (loss (unlike s t) (a * c)) (2 ^ 18 * 2 ^ 18)
  unfolding mul
  product_rounds = record {
    sign = unlike s t;
    size = a * c;
    is = λ i. round binary32 (unlike s t) (mul-one a i * mul-one c i) (2 ^ 18 * 2 ^ 18);
    value = omega arith;
  }

  product_low : cut_down (unlike s t) (a * c) < 2 ^ 24 → T (le (grid (unlike s t) (cut_down (unlike s t) (a * c))) (mul binary32 (grid s a) (grid t c)))
  product_low h = grid_low (unlike s t) (cut_down (unlike s t) (a * c)) h (mul binary32 (grid s a) (grid t c)) (gain (unlike s t) (a * c)) (loss (unlike s t) (a * c)) (2 ^ 18 * 2 ^ 18) (lit< tt) product_rounds (down_value (unlike s t) (a * c))

  product_high : cut_up (unlike s t) (a * c) < 2 ^ 24 → T (le (mul binary32 (grid s a) (grid t c)) (grid (unlike s t) (cut_up (unlike s t) (a * c))))
  product_high h = grid_high (unlike s t) (cut_up (unlike s t) (a * c)) h (mul binary32 (grid s a) (grid t c)) (gain (unlike s t) (a * c)) (loss (unlike s t) (a * c)) (2 ^ 18 * 2 ^ 18) (lit< tt) product_rounds (up_value (unlike s t) (a * c))

-- ---- the intervals
pub data Strip : Type 0 where
  all : Strip
  strip : Bool → ℕ → Bool → ℕ → Strip

abbrev Inside : Strip → Float → Type 0
Inside all x = Unit
Inside (strip s a t b) x = Between (grid s a) (grid t b) x

-- x is in it
pub record On (i : Strip) (x : Float) : Type 0 where
  pub is : Inside i x

pub anywhere : {x : Float} → On all x
anywhere = record { is = tt }

-- if its ends are below 64
unfoldable pub kept : Bool → ℕ → Bool → ℕ → Strip
kept s a t b = cond (ltb a 16777216 && ltb b 16777216) (strip s a t b) all

kept_on : (s : Bool) (a : ℕ) (t : Bool) (b : ℕ) (x : Float) → (a < 2 ^ 24 → T (le (grid s a) x)) → (b < 2 ^ 24 → T (le x (grid t b))) → On (kept s a t b) x
unfolding kept
kept_on s a t b x l h = go (ltb a 16777216) (ltb b 16777216) refl refl
  where
    go : (p q : Bool) → ltb a 16777216 ≡ p → ltb b 16777216 ≡ q → On (cond (p && q) (strip s a t b) all) x
    go false q u v = anywhere
    go true false u v = anywhere
    go true true u v = record { is = record { low = l (ltb→lt a 16777216 (subst T (sym u) tt)); high = h (ltb→lt b 16777216 (subst T (sym v) tt)) } }

-- ---- sums, differences, turned signs
unfoldable pub plus_strip : Strip → Strip → Strip
unfolding kept sum_sign sum_size
plus_strip all j = all
plus_strip (strip s a t b) all = all
plus_strip (strip s a t b) (strip u c v d) = kept (sum_sign s a u c) (sum_size s a u c) (sum_sign t b v d) (sum_size t b v d)

unfoldable pub neg_strip : Strip → Strip
neg_strip all = all
neg_strip (strip s a t b) = strip (not t) b (not s) a

unfoldable pub minus_strip : Strip → Strip → Strip
unfolding plus_strip neg_strip
minus_strip i j = plus_strip i (neg_strip j)

pub plus_on : (i j : Strip) {x y : Float} → On i x → On j y → On (plus_strip i j) (add binary32 x y)
unfolding plus_strip
plus_on all j h k = anywhere
plus_on (strip s a t b) all h k = anywhere
plus_on (strip s a t b) (strip u c v d) {x} {y} h k =
    let X = between_finite tt tt h.is in
    let Y = between_finite tt tt k.is in
    kept_on (sum_sign s a u c) (sum_size s a u c) (sum_sign t b v d) (sum_size t b v d) (add binary32 x y)
    (λ q. trans_le _ (add binary32 (grid s a) (grid u c)) _ (sum_exact s a u c q).0 (add_mono binary32 (grid s a) x (grid u c) y tt X tt Y h.is.low k.is.low))
    (λ q. trans_le _ (add binary32 (grid t b) (grid v d)) _ (add_mono binary32 x (grid t b) y (grid v d) X tt Y tt h.is.high k.is.high) (sum_exact t b v d q).1)

pub neg_on : (i : Strip) {x : Float} → On i x → On (neg_strip i) (neg x)
unfolding neg_strip neg
neg_on all h = anywhere
neg_on (strip s a t b) {x} h = record { is = record { low = neg_le x (grid t b) h.is.high; high = neg_le (grid s a) x h.is.low } }

pub minus_on : (i j : Strip) {x y : Float} → On i x → On j y → On (minus_strip i j) (sub binary32 x y)
unfolding minus_strip sub
minus_on i j h k = plus_on i (neg_strip j) h (neg_on j k)

-- ---- products, by the signs of the ends
-- from the product of x's end (s, a) and y's end (u, c) to that of (t, b) and (v, d)
unfoldable pub corners : Bool → ℕ → Bool → ℕ → Bool → ℕ → Bool → ℕ → Strip
unfolding kept cut_down cut_up
corners s a u c t b v d = kept (unlike s u) (cut_down (unlike s u) (a * c)) (unlike t v) (cut_up (unlike t v) (b * d))

unfoldable pub larger : ℕ → ℕ → ℕ
larger a b = cond (leb a b) b a

unfoldable pub about_zero : ℕ → Strip
unfolding kept cut_up
about_zero q = kept true (cut_up false q) false (cut_up false q)

unfoldable pub times_strip : Strip → Strip → Strip
unfolding corners larger about_zero
times_strip all j = all
times_strip (strip s a t b) all = all
times_strip (strip false a t b) (strip false c v d) = corners false a false c t b v d
times_strip (strip false a t b) (strip true c true d) = corners t b true c false a true d
times_strip (strip false a t b) (strip true c false d) = corners t b true c t b false d
times_strip (strip true a true b) (strip false c v d) = corners true a v d true b false c
times_strip (strip true a true b) (strip true c true d) = corners true b true d true a true c
times_strip (strip true a true b) (strip true c false d) = corners true a false d true a true c
times_strip (strip true a false b) (strip false c v d) = corners true a v d false b v d
times_strip (strip true a false b) (strip true c true d) = corners false b true c true a true c
times_strip (strip true a false b) (strip true c false d) = about_zero (larger a b * larger c d)

corners_on : (s : Bool) (a : ℕ) (u : Bool) (c : ℕ) (t : Bool) (b : ℕ) (v : Bool) (d : ℕ) {z : Float} → Between (mul binary32 (grid s a) (grid u c)) (mul binary32 (grid t b) (grid v d)) z → On (corners s a u c t b v d) z
unfolding corners
corners_on s a u c t b v d {z} h =
    kept_on (unlike s u) (cut_down (unlike s u) (a * c)) (unlike t v) (cut_up (unlike t v) (b * d)) z
    (λ q. trans_le _ (mul binary32 (grid s a) (grid u c)) z (product_low s a u c q) h.low)
    (λ q. trans_le z (mul binary32 (grid t b) (grid v d)) _ h.high (product_high t b v d q))

above : (a : ℕ) → T (le nought (grid false a))
above a = cross→le nought (grid false a) tt tt (omega arith)

below : (a : ℕ) → T (le (grid true a) nought)
below a = cross→le (grid true a) nought tt tt (omega arith)

module _ {a b c d x y : Float} (A : T (finite a)) (B : T (finite b)) (C : T (finite c)) (D : T (finite d)) (h : Between a b x) (k : Between c d y) where
  abbrev by : Float → Float → Float
  by p q = mul binary32 p q

  X : T (finite x)
  X = between_finite A B h

  Y : T (finite y)
  Y = between_finite C D k

  -- through a number between
  within : (lo m n hi : Float) → T (le lo m) → T (le m (by x y)) → T (le (by x y) n) → T (le n hi) → Between lo hi (by x y)
  within lo m n hi p q r s = record { low = trans_le lo m (by x y) p q; high = trans_le (by x y) n hi r s }

  -- the larger of two numbers gives the lesser product with what is not above zero
  anti : (p q z : Float) → T (finite p) → T (finite q) → T (finite z) → T (le z nought) → T (le p q) → T (le (by q z) (by p z))
  anti p q z P Q Z n l = subst (λ (i : Float). T (le i (by p z))) (mul_turn binary32 z q) (subst (λ (i : Float). T (le (by z q) i)) (mul_turn binary32 z p) (mul_anti binary32 z p q Z P Q n l))

  -- left, right: x and y grow, where the other is not below zero; fall: y grows where x is not
  -- above it
  left : (p q r : Float) → T (finite p) → T (finite q) → T (finite r) → T (le nought p) → T (le q r) → T (le (by p q) (by p r))
  left p q r P Q R n l = mul_left binary32 p q r P Q R n l

  right : (p q r : Float) → T (finite p) → T (finite q) → T (finite r) → T (le nought r) → T (le p q) → T (le (by p r) (by q r))
  right p q r P Q R n l = mul_right binary32 p q r P Q R n l

  fall : (p q r : Float) → T (finite p) → T (finite q) → T (finite r) → T (le p nought) → T (le q r) → T (le (by p r) (by p q))
  fall p q r P Q R n l = mul_anti binary32 p q r P Q R n l

  module _ (n : T (le nought a)) where
    x0 : T (le nought x)
    x0 = trans_le nought a x n h.low

    b0 : T (le nought b)
    b0 = trans_le nought x b x0 h.high

    above_above : T (le nought c) → Between (by a c) (by b d) (by x y)
    above_above m = let y0 = trans_le nought c y m k.low in within (by a c) (by a y) (by b y) (by b d) (left a c y A C Y n k.low) (right a x y A X Y y0 h.low) (right x b y X B Y y0 h.high) (left b y d B Y D b0 k.high)

    above_below : T (le d nought) → Between (by b c) (by a d) (by x y)
    above_below m = let y0 = trans_le y d nought k.high m in within (by b c) (by b y) (by a y) (by a d) (left b c y B C Y b0 k.low) (anti x b y X B Y y0 h.high) (anti a x y A X Y y0 h.low) (left a y d A Y D n k.high)

    above_about : T (le c nought) → T (le nought d) → Between (by b c) (by b d) (by x y)
    above_about m l = within (by b c) (by x c) (by x d) (by b d) (anti x b c X B C m h.high) (left x c y X C Y x0 k.low) (left x y d X Y D x0 k.high) (right x b d X B D l h.high)

  module _ (n : T (le b nought)) where
    x1 : T (le x nought)
    x1 = trans_le x b nought h.high n

    a1 : T (le a nought)
    a1 = trans_le a x nought h.low x1

    below_above : T (le nought c) → Between (by a d) (by b c) (by x y)
    below_above m = let y0 = trans_le nought c y m k.low in within (by a d) (by a y) (by b y) (by b c) (fall a y d A Y D a1 k.high) (right a x y A X Y y0 h.low) (right x b y X B Y y0 h.high) (fall b c y B C Y n k.low)

    below_below : T (le d nought) → Between (by b d) (by a c) (by x y)
    below_below m = let y0 = trans_le y d nought k.high m in within (by b d) (by b y) (by a y) (by a c) (fall b y d B Y D n k.high) (anti x b y X B Y y0 h.high) (anti a x y A X Y y0 h.low) (fall a c y A C Y a1 k.low)

    below_about : T (le c nought) → T (le nought d) → Between (by a d) (by a c) (by x y)
    below_about m l = within (by a d) (by x d) (by x c) (by a c) (right a x d A X D l h.low) (fall x y d X Y D x1 k.high) (fall x c y X C Y x1 k.low) (anti a x c A X C m h.low)

  module _ (n : T (le a nought)) (l : T (le nought b)) where
    about_above : T (le nought c) → Between (by a d) (by b d) (by x y)
    about_above m = let y0 = trans_le nought c y m k.low in within (by a d) (by a y) (by b y) (by b d) (fall a y d A Y D n k.high) (right a x y A X Y y0 h.low) (right x b y X B Y y0 h.high) (left b y d B Y D l k.high)

    about_below : T (le d nought) → Between (by b c) (by a c) (by x y)
    about_below m = let y0 = trans_le y d nought k.high m in within (by b c) (by b y) (by a y) (by a c) (left b c y B C Y l k.low) (anti x b y X B Y y0 h.high) (anti a x y A X Y y0 h.low) (fall a c y A C Y n k.low)

larger_is : (a b : ℕ) → (a ≤ larger a b) × (b ≤ larger a b)
unfolding larger
larger_is a b = go (leb a b) refl
  where
    go : (q : Bool) → leb a b ≡ q → (a ≤ cond q b a) × (b ≤ cond q b a)
    go true e = (leb→le a b (subst T (sym e) tt), omega arith)
    go false e = let h = nleb→lt a b (subst (λ (i : Bool). T (not i)) (sym e) tt) in (omega arith, omega arith)

-- what is about zero, by sizes
size_on : (a b : ℕ) {x : Float} → Between (grid true a) (grid false b) x → T (le (abs_of x) (grid false (larger a b)))
unfolding neg
size_on a b {x} h =
    let m = larger a b in
    let l = larger_is a b in
    le→abs x (grid false m)
    (trans_le (grid true m) (grid true a) x (cross→le (grid true m) (grid true a) tt tt (omega (arith, l.0))) h.low)
    (trans_le x (grid false b) (grid false m) h.high (cross→le (grid false b) (grid false m) tt tt (omega (arith, l.1))))

about_about : (a b c d : ℕ) {x y : Float} → Between (grid true a) (grid false b) x → Between (grid true c) (grid false d) y → On (about_zero (larger a b * larger c d)) (mul binary32 x y)
unfolding about_zero neg
about_about a b c d {x} {y} h k =
    let m = larger a b in
    let n = larger c d in
    let w = mul_size binary32 x y (grid false m) (grid false n) tt tt (size_on a b h) (size_on c d k) in
    let u : cut_up false (m * n) < 2 ^ 24 → T (le (abs_of (mul binary32 x y)) (grid false (cut_up false (m * n)))) = λ q. trans_le (abs_of (mul binary32 x y)) (mul binary32 (grid false m) (grid false n)) _ w (product_high false m false n q) in
    kept_on true (cut_up false (m * n)) false (cut_up false (m * n)) (mul binary32 x y)
    (λ q. abs→ge (mul binary32 x y) (grid false (cut_up false (m * n))) (u q))
    (λ q. abs→le (mul binary32 x y) (grid false (cut_up false (m * n))) (u q))

pub times_on : (i j : Strip) {x y : Float} → On i x → On j y → On (times_strip i j) (mul binary32 x y)
unfolding times_strip
times_on all j h k = anywhere
times_on (strip s a t b) all h k = anywhere
times_on (strip false a t b) (strip false c v d) h k = corners_on false a false c t b v d (above_above tt tt tt tt h.is k.is (above a) (above c))
times_on (strip false a t b) (strip true c true d) h k = corners_on t b true c false a true d (above_below tt tt tt tt h.is k.is (above a) (below d))
times_on (strip false a t b) (strip true c false d) h k = corners_on t b true c t b false d (above_about tt tt tt tt h.is k.is (above a) (below c) (above d))
times_on (strip true a true b) (strip false c v d) h k = corners_on true a v d true b false c (below_above tt tt tt tt h.is k.is (below b) (above c))
times_on (strip true a true b) (strip true c true d) h k = corners_on true b true d true a true c (below_below tt tt tt tt h.is k.is (below b) (below d))
times_on (strip true a true b) (strip true c false d) h k = corners_on true a false d true a true c (below_about tt tt tt tt h.is k.is (below b) (below c) (above d))
times_on (strip true a false b) (strip false c v d) h k = corners_on true a v d false b v d (about_above tt tt tt tt h.is k.is (below a) (above b) (above c))
times_on (strip true a false b) (strip true c true d) h k = corners_on false b true c true a true c (about_below tt tt tt tt h.is k.is (below a) (above b) (below d))
times_on (strip true a false b) (strip true c false d) h k = about_about a b c d h.is k.is

-- ---- from intervals of floats, and to them
unfoldable pub size_down : Float → ℕ
size_down nan = 0
size_down (inf s) = 0
size_down (fin false m e) = m * up e * 262144 / down e
size_down (fin true m e) = (m * up e * 262144 + (down e - 1)) / down e

unfoldable pub size_up : Float → ℕ
size_up nan = 0
size_up (inf s) = 0
size_up (fin false m e) = (m * up e * 262144 + (down e - 1)) / down e
size_up (fin true m e) = m * up e * 262144 / down e

-- whether these are ends is looked at
unfoldable pub around : Bool → ℕ → Bool → ℕ → Float → Float → Strip
around s m t n a b = cond (le (grid s m) a && le b (grid t n)) (strip s m t n) all

unfoldable pub to_strip : Span → Strip
unfolding around size_down size_up
to_strip any = all
to_strip (span a b) = around (negative a) (size_down a) (negative b) (size_up b) a b

pub to_on : (i : Span) {x : Float} → In i x → On (to_strip i) x
unfolding to_strip around
to_on any h = anywhere
to_on (span a b) {x} h = go (negative a) (size_down a) (negative b) (size_up b)
  where
    go : (s : Bool) (m : ℕ) (t : Bool) (n : ℕ) → On (cond (le (grid s m) a && le b (grid t n)) (strip s m t n) all) x
    go s m t n = if (le (grid s m) a) (le b (grid t n)) refl refl
      where
        if : (p q : Bool) → le (grid s m) a ≡ p → le b (grid t n) ≡ q → On (cond (p && q) (strip s m t n) all) x
        if false q u v = anywhere
        if true false u v = anywhere
        if true true u v = record { is = wider (grid s m) (grid t n) (subst T (sym u) tt) (subst T (sym v) tt) h.is.between }

unfoldable pub to_span : Strip → Span
to_span all = any
to_span (strip s a t b) = span (grid s a) (grid t b)

pub span_in : (i : Strip) {x : Float} → On i x → In (to_span i) x
unfolding to_span
span_in all h = unknown
span_in (strip s a t b) h = record { is = record { from = tt; to = tt; between = h.is } }

-- k at least from zero, k being a number of the grid
unfoldable pub clear_of : ℕ → Strip → Bool
clear_of k all = false
clear_of k (strip false a t b) = leb k a
clear_of k (strip true a t b) = t && leb k b

pub clear_of_law : (k : ℕ) (i : Strip) {x : Float} → T (clear_of k i) → On i x → T (le (grid false k) (abs_of x))
unfolding clear_of neg
clear_of_law k all t h = absurd t
clear_of_law k (strip false a t b) {x} q h =
    let l : T (le (grid false k) x) = trans_le (grid false k) (grid false a) x (cross→le (grid false k) (grid false a) tt tt (omega (arith, leb→le k a q))) h.is.low in
    trans_le (grid false k) x (abs_of x) l (le_abs x (le_right (grid false k) x l))
clear_of_law k (strip true a false b) q h = absurd q
clear_of_law k (strip true a true b) {x} q h =
    let l : T (le x (grid true k)) = trans_le x (grid true b) (grid true k) h.is.high (cross→le (grid true b) (grid true k) tt tt (omega (arith, leb→le k b q))) in
    let m : T (le (grid false k) (neg x)) = neg_le x (grid true k) l in
    subst (λ (z : Float). T (le (grid false k) z)) (abs_neg x) (trans_le (grid false k) (neg x) (abs_of (neg x)) m (le_abs (neg x) (le_right (grid false k) (neg x) m)))
