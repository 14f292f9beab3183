-- Sizes, the lesser and the greater, narrowing and the square root, over the values of `lib.Ieee`.
-- Assumes nothing.
use Rattle.std.specs.Prelude.{ℕ, zero, suc, ◌+◌, ◌-◌, ◌*◌, ◌/◌, ◌^◌, ◌<◌, Bool, true, false, cond, T, ℤ, pos, negsuc, is_nan, nat_le, nat_lt, Float}
use Prim.Native.Nat.{compare}
use Rattle.std.specs.Float.{nan, inf, fin, Format, binary32}
use Rattle.std.specs.Float.Ieee.{prec, low, up, down, size, nearest, round, units, neg, lt, le, fits}
use Rattle.std.specs.Float.Ieee.Scale.{finite}
use Rattle.std.specs.Float.Ieee.Positive.{num, den, positive}

-- ---- signs

-- also of -0; a NaN has no sign
unfoldable pub negative : Float → Bool
negative nan = false
negative (inf s) = s
negative (fin s m e) = s

-- the size of x: that of -0 is +0
unfoldable pub abs_of : Float → Float
abs_of x = cond (negative x) (neg x) x

-- w, turned where v has a sign
unfoldable pub with_sign : Float → Float → Float
with_sign v w = cond (negative v) (neg w) w

-- ---- document 01, Figures: 'Where `min` or `max` meets one NaN it gives the other operand; of
-- equals, the left'

unfoldable pub min_of : Float → Float → Float
min_of a b = cond (is_nan a) b (cond (lt b a) b a)

unfoldable pub max_of : Float → Float → Float
max_of a b = cond (is_nan a) b (cond (lt a b) b a)

-- ---- an `f64` as the nearest `f32`, a tie going to the even one

unfoldable pub narrow_of : Float → Float
narrow_of nan = nan
narrow_of (inf s) = inf s
narrow_of (fin s m e) = round binary32 s (m * up e) (down e)

-- ---- the signed number of 32 bits

-- w, or w - 2 ^ 32: `negsuc k` is -(k + 1)
unfoldable pub signed_of : ℕ → ℤ
signed_of w = cond (nat_lt w (2 ^ 31)) (pos w) (negsuc (2 ^ 32 - suc w))

-- ---- the square root, by whole numbers: there is no real number here

-- the whole part of √n, for an n below 4 ^ k: the root of n / 4, doubled, or one more
unfoldable pub root_in : ℕ → ℕ → ℕ
root_in zero n = 0
root_in (suc k) n = let r = 2 * root_in k (n / 4) in cond (nat_le ((r + 1) * (r + 1)) n) (r + 1) r

unfoldable pub root : ℕ → ℕ
unfolding root_in
root n = root_in (size n) n

-- √(a / b) to the nearest whole number: by how it compares with the middle of its whole part and
-- the next number
unfoldable pub closest_root : ℕ → ℕ → ℕ
unfolding root
closest_root a b = let q = root (a / b) in nearest q (compare (a * 4) ((2 * q + 1) * (2 * q + 1) * b))

-- The value of the format f that is nearest to √(num / den), as `round` is of num / den. In units
-- of f's smallest value the root is √(n / den). Of its whole part the format keeps the `prec`
-- leading digits and drops k.
unfoldable pub rounded : Format → ℕ → ℕ → Float
unfolding closest_root
rounded f num den =
    let n = num * 4 ^ low f in
    let k = size (root (n / den)) - prec f in
    units f false (closest_root n (den * 4 ^ k)) k

-- IEEE 754's square root in the format f. The root of -0 is -0, and that of any other number below
-- zero is no number.
unfoldable pub sqrt_of : Format → Float → Float
unfolding rounded
sqrt_of f nan = nan
sqrt_of f (inf true) = nan
sqrt_of f (inf false) = inf false
sqrt_of f (fin s zero e) = fin s zero e
sqrt_of f (fin true (suc m) e) = nan
sqrt_of f (fin false (suc m) e) = rounded f (suc m * up e) (down e)

-- ---- what the root is, said without the steps that find it

-- r is the number of the format f that is nearest to √x, for an x above zero: every other number y
-- of f is farther from √x. There is no real number here. A y below r is farther if the middle (y +
-- r) / 2 is below √x, and a y above r if the middle is above √x. Both sides are squared and the
-- denominators multiplied out: y + r is (num y * den r + num r * den y) / (den y * den r), and x is
-- num x / den x. √x is never the middle itself, so no rule for ties is used. A y below zero is left
-- out: it is farther than 0, which is not left out.
pub record NearestRoot (f : Format) (x r : Float) : Type 0 where
  pub held : T (fits f r)
  pub above_zero : T (positive r)
  pub below :
      (y : Float) → T (fits f y) → T (le (fin false 0 (pos 0)) y) → T (lt y r) →
      (num y * den r + num r * den y) ^ 2 * den x < 4 * num x * (den y * den r) ^ 2
  pub above :
      (y : Float) → T (fits f y) → T (finite y) → T (lt r y) →
      4 * num x * (den y * den r) ^ 2 < (num y * den r + num r * den y) ^ 2 * den x
