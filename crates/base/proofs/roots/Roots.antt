-- The whole part of a square root, and the digits of one, one at a time. Assumes nothing.
use Rattle.std.proofs.Common.{◌≡◌, ℕ, zero, suc, ◌+◌, ◌-◌, ◌*◌, ◌/◌, ◌%◌, ◌^◌, ◌<◌, ◌≤◌, Bool, true, false, cond, not, T, leb, sym, ap, ◌∙◌, subst, le_trans, le_of_eq, lt_of_lt_of_le, le_of_suc-le-suc, lt_of_le_of_lt, mul_assoc, mul_comm, add-mul, mul-le-mul, le_antisymm, mul-lt-mul_of_pos_right, pow-suc, lt_of_not-le, mul-one, mul-add, mul_right_comm, not-le_of_lt, div-one, mul-div_cancel, add-one, arith, lit<, leb→le, pow_pos, pow_mono}
use Prim.Native.Nat.{compare}
use native.Mathlib.Nat.{mul-mul-mul_comm, pow-le-pow_left}
use lib.Dec.{nleb→lt}
use lib.Ieee.{size, nearest}
use lib.Ieee.Digits.{size-lt}
use lib.Ieee.Fits.{nearest-le}
use lib.Ieee.Nearest.{nearest-ge}
use Rattle.base.specs.Number.{root_in, root, closest_root}
use Rattle.base.proofs.rounding.Halves.{nearest_below, nearest_above}

-- ---- squares
pub root_of_lt : (x y : ℕ) → x * x < (y + 1) * (y + 1) → x ≤ y
root_of_lt x y h = le_of_suc-le-suc (lt_of_not-le (λ (g : suc y ≤ x). not-le_of_lt h (let l : y + 1 ≤ x = omega arith in mul-le-mul l l)))

double_square : (q : ℕ) → 2 * q * (2 * q) ≡ q * q * 4
double_square q = mul-mul-mul_comm 2 q 2 q ∙ mul_comm 4 (q * q)

next_square : (q : ℕ) → (q + 1) * (q + 1) ≡ q * q + 2 * q + 1
next_square q = simp (mul-add, add-mul) (omega arith)

odd_square : (q : ℕ) → (2 * q + 1) * (2 * q + 1) ≡ q * q * 4 + q * 4 + 1
odd_square q = let e = double_square q in next_square (2 * q) ∙ omega arith

-- ---- the whole part of a root
abbrev Whole : ℕ → ℕ → Type 0
Whole n r = (r * r ≤ n) × (n < (r + 1) * (r + 1))

in_whole : (k n : ℕ) → n < 4 ^ k → Whole n (root_in k n)
unfolding root_in
in_whole zero n h = (omega arith, omega arith)
in_whole (suc k) n h = go (root_in k (n / 4)) (in_whole k (n / 4) (let e = pow-suc 4 k in omega arith))
  where
    go : (r : ℕ) → Whole (n / 4) r → Whole n (cond (leb ((2 * r + 1) * (2 * r + 1)) n) (2 * r + 1) (2 * r))
    go r w = pick (leb ((2 * r + 1) * (2 * r + 1)) n) (leb→le ((2 * r + 1) * (2 * r + 1)) n) (nleb→lt ((2 * r + 1) * (2 * r + 1)) n)
      where
        pick : (b : Bool) → (T b → (2 * r + 1) * (2 * r + 1) ≤ n) → (T (not b) → n < (2 * r + 1) * (2 * r + 1)) → Whole n (cond b (2 * r + 1) (2 * r))
        pick true y z =
            let e = next_square (2 * r + 1) in
            let f = odd_square r in
            let g = next_square r in
            (y tt, omega arith)
        pick false y z =
            let e = double_square r in
            (omega arith, z tt)

pub root_whole : (n : ℕ) → Whole n (root n)
unfolding root
root_whole n = in_whole (size n) n (lt_of_lt_of_le (size-lt n) (le_of_lt_four (size n)))
  where
    le_of_lt_four : (z : ℕ) → 2 ^ z ≤ 4 ^ z
    le_of_lt_four z = pow-le-pow_left (omega arith) z

pub root_is : (n q : ℕ) → q * q ≤ n → n < (q + 1) * (q + 1) → root n ≡ q
root_is n q lo hi = le_antisymm (root_of_lt (root n) q (lt_of_le_of_lt (root_whole n).0 hi)) (root_of_lt q (root n) (lt_of_le_of_lt lo (root_whole n).1))

-- ---- the nearest whole number
module _ (a q u : ℕ) (U : 0 < u) where
  middle : closest_root (a * u) u ≡ nearest (root a) (compare (a * u * 4) ((2 * root a + 1) * (2 * root a + 1) * u))
  unfolding closest_root
  middle = ap (λ (n : ℕ). nearest (root n) (compare (a * u * 4) ((2 * root n + 1) * (2 * root n + 1) * u))) (mul-div_cancel a U)

  at_root : root a ≡ q → closest_root (a * u) u ≡ nearest q (compare (a * u * 4) ((2 * q + 1) * (2 * q + 1) * u))
  at_root e = middle ∙ ap (λ (r : ℕ). nearest r (compare (a * u * 4) ((2 * r + 1) * (2 * r + 1) * u))) e

  pub closest_down : q * q ≤ a → a ≤ q * q + q → closest_root (a * u) u ≡ q
  closest_down lo hi =
      let e = odd_square q in
      let g = next_square q in
      let l : a * 4 < (2 * q + 1) * (2 * q + 1) = omega arith in
      at_root (root_is a q lo (omega arith))
      ∙ nearest_below q (a * u * 4) ((2 * q + 1) * (2 * q + 1) * u) (lt_of_le_of_lt (le_of_eq (mul_right_comm a u 4)) (mul-lt-mul_of_pos_right l U))

  pub closest_up : q * q + q < a → a < (q + 1) * (q + 1) → closest_root (a * u) u ≡ q + 1
  closest_up lo hi =
      let e = odd_square q in
      let l : (2 * q + 1) * (2 * q + 1) < a * 4 = omega arith in
      at_root (root_is a q (omega arith) hi)
      ∙ nearest_above q (a * u * 4) ((2 * q + 1) * (2 * q + 1) * u) (lt_of_lt_of_le (mul-lt-mul_of_pos_right l U) (le_of_eq (mul_right_comm a 4 u)))

-- ---- the digits, one a turn: of a, as its two highest of 54 places go, i of them are read
pub record Turn (a digits q rest i : ℕ) : Type 0 where
  pub turns : i ≤ 53
  pub places : digits < 2 ^ 54
  pub over : rest ≤ 2 * q
  pub below : q < 2 ^ i
  pub value : (q * q + rest) * 2 ^ 54 + digits ≡ a * 4 ^ i

module _ (a d q r i : ℕ) (t : Turn a d q r i) (h : i < 53) where
  more : a * 4 ^ (i + 1) ≡ a * 4 ^ i * 4
  more = ap (λ (x : ℕ). a * x) (ap (λ (j : ℕ). 4 ^ j) (add-one i) ∙ pow-suc 4 i) ∙ sym (mul_assoc a (4 ^ i) 4)

  twice : 2 ^ (i + 1) ≡ 2 ^ i * 2
  twice = ap (λ (j : ℕ). 2 ^ j) (add-one i) ∙ pow-suc 2 i

  pub turn_one : q * 4 + 1 ≤ r * 4 + d / 2 ^ 52 → Turn a (d % 2 ^ 52 * 4) (q * 2 + 1) (r * 4 + d / 2 ^ 52 - (q * 4 + 1)) (i + 1)
  turn_one g =
      let e : (q * 2 + 1) * (q * 2 + 1) ≡ q * q * 4 + q * 4 + 1 = ap (λ (x : ℕ). (x + 1) * (x + 1)) (mul_comm q 2) ∙ odd_square q in
      record { turns = omega arith; places = omega arith; over = omega arith; below = omega (arith, twice); value = omega (arith, more) }

  pub turn_zero : r * 4 + d / 2 ^ 52 < q * 4 + 1 → Turn a (d % 2 ^ 52 * 4) (q * 2) (r * 4 + d / 2 ^ 52) (i + 1)
  turn_zero g =
      let e : q * 2 * (q * 2) ≡ q * q * 4 = mul-mul-mul_comm q 2 q 2 in
      record { turns = omega arith; places = omega arith; over = omega arith; below = omega (arith, twice); value = omega (arith, more) }

  pub q_lt : q < 2 ^ 52
  q_lt = lt_of_lt_of_le t.below (pow_mono {i = i} {j = 52} (omega arith))

pub first : (a : ℕ) → a < 2 ^ 54 → Turn a a 0 0 0
first a h = record { turns = omega arith; places = h; over = omega arith; below = omega arith; value = omega arith }

module _ (a d q r i : ℕ) (t : Turn a d q r i) (h : 53 ≤ i) where
  pub all : q * q + r ≡ a * 2 ^ 52
  all =
      let o = t.turns in
      let e : i ≡ 53 = omega arith in
      let v : (q * q + r) * 2 ^ 54 + d ≡ a * 4 ^ 53 = t.value ∙ ap (λ (j : ℕ). a * 4 ^ j) e in
      let l = t.places in
      omega arith

  pub last_lt : q < 2 ^ 53
  last_lt = lt_of_lt_of_le t.below (pow_mono {i = i} {j = 53} t.turns)

-- ---- with a root's whole part q and what is left over, the nearest number
module _ (a q r : ℕ) (e : q * q + r ≡ a * 2 ^ 52) where
  pub down : r ≤ q → q ≡ closest_root (a * 2 ^ 52) 1
  down g = sym (ap (λ (x : ℕ). closest_root x 1) (sym (mul-one (a * 2 ^ 52))) ∙ closest_down (a * 2 ^ 52) q 1 (omega arith) (omega arith) (omega arith))

  pub up : q < r → r ≤ 2 * q → q + 1 ≡ closest_root (a * 2 ^ 52) 1
  up g o =
      let n = next_square q in
      sym (ap (λ (x : ℕ). closest_root x 1) (sym (mul-one (a * 2 ^ 52))) ∙ closest_up (a * 2 ^ 52) q 1 (omega arith) (omega arith) (omega arith))

-- ---- the product of w = h * 2 ^ 27 + l and the next number, taken off in parts
parts : (h l : ℕ) → (h * 2 ^ 27 + l) * (h * 2 ^ 27 + l) ≡ h * h * 2 ^ 54 + h * l * 2 ^ 28 + l * l
parts h l =
    let e = mul-mul-mul_comm h (2 ^ 27) h (2 ^ 27) in
    let f = mul_right_comm h (2 ^ 27) l in
    let g = mul_comm l (h * 2 ^ 27) in
    simp (mul-add, add-mul) (omega arith)

pub sizes : (w : ℕ) → w < 2 ^ 53 → (w / 2 ^ 27 * (w / 2 ^ 27) < 2 ^ 52) × (w / 2 ^ 27 * (w % 2 ^ 27 * 2 + 1) < 2 ^ 54) × (w % 2 ^ 27 * (w % 2 ^ 27 + 1) < 2 ^ 54)
sizes w h =
    let x : w / 2 ^ 27 ≤ 2 ^ 26 - 1 = omega arith in
    let y : w % 2 ^ 27 * 2 + 1 ≤ 2 ^ 28 - 1 = omega arith in
    let z : w % 2 ^ 27 ≤ 2 ^ 27 - 1 = omega arith in
    let z' : w % 2 ^ 27 + 1 ≤ 2 ^ 27 = omega arith in
    (lt_of_le_of_lt (mul-le-mul x x) (lit< tt), lt_of_le_of_lt (mul-le-mul x y) (lit< tt), lt_of_le_of_lt (mul-le-mul z z') (lit< tt))

-- what is left over w * (w + 1), less one
module _ (a w high over rest : ℕ) (p : high + w / 2 ^ 27 * (w / 2 ^ 27) * 4 ≡ a) (q : over + w / 2 ^ 27 * (w % 2 ^ 27 * 2 + 1) ≡ high * 2 ^ 25) (r : rest + (w % 2 ^ 27 * (w % 2 ^ 27 + 1) + 1) ≡ over * 2 ^ 27) where
  taken_off : w * w + (w + 1 + rest) ≡ a * 2 ^ 52
  taken_off =
      let h = w / 2 ^ 27 in
      let l = w % 2 ^ 27 in
      let s : h * 2 ^ 27 + l ≡ w = omega arith in
      let e : w * w ≡ h * h * 2 ^ 54 + h * l * 2 ^ 28 + l * l = ap (λ (x : ℕ). x * x) (sym s) ∙ parts h l in
      let f : h * (l * 2 + 1) ≡ h * l * 2 + h = simp (mul-add) (omega (arith, mul_assoc h l 2)) in
      let g : l * (l + 1) ≡ l * l + l = simp (mul-add) (omega arith) in
      omega arith

  -- (w + 1) ^ 2 is above or not, and the middles to both sides of it are not passed
  pub next_nearest : rest < w * 2 + 2 → w + 1 ≡ closest_root (a * 2 ^ 52) 1
  next_nearest h = go (leb w rest) (leb→le w rest) (nleb→lt w rest)
    where
      go : (b : Bool) → (T b → w ≤ rest) → (T (not b) → rest < w) → w + 1 ≡ closest_root (a * 2 ^ 52) 1
      go true y z =
          let l = y tt in
          let n = next_square w in
          let e = taken_off in
          down a (w + 1) (rest - w) (omega arith) (omega arith)
      go false y z =
          let l = z tt in
          up a w (w + 1 + rest) taken_off (omega arith) (omega arith)

pub moved : (a d q r i q' r' : ℕ) → q' ≡ q → r' ≡ r → Turn a d q r i → Turn a d q' r' i
moved a d q r i q' r' e f t = subst (λ (x : ℕ). Turn a d x r' i) (sym e) (subst (λ (x : ℕ). Turn a d q x i) (sym f) t)

-- ---- how large the nearest number is
pub closest_root_le : (a p : ℕ) → a < 2 ^ p * 2 ^ p → closest_root a 1 ≤ 2 ^ p
unfolding closest_root
closest_root_le a p h =
    let e = div-one a in
    let o = pow_pos p in
    let n : 2 ^ p - 1 + 1 ≡ 2 ^ p = omega arith in
    let l : root (a / 1) ≤ 2 ^ p - 1 = root_of_lt (root (a / 1)) (2 ^ p - 1) (rw n (lt_of_le_of_lt (le_trans (root_whole (a / 1)).0 (le_of_eq e)) h)) in
    le_trans (nearest-le (root (a / 1)) (compare (a * 4) ((2 * root (a / 1) + 1) * (2 * root (a / 1) + 1) * 1))) (omega arith)

pub root_ge : (a q : ℕ) → q * q ≤ a → q ≤ root a
root_ge a q h = root_of_lt q (root a) (lt_of_le_of_lt h (root_whole a).1)

pub root_lt : (a q : ℕ) → a < q * q → root a < q
root_lt a q h = lt_of_not-le (λ (g : q ≤ root a). not-le_of_lt h (le_trans (mul-le-mul g g) (root_whole a).0))

pub closest_root_ge : (a q : ℕ) → q * q ≤ a → q ≤ closest_root a 1
unfolding closest_root
closest_root_ge a q h =
    le_trans (root_ge (a / 1) q (le_trans h (le_of_eq (sym (div-one a))))) (nearest-ge (root (a / 1)) (compare (a * 4) ((2 * root (a / 1) + 1) * (2 * root (a / 1) + 1) * 1)))

-- ---- the nearest number to a root sees only the fraction's value
pub closest_root_scale : (a u : ℕ) → 0 < u → closest_root (a * u) u ≡ closest_root a 1
closest_root_scale a u U = go (leb a (q * q + q)) (leb→le a (q * q + q)) (nleb→lt a (q * q + q))
  where
    q : ℕ
    q = root a

    one : closest_root a 1 ≡ closest_root (a * 1) 1
    one = ap (λ (x : ℕ). closest_root x 1) (sym (mul-one a))

    go : (b : Bool) → (T b → a ≤ q * q + q) → (T (not b) → q * q + q < a) → closest_root (a * u) u ≡ closest_root a 1
    go true y z = closest_down a q u U (root_whole a).0 (y tt) ∙ sym (one ∙ closest_down a q 1 (pow_pos 0) (root_whole a).0 (y tt))
    go false y z = closest_up a q u U (z tt) (root_whole a).1 ∙ sym (one ∙ closest_up a q 1 (pow_pos 0) (z tt) (root_whole a).1)
