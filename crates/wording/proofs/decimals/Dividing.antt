-- The `f32` nearest to n / d, by a long division in binary. n / d is v / b times 2 ^ k of the
-- smallest values all along (`Same`): doubling b moves k up, doubling v moves it down, and once
-- v / b has the 24 digits that are kept its nearest whole number and k are the pattern
-- (`pattern`). Assumes nothing.
use Rattle.std.proofs.Common.{◌≡◌, refl, sym, ap, ◌∙◌, subst, inl, inr, Bool, cond, ℕ, suc, ◌+◌, ◌-◌, ◌*◌, ◌/◌, ◌%◌, ◌^◌, ◌≤◌, ◌<◌, zero-le, add-zero, le-add_right, suc-mul, mod-lt, div-add-mod', le_trans, le_of_eq, lt_of_lt_of_le, lt_of_le_of_lt, lt_of_not-le, lt_irrefl, one-mul, zero-mul, mul_comm, mul_assoc, mul_right_comm, mul-le-mul, mul-le-mul_left, mul-le-mul_right, mul-lt-mul_of_pos_right, le_of_mul-le-mul_right, lt_of_mul-lt-mul_right, le-mul_of_pos_right, mul-pos, add-mul, le-div_iff_mul-le, div-lt_iff_lt-mul, pow-suc, add-one, arith, lit≤, pow-add, pow_pos, pow_mono}
use Prim.Native.Nat.{compare}
use native.Mathlib.Nat.{one-le-pow, pow-le-pow_right}
use lib.Pow.{pow-lt}
use lib.Arith.{digits_div, digits_mod}
use lib.Ieee.{binary32, size, nearest, units, round, of_bits}
use lib.Ieee.Digits.{size-le}
use lib.Ieee.Fits.{core, round_is, nearest-le}
use lib.Ieee.Nearest.{closest, closest_same, nearest-ge}
use Rattle.base.proofs.rounding.Rounding.{just, size_gt, units_bits, round_bits}

-- how many of the smallest values 1 is; shut, since `omega` takes no number so large
pub unit : ℕ
unit = 2 ^ 149

unit_is : unit ≡ 2 ^ 149
unfolding unit
unit_is = refl

abbrev pub Same : ℕ → ℕ → ℕ → ℕ → ℕ → Type 0
Same n d v b k = n * unit * b ≡ v * (d * 2 ^ k)

-- ---- the turns
pub same_first : (n d : ℕ) → Same n d n d 149
same_first n d = mul_assoc n unit d ∙ ap (λ (x : ℕ). n * x) (mul_comm unit d ∙ ap (λ (x : ℕ). d * x) unit_is)

same_wider : (n d b k : ℕ) → Same n d n b k → Same n d n (b * 2) (k + 1)
same_wider n d b k h =
    sym (mul_assoc (n * unit) b 2) ∙ ap (λ (x : ℕ). x * 2) h ∙ mul_assoc n (d * 2 ^ k) 2
    ∙ ap (λ (x : ℕ). n * x) (mul_assoc d (2 ^ k) 2 ∙ ap (λ (x : ℕ). d * x) (sym (pow-suc 2 k) ∙ ap (λ (j : ℕ). 2 ^ j) (sym (add-one k))))

same_down : (n d v b k : ℕ) → Same n d v b k → 0 < k → Same n d (v * 2) b (k - 1)
same_down n d v b k h K =
    let e : k ≡ suc (k - 1) = omega arith in
    h ∙ ap (λ (x : ℕ). v * (d * x)) (ap (λ (j : ℕ). 2 ^ j) e ∙ pow-suc 2 (k - 1))
    ∙ ap (λ (x : ℕ). v * x) (sym (mul_assoc d (2 ^ (k - 1)) 2) ∙ mul_comm (d * 2 ^ (k - 1)) 2)
    ∙ sym (mul_assoc v 2 (d * 2 ^ (k - 1)))

-- ---- how far k goes
module _ (n d v b k : ℕ) (h : Same n d v b k) (B : 0 < b) where
  -- the two sides without b
  most : (m : ℕ) → m * b ≤ v → m * (d * 2 ^ k) ≤ n * unit
  most m l =
      le_of_mul-le-mul_right
      (le_trans (le_of_eq (mul_right_comm m (d * 2 ^ k) b)) (le_trans (mul-le-mul_right (d * 2 ^ k) l) (le_of_eq (sym h))))
      B

  least : (m : ℕ) → v < m * b → 0 < d → n * unit < m * (d * 2 ^ k)
  least m l D =
      lt_of_mul-lt-mul_right b
      (lt_of_le_of_lt (le_of_eq h) (lt_of_lt_of_le (mul-lt-mul_of_pos_right l (mul-pos D (pow_pos k))) (le_of_eq (mul_right_comm m b (d * 2 ^ k)))))

  k_lt : 2 ^ 23 * b ≤ v → 0 < d → n < 10 ^ 18 → k < 186
  k_lt l D N =
      lt_of_not-le λ (g : 186 ≤ k).
      let x : 2 ^ 23 * 2 ^ 186 ≤ n * unit = le_trans (mul-le-mul_left (2 ^ 23) (le_trans (pow_mono g) (le_trans (le-mul_of_pos_right (2 ^ k) D) (le_of_eq (mul_comm (2 ^ k) d))))) (most (2 ^ 23) l) in
      let y : n * unit < 2 ^ 60 * unit = mul-lt-mul_of_pos_right (lt_of_lt_of_le N (lit≤ tt)) (subst (λ (u : ℕ). 0 < u) (sym unit_is) (pow_pos 149)) in
      lt_irrefl (2 ^ 209) (lt_of_le_of_lt x (lt_of_lt_of_le y (le_of_eq (ap (λ (u : ℕ). 2 ^ 60 * u) unit_is))))

  -- v / b has fewer than the 24 digits that are kept: there is room for one more
  k_pos : v < 2 ^ 23 * b → 0 < n → 0 < d → d ≤ 10 ^ 18 → 0 < k
  k_pos l N D S =
      lt_of_not-le λ (g : k ≤ 0).
      let x : 1 * unit ≤ n * unit = mul-le-mul_right unit N in
      let y : 2 ^ 23 * (d * 2 ^ k) ≤ 2 ^ 23 * (2 ^ 60 * 2 ^ 0) = mul-le-mul_left (2 ^ 23) (mul-le-mul {n₂ = 2 ^ 60} (le_trans S (lit≤ tt)) (pow_mono g)) in
      lt_irrefl (2 ^ 149) (lt_of_le_of_lt (le_of_eq (sym unit_is ∙ sym (one-mul unit))) (lt_of_le_of_lt x (lt_of_lt_of_le (least (2 ^ 23) l D) (le_trans y (lit≤ tt)))))

-- ---- the first loop: b grows until n / b is below 2 ^ 24
pub record Widened (n d b k : ℕ) : Type 0 where
  pub above : 0 < b
  pub small : b ≤ 10 ^ 18
  pub same : Same n d n b k

module _ {n d b k : ℕ} (w : Widened n d b k) (l : 2 ^ 24 ≤ n / b) (N : n < 10 ^ 18) (D : 0 < d) where
  many : 2 ^ 24 * b ≤ n
  many = (le-div_iff_mul-le w.above).0 l

  pub few : b < 2 ^ 36
  few = omega (arith, many)

  pub early : k < 186
  early = k_lt n d n b k w.same w.above (omega (arith, many)) D N

  pub wider : Widened n d (b * 2) (k + 1)
  wider = record { above = let a = w.above in omega arith; small = omega (arith, few); same = same_wider n d b k w.same }

-- ---- the second loop: q + rest / b is doubled until it is 2 ^ 23 or more
pub record Divided (n d b k q rest : ℕ) : Type 0 where
  pub small : b ≤ 10 ^ 18
  pub digits : q < 2 ^ 24
  pub over : rest < b
  pub same : Same n d (q * b + rest) b k

below : (q b rest m : ℕ) → rest < b → q < m → q * b + rest < m * b
below q b rest m h l = lt_of_lt_of_le (let e = suc-mul q b in omega arith) (mul-le-mul_right b l)

pub divided : {n d b k : ℕ} → Widened n d b k → n / b < 2 ^ 24 → Divided n d b k (n / b) (n % b)
divided {n} {d} {b} {k} w l = record {
  small = w.small;
  digits = l;
  over = mod-lt n w.above;
  same = subst (λ (v : ℕ). Same n d v b k) (sym (div-add-mod' n b)) w.same;
}

module _ {n d b k q rest : ℕ} (t : Divided n d b k q rest) (Q : q < 2 ^ 23) (N : 0 < n) (D : 0 < d) (S : d ≤ 10 ^ 18) where
  pub more : 0 < k
  more = k_pos n d (q * b + rest) b k t.same (lt_of_le_of_lt zero-le t.over) (below q b rest (2 ^ 23) t.over Q) N D S

  twice : Same n d ((q * b + rest) * 2) b (k - 1)
  twice = same_down n d (q * b + rest) b k t.same more

  pub turn_zero : rest * 2 < b → Divided n d b (k - 1) (q * 2) (rest * 2)
  turn_zero l = record {
    small = t.small;
    digits = omega arith;
    over = l;
    same = subst (λ (v : ℕ). Same n d v b (k - 1)) (add-mul (q * b) rest 2 ∙ ap (λ (x : ℕ). x + rest * 2) (mul_right_comm q b 2)) twice;
  }

  pub turn_one : b ≤ rest * 2 → Divided n d b (k - 1) (q * 2 + 1) (rest * 2 - b)
  turn_one l =
      let e : (q * 2 + 1) * b ≡ q * 2 * b + 1 * b = add-mul (q * 2) 1 b in
      let f : q * b * 2 ≡ q * 2 * b = mul_right_comm q b 2 in
      let g : (q * b + rest) * 2 ≡ q * b * 2 + rest * 2 = add-mul (q * b) rest 2 in
      let o = t.over in
      let v : (q * b + rest) * 2 ≡ (q * 2 + 1) * b + (rest * 2 - b) = omega arith in
      record { small = t.small; digits = omega arith; over = omega arith; same = subst (λ (v : ℕ). Same n d v b (k - 1)) v twice }

-- ---- the pattern
module _ {n d b k q rest : ℕ} (t : Divided n d b k q rest) (Q : 2 ^ 23 ≤ q) (N : n < 10 ^ 18) (D : 0 < d) where
  B : 0 < b
  B = lt_of_le_of_lt zero-le t.over

  lo : 2 ^ 23 * b ≤ q * b + rest
  lo = le_trans (mul-le-mul_right b Q) (le-add_right (q * b) rest)

  hi : q * b + rest < 2 ^ 24 * b
  hi = below q b rest (2 ^ 24) t.over t.digits

  pub last : k < 186
  last = k_lt n d (q * b + rest) b k t.same B lo D N

  -- the whole number that is kept
  abbrev kept : ℕ
  kept = nearest q (compare (rest * 2) b)

  kept_le : kept ≤ 2 ^ 24
  kept_le = le_trans (nearest-le q (compare (rest * 2) b)) t.digits

  pub fits : k * 2 ^ 23 + nearest q (compare (rest * 2) b) < 2 ^ 31
  fits = omega (arith, kept_le, last)

  moved : (m : ℕ) → m * (d * 2 ^ k) ≡ m * 2 ^ k * d
  moved m = ap (λ (x : ℕ). m * x) (mul_comm d (2 ^ k)) ∙ sym (mul_assoc m (2 ^ k) d)

  same' : n * 2 ^ 149 * b ≡ (q * b + rest) * (d * 2 ^ k)
  same' = ap (λ (u : ℕ). n * u * b) (sym unit_is) ∙ t.same

  drops : size (n * 2 ^ 149 / d) - 24 ≡ k
  drops =
      let z = n * 2 ^ 149 / d in
      let w : n * unit ≡ n * 2 ^ 149 = ap (λ (u : ℕ). n * u) unit_is in
      let l : 2 ^ (23 + k) ≤ z = (le-div_iff_mul-le D).1 (le_trans (le_of_eq (ap (λ (x : ℕ). x * d) (pow-add 2 23 k) ∙ sym (moved (2 ^ 23)))) (le_trans (most n d (q * b + rest) b k t.same B (2 ^ 23) lo) (le_of_eq w))) in
      let h : z < 2 ^ (24 + k) = (div-lt_iff_lt-mul D).1 (lt_of_le_of_lt (le_of_eq (sym w)) (lt_of_lt_of_le (least n d (q * b + rest) b k t.same B (2 ^ 24) hi D) (le_of_eq (moved (2 ^ 24) ∙ ap (λ (x : ℕ). x * d) (sym (pow-add 2 24 k)))))) in
      just (size z) 23 k (size-le z (24 + k) h) (size_gt z (23 + k) l)

  whole : closest (n * 2 ^ 149) (d * 2 ^ k) ≡ kept
  whole =
      closest_same (n * 2 ^ 149) (d * 2 ^ k) (q * b + rest) b (mul-pos D (pow_pos k)) B same'
      ∙ ap (λ (x : ℕ). nearest x (compare ((q * b + rest) % b * 2) b)) (digits_div q t.over)
      ∙ ap (λ (x : ℕ). nearest q (compare (x * 2) b)) (digits_mod q t.over)

  pub pattern : (s : Bool) → of_bits binary32 (cond s (2 ^ 31) 0 + (k * 2 ^ 23 + kept)) ≡ round binary32 s n d
  pattern s =
      let room : kept * 2 ^ k < 2 ^ 277 = lt_of_le_of_lt (le_trans (mul-le-mul_right (2 ^ k) kept_le) (le_of_eq (sym (pow-add 2 24 k)))) (pow-lt {i = 24 + k} {j = 277} (omega (arith, last))) in
      sym
      (round_is binary32 s n d ∙ ap (λ (j : ℕ). core binary32 s (n * 2 ^ 149) d j) drops
      ∙ ap (λ (c : ℕ). units binary32 s c k) whole
      ∙ units_bits binary32 s kept k (kept_le, inr (le_trans Q (nearest-ge q (compare (rest * 2) b)))) room)

pub zero_pattern : (s : Bool) (d : ℕ) → 0 < d → of_bits binary32 (cond s (2 ^ 31) 0) ≡ round binary32 s 0 d
zero_pattern s d D =
    ap (of_bits binary32) (sym (add-zero (cond s (2 ^ 31) 0)))
    ∙ sym (round_bits binary32 s 0 d 0 0 0 D (sym (zero-mul d)) (lit≤ tt, inl refl) (lit≤ tt))

-- ---- the sign's bit and the power of ten
pub ten_pos : (k : ℕ) → 0 < 10 ^ k
ten_pos k = one-le-pow k 10 (lit≤ tt)

pub ten_le : (k : ℕ) → k ≤ 18 → 10 ^ k ≤ 10 ^ 18
ten_le k h = pow-le-pow_right (lit≤ tt) h
