-- The bit pattern of a rounded fraction: what `round` gives, from integers that a program can hold.
-- A fraction a / c that is m * 2 ^ k / 2 ^ n of the format's smallest values, where m / 2 ^ n has
-- as many digits as the format keeps (`Keeps`), rounds to the pattern k * hid + closest m (2 ^ n),
-- the sign aside (`round_bits`), or to an infinity (`round_inf`). Assumes nothing.
use Rattle.std.proofs.Common.{◌≡◌, ℕ, suc, ◌+◌, ◌-◌, ◌*◌, ◌/◌, ◌%◌, ◌^◌, ◌<◌, ◌≤◌, Bool, true, false, cond, not, T, ltb, ◌⊎◌, sym, refl, ap, ◌∙◌, subst, inl, inr, le_trans, le_of_eq, lt_of_lt_of_le, le_of_suc-le-suc, lt_of_le_of_lt, add-zero, add_assoc, mul-le-mul_right, mul_assoc, lt-suc_self, mul_comm, le_antisymm, eq-or-lt_of_le, mul-pos, lt_of_not-le, le-div_iff_mul-le, mul-one, mul_right_comm, not-le_of_lt, le_of_mul-le-mul_right, div-one, mul-div_cancel, mul_left_comm, arith, ltb→lt, nltb→le, pow_pos, pow_mono, pow-add, shl_lt, shr_lt, Float}
use Prim.Native.Nat.{compare}
use native.Mathlib.Nat.{pow-succ'}
use lib.Pow.{pow-lt, shl-shr}
use lib.Arith.{le→nltb}
use lib.Ieee.{nan, inf, fin, Format, binary32, binary64, prec, emax, low, up, down, hid, ones, top, size, units, round, of_bits, to_bits, fits}
use lib.Ieee.Digits.{size-lt, size-le}
use lib.Ieee.Fits.{core, round_is, odd-fits, cond-fits, inf-fits, nearest-le, down_pos}
use lib.Ieee.Exact.{HasValue, units_val}
use lib.Ieee.Nearest.{closest, nearest-ge, closest_same, div_same}
use lib.Ieee.Bits.{of_bits-to_bits, cond_no}

-- ---- powers of two
pub shifts : (m x i n k l : ℕ) → x + i + n ≡ k + l → m * 2 ^ x * 2 ^ i * 2 ^ n ≡ m * 2 ^ k * 2 ^ l
shifts m x i n k l e =
    mul_assoc (m * 2 ^ x) (2 ^ i) (2 ^ n) ∙ mul_assoc m (2 ^ x) (2 ^ i * 2 ^ n) ∙ ap (λ (z : ℕ). m * z) (sym (mul_assoc (2 ^ x) (2 ^ i) (2 ^ n)) ∙ ap (λ (z : ℕ). z * 2 ^ n) (sym (pow-add 2 x i)) ∙ sym (pow-add 2 (x + i) n) ∙ ap (λ (z : ℕ). 2 ^ z) e ∙ pow-add 2 k l) ∙ sym (mul_assoc m (2 ^ k) (2 ^ l))

-- ---- how many digits a number has
pub size_gt : (n j : ℕ) → 2 ^ j ≤ n → j < size n
size_gt n j h = lt_of_not-le (λ (g : size n ≤ j). not-le_of_lt (lt_of_lt_of_le (size-lt n) (pow_mono g)) h)

-- with suc p digits kept of m * 2 ^ k / 2 ^ n, k are dropped
abbrev pub Keeps : ℕ → ℕ → ℕ → ℕ → Type 0
Keeps p m n k = (m < 2 ^ (suc p + n)) × ((k ≡ 0) ⊎ (2 ^ (p + n) ≤ m))

few : (z p : ℕ) → z ≤ p → z - p ≡ 0
few z p h = omega arith

pub just : (z p k : ℕ) → z ≤ suc p + k → p + k < z → z - suc p ≡ k
just z p k h g = omega arith

swap : (a n k : ℕ) → 2 ^ (a + n) * 2 ^ k ≡ 2 ^ (a + k) * 2 ^ n
swap a n k = ap (λ (x : ℕ). x * 2 ^ k) (pow-add 2 a n) ∙ mul_right_comm (2 ^ a) (2 ^ n) (2 ^ k) ∙ ap (λ (x : ℕ). x * 2 ^ n) (sym (pow-add 2 a k))

drop_is : (p m n k : ℕ) → Keeps p m n k → size (m * 2 ^ k / 2 ^ n) - suc p ≡ k
drop_is p m n k (h, inl e) =
    ap (λ (j : ℕ). size (m * 2 ^ j / 2 ^ n) - suc p) e
    ∙ ap (λ (x : ℕ). size (x / 2 ^ n) - suc p) (mul-one m)
    ∙ few (size (m / 2 ^ n)) (suc p) (size-le (m / 2 ^ n) (suc p) (shr_lt (suc p) n h))
    ∙ sym e
drop_is p m n k (h, inr g) =
    let z = m * 2 ^ k / 2 ^ n in
    let lo : 2 ^ (p + k) ≤ z = (le-div_iff_mul-le (pow_pos n)).1 (le_trans (le_of_eq (sym (swap p n k))) (mul-le-mul_right (2 ^ k) g)) in
    let up' : m * 2 ^ k < 2 ^ (suc p + k + n) = lt_of_lt_of_le (shl_lt (suc p + n) k h) (le_of_eq (ap (λ (x : ℕ). 2 ^ x) (omega arith))) in
    just (size z) p k (size-le z (suc p + k) (shr_lt (suc p + k) n up')) (size_gt z (p + k) lo)

-- ---- the whole number that is kept
pub closest_le : (p m n : ℕ) → m < 2 ^ (p + n) → closest m (2 ^ n) ≤ 2 ^ p
closest_le p m n h = le_trans (nearest-le (m / 2 ^ n) (compare (m % 2 ^ n * 2) (2 ^ n))) (shr_lt p n h)

pub closest_ge : (p m n : ℕ) → 2 ^ (p + n) ≤ m → 2 ^ p ≤ closest m (2 ^ n)
closest_ge p m n h =
    le_trans ((le-div_iff_mul-le (pow_pos n)).1 (le_trans (le_of_eq (sym (pow-add 2 p n))) h)) (nearest-ge (m / 2 ^ n) (compare (m % 2 ^ n * 2) (2 ^ n)))

-- the same, of what is kept after the rounding, which can be 2 ^ suc p
abbrev pub Kept : ℕ → ℕ → ℕ → Type 0
Kept p q k = (q ≤ 2 ^ suc p) × ((k ≡ 0) ⊎ (2 ^ p ≤ q))

kept : (p m n k : ℕ) → Keeps p m n k → Kept p (closest m (2 ^ n)) k
kept p m n k (h, inl e) = (closest_le (suc p) m n h, inl e)
kept p m n k (h, inr g) = (closest_le (suc p) m n h, inr (closest_ge p m n g))

-- ---- the pattern of q * 2 ^ k of the smallest values
shifted : (a p k : ℕ) → suc k * a + a ≡ k * a + (a + a)
shifted a p k = omega arith

unshifted : (p q k : ℕ) → q < 2 ^ suc p → (k ≡ 0) ⊎ (2 ^ p ≤ q) → Keeps p q 0 k
unshifted p q k g (inl e) = (subst (λ (x : ℕ). q < 2 ^ x) (sym (add-zero (suc p))) g, inl e)
unshifted p q k g (inr l) = (subst (λ (x : ℕ). q < 2 ^ x) (sym (add-zero (suc p))) g, inr (subst (λ (x : ℕ). 2 ^ x ≤ q) (sym (add-zero p)) l))

abbrev Pat : ℕ → ℕ → ℕ → ℕ → ℕ → Type 0
Pat p q k x j = j * 2 ^ p + x / 2 ^ j ≡ k * 2 ^ p + q

pattern : (p q k : ℕ) → Kept p q k → (size (q * 2 ^ k) - suc p) * 2 ^ p + q * 2 ^ k / 2 ^ (size (q * 2 ^ k) - suc p) ≡ k * 2 ^ p + q
pattern p q k (h, b) = go (eq-or-lt_of_le h)
  where
    go : (q ≡ 2 ^ suc p) ⊎ (q < 2 ^ suc p) → Pat p q k (q * 2 ^ k) (size (q * 2 ^ k) - suc p)
    go (inr g) =
        subst (λ (j : ℕ). Pat p q k (q * 2 ^ k) j) (sym (ap (λ (x : ℕ). size x - suc p) (sym (div-one (q * 2 ^ k))) ∙ drop_is p q 0 k (unshifted p q k g b)))
        (ap (λ (x : ℕ). k * 2 ^ p + x) (shl-shr q k))
    go (inl e) =
        let w : q * 2 ^ k ≡ 2 ^ p * 2 ^ suc k = ap (λ (x : ℕ). x * 2 ^ k) (e ∙ pow-succ' 2 p) ∙ mul_assoc 2 (2 ^ p) (2 ^ k) ∙ mul_left_comm 2 (2 ^ p) (2 ^ k) ∙ ap (λ (x : ℕ). 2 ^ p * x) (sym (pow-succ' 2 k)) in
        let j : size (q * 2 ^ k) - suc p ≡ suc k = ap (λ (x : ℕ). size x - suc p) (w ∙ sym (div-one (2 ^ p * 2 ^ suc k))) ∙ drop_is p (2 ^ p) 0 (suc k) (unshifted p (2 ^ p) (suc k) (pow-lt (omega arith)) (inr (le_of_eq refl))) in
        subst (λ (j : ℕ). Pat p q k (q * 2 ^ k) j) (sym j)
        (ap (λ (x : ℕ). suc k * 2 ^ p + x / 2 ^ suc k) w ∙ ap (λ (x : ℕ). suc k * 2 ^ p + x) (shl-shr (2 ^ p) (suc k)) ∙ shifted (2 ^ p) p k ∙ ap (λ (x : ℕ). k * 2 ^ p + x) (sym (e ∙ pow-succ' 2 p ∙ omega arith)))

-- ---- `to_bits`, from the value in units of the smallest
bits_of_value : (f : Format) (v : Float) (s : Bool) (w : ℕ) → HasValue v s w (2 ^ low f) → to_bits f v ≡ cond s (top f) 0 + (size w - prec f) * hid f + w / 2 ^ (size w - prec f)
unfolding to_bits
bits_of_value f nan s w h = absurd h
bits_of_value f (inf t) s w h = absurd h
bits_of_value f (fin t m e) s w h =
    let n : m * up e * 2 ^ low f / down e ≡ w = ap (λ (x : ℕ). x / down e) h.1 ∙ mul-div_cancel w (down_pos e) in
    ap (λ (x : ℕ). cond t (top f) 0 + (size x - prec f) * hid f + x / 2 ^ (size x - prec f)) n ∙ ap (λ (b : Bool). cond b (top f) 0 + (size w - prec f) * hid f + w / 2 ^ (size w - prec f)) h.0

-- one less than the digits that the format keeps
abbrev pub tail : Format → ℕ
tail binary32 = 23
tail binary64 = 52

abbrev pub KeepsIn : Format → ℕ → ℕ → ℕ → Type 0
KeepsIn f m n k = Keeps (tail f) m n k

pattern_in : (f : Format) (q k : ℕ) → Kept (tail f) q k → (size (q * 2 ^ k) - prec f) * hid f + q * 2 ^ k / 2 ^ (size (q * 2 ^ k) - prec f) ≡ k * hid f + q
pattern_in binary32 q k h = pattern 23 q k h
pattern_in binary64 q k h = pattern 52 q k h

drop_in : (f : Format) (m n k : ℕ) → KeepsIn f m n k → size (m * 2 ^ k / 2 ^ n) - prec f ≡ k
drop_in binary32 m n k h = drop_is 23 m n k h
drop_in binary64 m n k h = drop_is 52 m n k h

pub units_fit : (f : Format) (s : Bool) (q k : ℕ) → q ≤ 2 ^ prec f → q * 2 ^ k < 2 ^ (low f + suc (emax f)) → T (fits f (units f s q k))
unfolding units
units_fit f s q k h g =
    cond-fits f (ltb (q * 2 ^ k) (2 ^ (low f + suc (emax f)))) _ _ (odd-fits f (suc (prec f)) s q k (lt_of_le_of_lt h (pow-lt (lt-suc_self (prec f)))) h g) (inf-fits f s)

pub prec_tail : (f : Format) → prec f ≡ suc (tail f)
prec_tail binary32 = refl
prec_tail binary64 = refl

pub units_bits : (f : Format) (s : Bool) (q k : ℕ) → Kept (tail f) q k → q * 2 ^ k < 2 ^ (low f + suc (emax f)) → units f s q k ≡ of_bits f (cond s (top f) 0 + (k * hid f + q))
units_bits f s q k K g =
    let v = units f s q k in
    sym (of_bits-to_bits f v (units_fit f s q k (subst (λ (p : ℕ). q ≤ 2 ^ p) (sym (prec_tail f)) K.0) g))
    ∙ ap (of_bits f) (bits_of_value f v s (q * 2 ^ k) (units_val f s q k g) ∙ add_assoc (cond s (top f) 0) _ _ ∙ ap (λ (x : ℕ). cond s (top f) 0 + x) (pattern_in f q k K))

module _ (f : Format) (s : Bool) (a c m n k : ℕ) (C : 0 < c) (h : a * 2 ^ low f * 2 ^ n ≡ m * 2 ^ k * c) (K : KeepsIn f m n k) where
  pub round_units : round f s a c ≡ units f s (closest m (2 ^ n)) k
  round_units =
      let w = a * 2 ^ low f in
      let e1 : size (w / c) - prec f ≡ k = ap (λ (x : ℕ). size x - prec f) (div_same w c (m * 2 ^ k) (2 ^ n) C (pow_pos n) h) ∙ drop_in f m n k K in
      let e2 : closest w (c * 2 ^ k) ≡ closest m (2 ^ n) = closest_same w (c * 2 ^ k) m (2 ^ n) (mul-pos C (pow_pos k)) (pow_pos n) (h ∙ mul_assoc m (2 ^ k) c ∙ ap (λ (x : ℕ). m * x) (mul_comm (2 ^ k) c)) in
      round_is f s a c ∙ ap (λ (j : ℕ). core f s w c j) e1 ∙ ap (λ (q : ℕ). units f s q k) e2

pub units_inf : (f : Format) (s : Bool) (q k : ℕ) → 2 ^ (low f + suc (emax f)) ≤ q * 2 ^ k → units f s q k ≡ inf s
unfolding units
units_inf f s q k h = cond_no (ltb (q * 2 ^ k) (2 ^ (low f + suc (emax f)))) _ _ (le→nltb (q * 2 ^ k) (2 ^ (low f + suc (emax f))) h)

-- ---- the largest patterns
pub inf_bits : (f : Format) (s : Bool) → inf s ≡ of_bits f (cond s (top f) 0 + ones f * hid f)
unfolding to_bits
inf_bits f s = sym (of_bits-to_bits f (inf s) (inf-fits f s))

edge : (p q k l : ℕ) → p + k ≤ l → q ≤ 2 ^ p → 2 ^ l ≤ q * 2 ^ k → (p + k ≡ l) × (q ≡ 2 ^ p)
edge p q k l h g o =
    let e : p + k ≡ l = le_antisymm h (le_of_suc-le-suc (lt_of_not-le (λ (t : p + k < l). not-le_of_lt (pow-lt t) (le_trans o (le_trans (mul-le-mul_right (2 ^ k) g) (le_of_eq (sym (pow-add 2 p k)))))))) in
    (e, le_antisymm g (le_of_mul-le-mul_right (le_trans (le_of_eq (sym (pow-add 2 p k) ∙ ap (λ (x : ℕ). 2 ^ x) e)) o) (pow_pos k)))

full : (f : Format) (q k : ℕ) → prec f + k ≡ low f + suc (emax f) → q ≡ 2 ^ prec f → k * hid f + q ≡ ones f * hid f
full binary32 q k e g = omega arith
full binary64 q k e g = omega arith

module _ (f : Format) (s : Bool) (a c m n k : ℕ) (C : 0 < c) (h : a * 2 ^ low f * 2 ^ n ≡ m * 2 ^ k * c) (K : KeepsIn f m n k) where
  pub round_bits : prec f + k ≤ low f + suc (emax f) → round f s a c ≡ of_bits f (cond s (top f) 0 + (k * hid f + closest m (2 ^ n)))
  round_bits g = go (ltb (q * 2 ^ k) (2 ^ l)) (ltb→lt (q * 2 ^ k) (2 ^ l)) (nltb→le (q * 2 ^ k) (2 ^ l))
    where
      q : ℕ
      q = closest m (2 ^ n)

      l : ℕ
      l = low f + suc (emax f)

      go : (b : Bool) → (T b → q * 2 ^ k < 2 ^ l) → (T (not b) → 2 ^ l ≤ q * 2 ^ k) → round f s a c ≡ of_bits f (cond s (top f) 0 + (k * hid f + q))
      go true y z = round_units f s a c m n k C h K ∙ units_bits f s q k (kept (tail f) m n k K) (y tt)
      go false y z =
          let e = edge (prec f) q k l g (subst (λ (p : ℕ). q ≤ 2 ^ p) (sym (prec_tail f)) (kept (tail f) m n k K).0) (z tt) in
          round_units f s a c m n k C h K ∙ units_inf f s q k (z tt) ∙ inf_bits f s ∙ ap (λ (x : ℕ). of_bits f (cond s (top f) 0 + x)) (sym (full f q k e.0 e.1))

  pub round_inf : 2 ^ (tail f + n) ≤ m → low f + suc (emax f) ≤ tail f + k → round f s a c ≡ inf s
  round_inf o g =
      round_units f s a c m n k C h K
      ∙ units_inf f s (closest m (2 ^ n)) k
      (le_trans (pow_mono g) (le_trans (le_of_eq (pow-add 2 (tail f) k)) (mul-le-mul_right (2 ^ k) (closest_ge (tail f) m n o))))
