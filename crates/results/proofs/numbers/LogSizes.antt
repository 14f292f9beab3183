-- The logarithm of an f32 above zero is at most 512 in size: its exponent is at most 256, and the
-- rest of it, the digits from 1 to 2, gives at most 2. Assumes nothing.
use Rattle.std.proofs.Common.{◌≡◌, refl, sym, ap, subst, ◌∙◌, Bool, true, false, not, ◌&&◌, cond, [], ◌∷◌, ℕ, zero, suc, ◌+◌, ◌-◌, ◌*◌, ◌%◌, ◌^◌, ◌≤◌, ◌<◌, le_trans, le_of_eq, lt_of_lt_of_le, lt_of_le_of_lt, lt_of_not-le, not-le_of_lt, mul-one, one-mul, mul-le-mul_right, arith, T, ltb, leb, eqb, ltb→lt, nltb→le, leb→le, lit<, ℤ, pos, negsuc, ◌+ℤ◌, pow-add, pow_pos, pow_mono, Float}
use lib.Ieee.{nan, inf, fin, binary32, binary64, up, down, size, round, neg, add, sub, mul, div, le, of_int, fits}
use lib.Ieee.Digits.{size-lt, size_reaches}
use lib.Ieee.Fits.{and_l, and_r}
use lib.Ieee.Order.{round_mono}
use lib.Ieee.Positive.{positive}
use Rattle.base.specs.Double.{◌⊕◌, ◌⊖◌, ◌⊗◌, ◌⊘◌, fraction}
use Rattle.base.specs.Number.{negative, abs_of, narrow_of}
use Rattle.base.specs.Elementary.{up_from, ln_terms, ln2, ln_series, ln_sum, ln_of, ln32_of}
use Rattle.base.proofs.order.Order.{nought, Between, wider, trans_le, le→abs}
use Rattle.base.proofs.order.Monotone.{add_size, mul_size, narrow_size, abs_round}
use Rattle.base.proofs.rounding.Rounding.{size_gt}
use Rattle.base.proofs.order.Intervals.{every, all, exactly, add_in, sub_in, mul_in, div_in, low_of, high_of, calm, horner_in_law}
use Rattle.results.proofs.numbers.Sizes.{Sized}

abbrev one : Float
one = fin false 1 (pos 0)

abbrev two : Float
two = fin false 1 (pos 1)

-- ---- the digits: q = (m - 1)/(m + 1), from 0 to 1/2
abbrev quarter : Float
quarter = fin false 1 (negsuc 1)

abbrev half : Float
half = fin false 1 (negsuc 0)

ln_ends : T (every (calm ln_terms quarter ∷ le nought (low_of ln_terms quarter) ∷ le (high_of ln_terms quarter) two ∷ []))
unfolding calm ln_terms up_from fraction round add mul le low_of high_of
ln_ends = tt

digits_in : (m : Float) → Between one two m → Between nought half ((m ⊖ one) ⊘ (m ⊕ one))
unfolding add sub div le
digits_in m b =
    let x : Between nought one (m ⊖ one) = sub_in binary64 nought one tt b (exactly one tt) in
    let y : Between two (fin false 3 (pos 0)) (m ⊕ one) = add_in binary64 two (fin false 3 (pos 0)) tt b (exactly one tt) in
    div_in binary64 nought half tt x y

series_in : (q : Float) → Between nought half q → Between nought two (ln_series q)
unfolding ln_series fraction round mul le
series_in q b =
    let t = all (calm ln_terms quarter ∷ le nought (low_of ln_terms quarter) ∷ le (high_of ln_terms quarter) two ∷ []) ln_ends in
    let s : Between nought quarter (q ⊗ q) = mul_in binary64 nought quarter tt b b in
    let h = wider nought two t.1.0 t.1.1.0 (horner_in_law ln_terms quarter (q ⊗ q) tt t.0 s) in
    let w : Between nought one (two ⊗ q) = mul_in binary64 nought one tt (exactly two tt) b in
    mul_in binary64 nought two tt w h

-- ---- the exponent
abbrev most : Float
most = fin false 1 (pos 8)

abbrev Few : ℤ → Type 0
Few (pos k) = k ≤ 256
Few (negsuc k) = suc k ≤ 256

whole_size : (s : Bool) (k : ℕ) → k ≤ 256 → T (le (abs_of (round binary64 s k 1)) (round binary64 false 256 1))
whole_size s k h = subst (λ (z : Float). T (le z (round binary64 false 256 1))) (sym (abs_round binary64 s k 1)) (round_mono binary64 k 1 256 1 (lit< tt) (lit< tt) (omega arith))

most_is : round binary64 false 256 1 ≡ most
unfolding round
most_is = refl

few_size : (z : ℤ) → Few z → T (le (abs_of (of_int binary64 z)) most)
unfolding of_int
few_size (pos k) h = subst (λ (m : Float). T (le (abs_of (round binary64 false k 1)) m)) most_is (whole_size false k h)
few_size (negsuc k) h = subst (λ (m : Float). T (le (abs_of (round binary64 true (suc k) 1)) m)) most_is (whole_size true (suc k) h)

-- ---- both
ln2_size : T (le (abs_of ln2) one)
unfolding ln2 fraction round abs_of negative neg le
ln2_size = tt

abbrev pub logs : Float
logs = fin false 1 (pos 9)

most_one : T (le (most ⊗ one) most)
unfolding mul le
most_one = tt

most_two : T (le (most ⊕ two) logs)
unfolding add le
most_two = tt

minus_two : T (le (neg two) nought)
unfolding neg le
minus_two = tt

sum_size_law : (k m : Float) → T (le (abs_of k) most) → Between one two m → T (le (abs_of (ln_sum k m)) logs)
unfolding ln_sum fraction round
sum_size_law k m h b =
    let r = ln_series ((m ⊖ one) ⊘ (m ⊕ one)) in
    let s = series_in ((m ⊖ one) ⊘ (m ⊕ one)) (digits_in m b) in
    let x : T (le (abs_of (k ⊗ ln2)) most) = trans_le (abs_of (k ⊗ ln2)) (most ⊗ one) most (mul_size binary64 k ln2 most one tt tt h ln2_size) most_one in
    let y : T (le (abs_of r) two) = le→abs r two (trans_le (neg two) nought r minus_two s.low) s.high in
    trans_le (abs_of (k ⊗ ln2 ⊕ r)) (most ⊕ two) logs (add_size binary64 (k ⊗ ln2) r most two tt tt x y) most_two

-- ---- an f32
pow_le : (i j : ℕ) → 2 ^ i < 2 ^ j → i < j
pow_le i j h = lt_of_not-le (λ (g : j ≤ i). not-le_of_lt h (pow_mono g))

pow_next : (j : ℕ) → 2 ^ suc j ≡ 2 * 2 ^ j
pow_next j = let e : suc j ≡ 1 + j = omega arith in ap (λ (k : ℕ). 2 ^ k) e ∙ pow-add 2 1 j

pow_le' : (i j : ℕ) → 2 ^ i ≤ 2 ^ j → i < suc j
pow_le' i j h = pow_le i (suc j) (omega (arith, h, pow_pos j, pow_next j))

module _ (n : ℕ) where
  abbrev places : ℕ
  places = size (suc n) - 1

  some : 0 < size (suc n)
  some = size_gt (suc n) 0 (omega arith)

  least : 2 ^ places ≤ suc n
  least = size_reaches (suc n) places (omega (arith, some))

  below : suc n < 2 ^ suc places
  below = lt_of_lt_of_le (size-lt (suc n)) (pow_mono {i = size (suc n)} {j = suc places} (omega arith))

  digits_range : Between one two (fraction (suc n) (2 ^ places))
  unfolding fraction
  digits_range =
      let l = least in
      let u = below in
      let e = pow_next places in
      record {
        low = subst (λ (z : Float). T (le z (round binary64 false (suc n) (2 ^ places)))) one_is (round_mono binary64 1 1 (suc n) (2 ^ places) (lit< tt) (pow_pos places) (omega arith));
        high = subst (λ (z : Float). T (le (round binary64 false (suc n) (2 ^ places)) z)) two_is (round_mono binary64 (suc n) (2 ^ places) 2 1 (pow_pos places) (lit< tt) (omega arith));
      }
    where
      one_is : round binary64 false 1 1 ≡ one
      one_is = unfold round in refl

      two_is : round binary64 false 2 1 ≡ two
      two_is = unfold round in refl

  few_places : suc n < 2 ^ 24 → places < 24
  few_places h = pow_le places 24 (lt_of_le_of_lt least h)

  exponent_up : (k : ℕ) → suc n < 2 ^ 24 → suc n * 2 ^ k < 2 ^ 128 * 1 → Few (pos k +ℤ pos places)
  exponent_up k h l =
      let a = few_places h in
      let b : k < 128 = pow_le k 128 (lt_of_le_of_lt (le_trans (le_of_eq (sym (one-mul (2 ^ k)))) (mul-le-mul_right (2 ^ k) (omega arith))) (lt_of_lt_of_le l (le_of_eq (mul-one (2 ^ 128))))) in
      omega arith

  exponent_down : (k : ℕ) → suc n < 2 ^ 24 → 2 ^ suc k ≤ 2 ^ 149 → Few (negsuc k +ℤ pos places)
  exponent_down k h l = go (ltb places (suc k)) (ltb→lt places (suc k)) (nltb→le places (suc k)) (few_places h) (pow_le' (suc k) 149 l)
    where
      go : (b : Bool) → (T b → places < suc k) → (T (not b) → suc k ≤ places) → places < 24 → suc k < 150 → Few (cond b (negsuc (suc k - suc places)) (pos (places - suc k)))
      go true y z a c = let i = y tt in omega arith
      go false y z a c = let i = z tt in omega arith

held : (n : ℕ) (e : ℤ) → T (fits binary32 (fin false (suc n) e)) → (suc n < 2 ^ 24) × (down e ≤ 2 ^ 149) × (suc n * up e < 2 ^ 128 * down e)
unfolding fits
held n e h =
    let a = eqb (suc n % 2) 1 in
    let b = ltb (suc n) (2 ^ 24) in
    let c = leb (down e) (2 ^ 149) in
    let d = ltb (suc n * up e) (2 ^ 128 * down e) in
    let abc = and_l (a && b && c) d h in
    (ltb→lt (suc n) (2 ^ 24) (and_r a b (and_l (a && b) c abc)), leb→le (down e) (2 ^ 149) (and_r (a && b) c abc), ltb→lt (suc n * up e) (2 ^ 128 * down e) (and_r (a && b && c) d h))

exponent_few : (n : ℕ) (e : ℤ) → T (fits binary32 (fin false (suc n) e)) → Few (e +ℤ pos (size (suc n) - 1))
exponent_few n (pos k) h = let w = held n (pos k) h in exponent_up n k w.0 w.2
exponent_few n (negsuc k) h = let w = held n (negsuc k) h in exponent_down n k w.0 w.1

ln_size : (y : Float) → T (fits binary32 y) → T (positive y) → T (le (abs_of (ln_of y)) logs)
unfolding ln_of
ln_size nan f p = absurd p
ln_size (inf s) f p = absurd p
ln_size (fin true n e) f p = absurd p
ln_size (fin false zero e) f p = absurd p
ln_size (fin false (suc n) e) f p = sum_size_law (of_int binary64 (e +ℤ pos (size (suc n) - 1))) (fraction (suc n) (2 ^ (size (suc n) - 1))) (few_size (e +ℤ pos (size (suc n) - 1)) (exponent_few n e f)) (digits_range n)

pub ln32_sized : (y : Float) → T (fits binary32 y) → T (positive y) → Sized logs (ln32_of y)
unfolding ln32_of narrow_of round
ln32_sized y f p = record { size = narrow_size (ln_of y) logs (ln_size y f p) }
