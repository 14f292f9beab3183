-- The exponential of document 01's steps is a number for every number, and finite up to 48: up to
-- 700 in size both of its factors are finite, and beyond that it is zero or infinite. Assumes
-- nothing.
use Rattle.std.proofs.Common.{◌≡◌, refl, sym, ap, subst, Bool, true, false, not, cond, List, [], ◌∷◌, ℕ, ◌+◌, ◌-◌, ◌*◌, ◌/◌, ◌^◌, ◌≤◌, ◌<◌, le_trans, div-lt_iff_lt-mul, mul-pos, mul-le-mul_right, mul-one, add-mul, arith, T, lit<, pos, negsuc, pow_pos, pow_mono, Float}
use native.Mathlib.Nat.{min-le_left}
use lib.Ieee.{nan, inf, fin, Format, binary64, up, down, round, neg, add, sub, mul, lt, le, is_nan, to_unsigned}
use lib.Ieee.Fits.{down_pos}
use lib.Ieee.Order.{round_mono}
use lib.Ieee.Scale.{finite}
use lib.Ieee.Positive.{den, den_pos}
use Rattle.base.specs.Double.{◌⊕◌, ◌⊖◌, ◌⊗◌, fraction}
use Rattle.base.specs.Number.{negative, abs_of, narrow_of}
use Rattle.base.specs.Elementary.{near_of, power_of_two, horner, factorial, up_from, exp_terms, ln2, exp_within, exp_of, exp32_of}
use Rattle.base.proofs.order.Order.{nought, plus, less, Between, le→cross, le_left, no_nan_finite, refl_le, finite_between, trans_le, lt→le, not-lt→le, abs_not_below, abs_no_nan, abs→le, le→abs, size_between}
use Rattle.base.proofs.order.Monotone.{Rounds, rounds_mono, rounds_not_below, add_rounds, mul_rounds, add_size, mul_size, sub_size, abs_finite, narrow_no_nan, narrow_size}
use Rattle.base.proofs.order.Intervals.{every, all, exactly, add_in, sub_in, mul_about}
use Rattle.results.proofs.numbers.Sizes.{Sized}

-- ---- sums and products of finite numbers
rounds_number : (f : Format) (z : Float) (p n c : ℕ) → 0 < c → Rounds f z p n c → T (not (is_nan z))
rounds_number f z p n c C r = le_left z z (rounds_mono f z z p n c p n c C C r r (omega arith))

pub mul_number : (f : Format) (x y : Float) → T (finite x) → T (finite y) → T (not (is_nan (mul f x y)))
mul_number f x y p q = rounds_number f (mul f x y) (plus x * plus y + less x * less y) (plus x * less y + less x * plus y) (den x * den y) (mul-pos (den_pos x) (den_pos y)) (mul_rounds f x y p q)

-- of a finite number and a number
pub add_number : (f : Format) (x y : Float) → T (finite x) → T (not (is_nan y)) → T (not (is_nan (add f x y)))
unfolding is_nan
add_number f nan y p q = absurd p
add_number f (inf s) y p q = absurd p
add_number f (fin s m e) nan p q = absurd q
add_number f (fin s m e) (inf t) p q = unfold add in tt
add_number f (fin s m e) (fin t n d) p q =
    let x = fin s m e in
    let y = fin t n d in
    rounds_number f (add f x y) (plus x * den y + plus y * den x) (less x * den y + less y * den x) (den x * den y) (mul-pos (den_pos x) (den_pos y)) (add_rounds f x y tt tt)

-- ---- Horner's scheme for an x that is at most X in size
unfoldable top_of : List Float → Float → Float
top_of [] X = nought
top_of (c ∷ []) X = abs_of c
top_of (c ∷ (d ∷ cs)) X = top_of (d ∷ cs) X ⊗ X ⊕ abs_of c

unfoldable quiet : List Float → Float → Bool
unfolding top_of
quiet [] X = true
quiet (c ∷ []) X = finite (abs_of c)
quiet (c ∷ (d ∷ cs)) X = every (quiet (d ∷ cs) X ∷ finite (top_of (d ∷ cs) X) ∷ finite (top_of (d ∷ cs) X ⊗ X) ∷ finite (abs_of c) ∷ [])

own : (c : Float) → T (finite (abs_of c)) → T (le (abs_of c) (abs_of c))
own c p = le_own (abs_of c) (no_nan_finite (abs_of c) p)
  where
    le_own : (x : Float) → T (not (is_nan x)) → T (le x x)
    le_own x h = refl_le x h

horner_size : (t : List Float) (X x : Float) → T (finite X) → T (quiet t X) → T (le (abs_of x) X) → T (le (abs_of (horner t x)) (top_of t X))
unfolding top_of quiet horner
horner_size [] X x p k h = unfold abs_of negative le in tt
horner_size (c ∷ []) X x p k h = own c k
horner_size (c ∷ (d ∷ cs)) X x p k h =
    let w = all (quiet (d ∷ cs) X ∷ finite (top_of (d ∷ cs) X) ∷ finite (top_of (d ∷ cs) X ⊗ X) ∷ finite (abs_of c) ∷ []) k in
    let i = horner_size (d ∷ cs) X x p w.0 h in
    add_size binary64 (horner (d ∷ cs) x ⊗ x) c (top_of (d ∷ cs) X ⊗ X) (abs_of c) w.1.1.0 w.1.1.1.0 (mul_size binary64 (horner (d ∷ cs) x) x (top_of (d ∷ cs) X) X w.1.0 p i h) (own c w.1.1.1.0)

-- ---- n, at most 1016 in size for a v up to 700
abbrev limit : Float
limit = fin false 175 (pos 2)

abbrev most : Float
most = fin false 1016 (pos 0)

near_in : (v : Float) → T (le (abs_of v) limit) → T (le (abs_of (near_of (v ⊗ fraction 14426950408889634 (10 ^ 16)))) most)
unfolding near_of fraction round neg add sub mul le
near_in v h =
    let c = fraction 14426950408889634 (10 ^ 16) in
    let M = fraction 6755399441055744 1 in
    let y : Between (neg most) most (v ⊗ c) = mul_about binary64 (neg most) most tt (size_between {x = v} {a = limit} h) (exactly c tt) in
    let s : Between (neg most ⊕ M) (most ⊕ M) (v ⊗ c ⊕ M) = add_in binary64 (neg most ⊕ M) (most ⊕ M) tt y (exactly M tt) in
    let r : Between (neg most) most (v ⊗ c ⊕ M ⊖ M) = sub_in binary64 (neg most) most tt s (exactly M tt) in
    le→abs (v ⊗ c ⊕ M ⊖ M) most r.low r.high

-- ---- 2 ^ n
count_within : (n : ℕ) (x : Float) → T (finite x) → T (le x (fin false n (pos 0))) → to_unsigned 64 x ≤ n
unfolding to_unsigned
count_within n nan p h = absurd p
count_within n (inf s) p h = absurd p
count_within n (fin true m e) p h = omega arith
count_within n (fin false m e) p h =
    let c = le→cross (fin false m e) (fin false n (pos 0)) tt tt h in
    let q : n * 1 * down e ≡ n * down e = ap (λ (k : ℕ). k * down e) (mul-one n) in
    let r : (n + 1) * down e ≡ n * down e + 1 * down e = add-mul n 1 (down e) in
    let l : m * up e / down e < n + 1 = (div-lt_iff_lt-mul (down_pos e)).1 (omega (arith, down_pos e)) in
    le_trans (min-le_left (m * up e / down e) (2 ^ 64 - 1)) (omega arith)

not_below : (a c : ℕ) → 0 < c → T (le nought (round binary64 false a c))
not_below a c C = rounds_not_below binary64 (round binary64 false a c) a 0 c C (record { sign = false; size = a; is = refl; value = omega arith }) (omega arith)

large_finite : T (finite (fraction (2 ^ 1016) 1)) × T (finite (fraction 1 1))
unfolding fraction round
large_finite = (tt, tt)

power_at : (k : ℕ) → k ≤ 1016 → T (finite (fraction (2 ^ k) 1)) × T (finite (fraction 1 (2 ^ k)))
unfolding fraction
power_at k h = (
  finite_between nought (fraction (2 ^ k) 1) (fraction (2 ^ 1016) 1) tt large_finite.0 (not_below (2 ^ k) 1 (lit< tt)) (round_mono binary64 (2 ^ k) 1 (2 ^ 1016) 1 (lit< tt) (lit< tt) (mul-le-mul_right 1 (pow_mono h))),
  finite_between nought (fraction 1 (2 ^ k)) (fraction 1 1) tt large_finite.1 (not_below 1 (2 ^ k) (pow_pos k)) (round_mono binary64 1 (2 ^ k) 1 1 (pow_pos k) (lit< tt) (mul_le_mul_right' k)),
)
  where
    mul_le_mul_right' : (k : ℕ) → 1 * 1 ≤ 1 * 2 ^ k
    mul_le_mul_right' k = let p = pow_pos k in omega arith

power_finite : (n : Float) → T (le (abs_of n) most) → T (finite (power_of_two n))
unfolding power_of_two
power_finite n h = go (negative n)
  where
    few : to_unsigned 64 (abs_of n) ≤ 1016
    few = count_within 1016 (abs_of n) (finite_between nought (abs_of n) most tt tt (abs_not_below n (abs_no_nan n most h)) h) h

    go : (b : Bool) → T (finite (cond b (fraction 1 (2 ^ to_unsigned 64 (abs_of n))) (fraction (2 ^ to_unsigned 64 (abs_of n)) 1)))
    go true = (power_at (to_unsigned 64 (abs_of n)) few).1
    go false = (power_at (to_unsigned 64 (abs_of n)) few).0

-- ---- the series
abbrev wide : Float
wide = fin false 1 (pos 11)

exp_ends : T (every (quiet exp_terms wide ∷ finite (top_of exp_terms wide) ∷ []))
unfolding quiet top_of exp_terms factorial up_from fraction round abs_of negative add mul
exp_ends = tt

left_size : (v n : Float) → T (le (abs_of v) limit) → T (le (abs_of n) most) → T (le (abs_of (v ⊖ n ⊗ ln2)) wide)
unfolding ln2 fraction round abs_of negative add mul le
left_size v n h k = trans_le (abs_of (v ⊖ n ⊗ ln2)) (limit ⊕ most) wide (sub_size binary64 v (n ⊗ ln2) limit most tt tt h (trans_le (abs_of (n ⊗ ln2)) (most ⊗ fin false 1 (pos 0)) most (mul_size binary64 n ln2 most (fin false 1 (pos 0)) tt tt k tt) tt)) tt

within_number : (v : Float) → T (le (abs_of v) limit) → T (not (is_nan (exp_within v)))
unfolding exp_within
within_number v h =
    let n = near_of (v ⊗ fraction 14426950408889634 (10 ^ 16)) in
    let k = near_in v h in
    let t = all (quiet exp_terms wide ∷ finite (top_of exp_terms wide) ∷ []) exp_ends in
    let x = v ⊖ n ⊗ ln2 in
    mul_number binary64 (horner exp_terms x) (power_of_two n) (abs_finite (horner exp_terms x) (top_of exp_terms wide) t.1.0 (horner_size exp_terms wide x tt t.0 (left_size v n h k))) (power_finite n k)

ends_known : T (not (is_nan limit)) × T (not (is_nan (neg limit))) × T (not (is_nan (fraction 0 1)))
unfolding fraction round neg is_nan
ends_known = (tt, tt, tt)

exp_number : (v : Float) → T (not (is_nan v)) → T (not (is_nan (exp_of v)))
unfolding exp_of fraction round is_nan
exp_number v h = go (lt limit v) (lt v (neg limit)) refl refl
  where
    go : (a b : Bool) → lt limit v ≡ a → lt v (neg limit) ≡ b → T (not (is_nan (cond a (inf false) (cond b (fin false 0 (pos 0)) (exp_within v)))))
    go true b e d = tt
    go false true e d = tt
    go false false e d = within_number v (le→abs v limit (not-lt→le v (neg limit) h ends_known.1 d) (not-lt→le limit v ends_known.0 h e))

pub exp32_number : (v : Float) → T (not (is_nan v)) → T (not (is_nan (exp32_of v)))
unfolding exp32_of
exp32_number v h = narrow_no_nan (exp_of v) (exp_number v h)

-- ---- up to 48 in size: at most 2 ^ 124, and so finite as an f32 too
abbrev short : Float
short = fin false 3 (pos 4)

abbrev few : Float
few = fin false 70 (pos 0)

near_few : (v : Float) → T (le (abs_of v) short) → T (le (abs_of (near_of (v ⊗ fraction 14426950408889634 (10 ^ 16)))) few)
unfolding near_of fraction round neg add sub mul le
near_few v h =
    let c = fraction 14426950408889634 (10 ^ 16) in
    let M = fraction 6755399441055744 1 in
    let y : Between (neg few) few (v ⊗ c) = mul_about binary64 (neg few) few tt (size_between {x = v} {a = short} h) (exactly c tt) in
    let s : Between (neg few ⊕ M) (few ⊕ M) (v ⊗ c ⊕ M) = add_in binary64 (neg few ⊕ M) (few ⊕ M) tt y (exactly M tt) in
    let r : Between (neg few) few (v ⊗ c ⊕ M ⊖ M) = sub_in binary64 (neg few) few tt s (exactly M tt) in
    le→abs (v ⊗ c ⊕ M ⊖ M) few r.low r.high

top_is : (fraction (2 ^ 70) 1 ≡ fin false 1 (pos 70)) × T (le (fraction 1 1) (fin false 1 (pos 70)))
unfolding fraction round le
top_is = (refl, tt)

few_at : (k : ℕ) → k ≤ 70 → Between nought (fin false 1 (pos 70)) (fraction (2 ^ k) 1) × Between nought (fin false 1 (pos 70)) (fraction 1 (2 ^ k))
unfolding fraction
few_at k h =
    let p = pow_pos k in
    let l : 1 * 1 ≤ 1 * 2 ^ k = omega arith in (
      record { low = not_below (2 ^ k) 1 (lit< tt); high = subst (λ (z : Float). T (le (round binary64 false (2 ^ k) 1) z)) top_is.0 (round_mono binary64 (2 ^ k) 1 (2 ^ 70) 1 (lit< tt) (lit< tt) (mul-le-mul_right 1 (pow_mono h))) },
      record { low = not_below 1 (2 ^ k) (pow_pos k); high = trans_le (round binary64 false 1 (2 ^ k)) (round binary64 false 1 1) (fin false 1 (pos 70)) (round_mono binary64 1 (2 ^ k) 1 1 (pow_pos k) (lit< tt) l) top_is.1 },
    )

few_power : (n : Float) → T (le (abs_of n) few) → Between nought (fin false 1 (pos 70)) (power_of_two n)
unfolding power_of_two
few_power n h = go (negative n)
  where
    least : to_unsigned 64 (abs_of n) ≤ 70
    least = count_within 70 (abs_of n) (finite_between nought (abs_of n) few tt tt (abs_not_below n (abs_no_nan n few h)) h) h

    go : (b : Bool) → Between nought (fin false 1 (pos 70)) (cond b (fraction 1 (2 ^ to_unsigned 64 (abs_of n))) (fraction (2 ^ to_unsigned 64 (abs_of n)) 1))
    go true = (few_at (to_unsigned 64 (abs_of n)) least).1
    go false = (few_at (to_unsigned 64 (abs_of n)) least).0

abbrev hundred : Float
hundred = fin false 97 (pos 0)

short_ends : T (every (quiet exp_terms hundred ∷ le (top_of exp_terms hundred) (fin false 1 (pos 54)) ∷ []))
unfolding quiet top_of exp_terms factorial up_from fraction round abs_of negative add mul le
short_ends = tt

short_left : (v n : Float) → T (le (abs_of v) short) → T (le (abs_of n) few) → T (le (abs_of (v ⊖ n ⊗ ln2)) hundred)
unfolding ln2 fraction round abs_of negative add mul le
short_left v n h k = trans_le (abs_of (v ⊖ n ⊗ ln2)) (short ⊕ fin false 49 (pos 0)) hundred (sub_size binary64 v (n ⊗ ln2) short (fin false 49 (pos 0)) tt tt h (trans_le (abs_of (n ⊗ ln2)) (few ⊗ fin false 179 (negsuc 7)) (fin false 49 (pos 0)) (mul_size binary64 n ln2 few (fin false 179 (negsuc 7)) tt tt k tt) tt)) tt

-- of an exponential
abbrev pub powers : Float
powers = fin false 1 (pos 124)

short_within : (v : Float) → T (le (abs_of v) short) → T (le (abs_of (exp_within v)) powers)
unfolding exp_within neg mul le
short_within v h =
    let n = near_of (v ⊗ fraction 14426950408889634 (10 ^ 16)) in
    let k = near_few v h in
    let t = all (quiet exp_terms hundred ∷ le (top_of exp_terms hundred) (fin false 1 (pos 54)) ∷ []) short_ends in
    let x = v ⊖ n ⊗ ln2 in
    let a : T (le (abs_of (horner exp_terms x)) (fin false 1 (pos 54))) = trans_le (abs_of (horner exp_terms x)) (top_of exp_terms hundred) (fin false 1 (pos 54)) (horner_size exp_terms hundred x tt t.0 (short_left v n h k)) t.1.0 in
    let p = few_power n k in
    let b : T (le (abs_of (power_of_two n)) (fin false 1 (pos 70))) = le→abs (power_of_two n) (fin false 1 (pos 70)) (trans_le (neg (fin false 1 (pos 70))) nought (power_of_two n) tt p.low) p.high in
    trans_le (abs_of (horner exp_terms x ⊗ power_of_two n)) (fin false 1 (pos 54) ⊗ fin false 1 (pos 70)) powers (mul_size binary64 (horner exp_terms x) (power_of_two n) (fin false 1 (pos 54)) (fin false 1 (pos 70)) tt tt a b) tt

short_exp : (v : Float) → T (le (abs_of v) short) → T (le (abs_of (exp_of v)) powers)
unfolding exp_of fraction round neg
short_exp v h = go (lt limit v) (lt v (fin true 175 (pos 2))) refl refl
  where
    go : (a b : Bool) → lt limit v ≡ a → lt v (fin true 175 (pos 2)) ≡ b → T (le (abs_of (cond a (inf false) (cond b (fin false 0 (pos 0)) (exp_within v)))) powers)
    go true b e d = absurd (unfold le in trans_le limit v short (lt→le limit v (subst T (sym e) tt)) (abs→le v short h))
    go false true e d = unfold abs_of negative le in tt
    go false false e d = short_within v h

pub exp32_sized : (v : Float) → T (le (abs_of v) (fin false 3 (pos 4))) → Sized powers (exp32_of v)
unfolding exp32_of narrow_of round
exp32_sized v h = record { size = narrow_size (exp_of v) powers (short_exp v h) }
