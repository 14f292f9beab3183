-- The sine of a path's length is not zero: an f32 from 0.000001 to 6.2831845 is nearest to 0, 1, 2,
-- 3 or 4 quarter turns, and less than 5/4 from them, since rounding keeps order. That near, the
-- cosine's series has no zero, and the sine's only at zero itself. No f32 is within 2 ^ -48 of two
-- quarter turns, which are an odd number of 2 ^ -48. Assumes nothing.
use Rattle.std.proofs.Common.{◌≡◌, refl, sym, ap, subst, ◌∙◌, ◌⊎◌, inl, inr, Bool, true, false, not, ◌&&◌, [], ◌∷◌, ℕ, zero, suc, ◌+◌, ◌-◌, ◌*◌, ◌%◌, ◌^◌, ◌≤◌, ◌<◌, mul_assoc, mul_comm, mul_left_comm, add-mul, mul-le-mul_right, mul-pos, zero-mul, arith, T, T_not, ltb, leb, eqb, ltb→lt, lit<, ℤ, pos, negsuc, pow_pos, pow_mono, pow-add, le-ltb, Float}
use native.Mathlib.Nat.{pow-succ'}
use native.Mathlib.Decide.{dec_lt}
use lib.Ieee.{nan, inf, fin, Format, binary32, binary64, prec, emax, low, up, down, fits, round, neg, sum, add, sub, mul, le, is_nan, to_unsigned}
use lib.Ieee.Bits.{is_true}
use lib.Ieee.Fits.{and_l, and_r, down_pos, add-fits}
use lib.Ieee.Scale.{finite}
use lib.Ieee.Positive.{den}
use Rattle.base.specs.Single.{decimal}
use Rattle.base.specs.Double.{◌⊕◌, ◌⊖◌, ◌⊗◌, fraction}
use Rattle.base.specs.Constants.{PI2}
use Rattle.base.specs.Number.{negative, abs_of, narrow_of}
use Rattle.base.specs.Elementary.{near_of, quarter_of, turns_of, reduced_of, half_pi, horner, factorial, up_from, alternating, sin_terms, cos_terms, sin_series, cos_series, sin_at, sin_of, sin32_of}
use Rattle.base.proofs.verdicts.Picks.{cond_true, cond_false}
use Rattle.base.proofs.order.Order.{nought, le→cross, le_right, no_nan_finite, trans_le, total_le, neg_le, neg_neg, le→abs, abs→le, le_abs, abs_neg, abs_fin, Between, wider, between_finite}
use Rattle.base.proofs.order.Monotone.{rounds_mono, sub_rounds, add_mono, sub_mono, mul_right, mul_mono, abs_mul, abs_narrow, narrow_mono, square_not_below, mul_size}
use Rattle.base.proofs.order.Intervals.{every, all, exactly, add_in, sub_in, mul_in, mul_about, low_of, high_of, calm, horner_in_law}
use Rattle.base.proofs.steps.Reduction.{factor, big}

-- ---- quarter turns are a whole number: a float from 3 × 2^51 to 3 × 2^51 + 4 is one
pub record Whole (n : Float) : Type 0 where
  pub count : ℕ
  pub most : count ≤ 4
  pub is : n ≡ round binary64 false count 1

abbrev pub top : Float
top = fin false 1688849860263937 (pos 2)

less_big : (m k : ℕ) → 3 * 2 ^ 51 ≤ m * 2 ^ k → fin false m (pos k) ⊖ big ≡ round binary64 false (m * 2 ^ k * 1 - 3 * 2 ^ 51 * 1) 1
unfolding neg add sub sum
less_big m k h = cond_false _ _ (le-ltb (m * 2 ^ k * 1) (3 * 2 ^ 51 * 1) (omega arith))

pub held : (f : Format) (s : Bool) (m : ℕ) (e : ℤ) → T (fits f (fin s (suc m) e)) → suc m < 2 ^ prec f
unfolding fits
held f s m e h =
    let a = eqb (suc m % 2) 1 in
    let b = ltb (suc m) (2 ^ prec f) in
    let c = leb (down e) (2 ^ low f) in
    ltb→lt (suc m) (2 ^ prec f) (and_r a b (and_l (a && b) c (and_l (a && b && c) (ltb (suc m * up e) (2 ^ suc (emax f) * down e)) h)))

pub whole : (s : Float) → T (fits binary64 s) → T (finite s) → T (le big s) → T (le s top) → Whole (s ⊖ big)
whole nan h p l m = absurd p
whole (inf t) h p l m = absurd p
whole (fin true n e) h p l m = absurd (omega (arith, le→cross big (fin true n e) tt tt l, down_pos e))
whole (fin false zero e) h p l m = absurd (omega (arith, le→cross big (fin false zero e) tt tt l, down_pos e, zero-mul (up e)))
whole (fin false (suc n) (pos k)) h p l m =
    let u = le→cross big (fin false (suc n) (pos k)) tt tt l in
    let w = le→cross (fin false (suc n) (pos k)) top tt tt m in
    record { count = suc n * 2 ^ k * 1 - 3 * 2 ^ 51 * 1; most = omega arith; is = less_big (suc n) k (omega arith) }
whole (fin false (suc n) (negsuc k)) h p l m = absurd (omega (arith, le→cross big (fin false (suc n) (negsuc k)) tt tt l, held binary64 false n (negsuc k) h, pow_pos k, pow-succ' 2 k))

-- ---- and keep order
pub turns_is : (v : Float) → turns_of v ≡ v ⊗ factor ⊕ big ⊖ big
unfolding turns_of near_of fraction round
turns_is v = refl

abbrev seven : Float
seven = fin false 7 (pos 0)

abbrev minus_seven : Float
minus_seven = fin true 7 (pos 0)

abbrev pub Turn : Float → Type 0
Turn v = Between minus_seven seven v

product_in : (v : Float) → Turn v → Between (fin true 5 (pos 0)) (fin false 5 (pos 0)) (v ⊗ factor)
unfolding le mul
product_in v b = mul_about binary64 (fin true 5 (pos 0)) (fin false 5 (pos 0)) tt b (exactly factor tt)

shifted_in : (v : Float) → Turn v → Between (fin false 6755399441055739 (pos 0)) (fin false 6755399441055749 (pos 0)) (v ⊗ factor ⊕ big)
unfolding le add
shifted_in v b = add_in binary64 (fin false 6755399441055739 (pos 0)) (fin false 6755399441055749 (pos 0)) tt (product_in v b) (exactly big tt)

turns_mono : (v w : Float) → Turn v → Turn w → T (le v w) → T (le (turns_of v) (turns_of w))
turns_mono v w b c h =
    let x = v ⊗ factor in
    let y = w ⊗ factor in
    let o = (exactly big tt).low in
    let u : T (le x y) = mul_right binary64 v w factor (between_finite tt tt b) (between_finite tt tt c) tt (unfold le in tt) h in
    let z : T (le (x ⊕ big) (y ⊕ big)) = add_mono binary64 x y big big (between_finite tt tt (product_in v b)) (between_finite tt tt (product_in w c)) tt tt u o in
    rw (turns_is v, turns_is w) (sub_mono binary64 (x ⊕ big) (y ⊕ big) big big (between_finite tt tt (shifted_in v b)) (between_finite tt tt (shifted_in w c)) tt tt z o)

-- so they tell where v is: what has other turns is on the other side
module _ (v : Float) (b : Turn v) {n : Float} (e : turns_of v ≡ n) (a : Float) where
  number : (x : Float) → Turn x → T (not (is_nan x))
  number x c = no_nan_finite x (between_finite tt tt c)

  pub right_of : T (every (le minus_seven a ∷ le a seven ∷ not (le n (turns_of a)) ∷ [])) → T (le a v)
  right_of t =
      let w = all (le minus_seven a ∷ le a seven ∷ not (le n (turns_of a)) ∷ []) t in
      let c : Turn a = record { low = w.0; high = w.1.0 } in
      elim (total_le a v (number a c) (number v b)) [ inl h ↦ h | inr h ↦ absurd (T_not (le n (turns_of a)) w.1.1.0 (rw e at (turns_mono v a b c h))) ]

  pub left_of : T (every (le minus_seven a ∷ le a seven ∷ not (le (turns_of a) n) ∷ [])) → T (le v a)
  left_of t =
      let w = all (le minus_seven a ∷ le a seven ∷ not (le (turns_of a) n) ∷ []) t in
      let c : Turn a = record { low = w.0; high = w.1.0 } in
      elim (total_le v a (number v b) (number a c)) [ inl h ↦ h | inr h ↦ absurd (T_not (le (turns_of a) n) w.1.1.0 (rw e at (turns_mono a v c b h))) ]

abbrev pub turns : ℕ → Float
turns n = round binary64 false n 1

-- 6.2831845, and 0.000001
abbrev limit : Float
limit = fin false 13176793 (negsuc 20)

abbrev start : Float
start = fin false 8796093 (negsuc 42)

-- a little more than a turn
abbrev pub full : Float
full = fin false 101 (negsuc 3)

pub turns_whole : (v : Float) → Between nought full v → Whole (turns_of v)
turns_whole v b = rw (turns_is v) (whole (v ⊗ factor ⊕ big) (add-fits binary64 (v ⊗ factor) big) (between_finite tt tt w) w.low w.high)
  where
    w : Between big top (v ⊗ factor ⊕ big)
    w = unfold le mul add in add_in binary64 big top tt (mul_in binary64 nought (fin false 17 (negsuc 1)) tt b (exactly factor tt)) (exactly big tt)

-- with n quarter turns v is at least .. and at most ..
abbrev least : ℕ → Float
least zero = start
least (suc zero) = fin false 3 (negsuc 2)
least (suc (suc zero)) = fin false 31 (negsuc 3)
least (suc (suc (suc zero))) = fin false 7 (negsuc 0)
least (suc (suc (suc (suc n)))) = fin false 81 (negsuc 3)

abbrev most : ℕ → Float
most zero = fin false 19 (negsuc 3)
most (suc zero) = fin false 11 (negsuc 1)
most (suc (suc zero)) = fin false 35 (negsuc 2)
most (suc (suc (suc zero))) = fin false 47 (negsuc 2)
most (suc (suc (suc (suc n)))) = limit

module _ (v : Float) (b : Between start limit v) where
  turn : Turn v
  unfolding le
  turn = wider minus_seven seven tt tt b

  near_turns : (n : ℕ) → n ≤ 4 → turns_of v ≡ turns n → Between (least n) (most n) v
  unfolding turns_of near_of fraction round mul neg add sub le
  near_turns zero h e = record { low = b.low; high = left_of v turn e (most 0) tt }
  near_turns (suc zero) h e = record { low = right_of v turn e (least 1) tt; high = left_of v turn e (most 1) tt }
  near_turns (suc (suc zero)) h e = record { low = right_of v turn e (least 2) tt; high = left_of v turn e (most 2) tt }
  near_turns (suc (suc (suc zero))) h e = record { low = right_of v turn e (least 3) tt; high = left_of v turn e (most 3) tt }
  near_turns (suc (suc (suc (suc zero)))) h e = record { low = right_of v turn e (least 4) tt; high = b.high }
  near_turns (suc (suc (suc (suc (suc n))))) h e = absurd (omega arith)

-- ---- no f32 is half a turn: two quarter turns are 884279719003555 / 2 ^ 48, and 884279719003555
-- is odd
abbrev half : Float
half = fin false 884279719003555 (negsuc 47)

-- P / D, where D divides 2 ^ 47, is 1 / 2 ^ 48 away from that at least
split : (P D E : ℕ) → (P * (2 * (D * E)) + D ≤ 884279719003555 * D) ⊎ (884279719003555 * D + D ≤ P * (2 * (D * E)))
split P D E = elim (dec_lt 442139859501777 (P * E)) [
  | yes h ↦ inr (let u = simp (add-mul, mul_assoc, mul_comm, mul_left_comm) at (mul-le-mul_right D h) in simp (mul_assoc, mul_comm, mul_left_comm) (omega (arith, u)))
  | no h ↦ let k : P * E ≤ 442139859501777 = omega arith in inl (let u = simp (mul_assoc, mul_comm, mul_left_comm) at (mul-le-mul_right D k) in simp (mul_assoc, mul_comm, mul_left_comm) (omega (arith, u)))
]

record Divides (d : ℕ) : Type 0 where
  pub by : ℕ
  pub is : d * by ≡ 2 ^ 47

-- an f32 that is 1 at least is no finer than 2 ^ -23
coarse : (v : Float) → T (fits binary32 v) → T (le (fin false 1 (pos 0)) v) → Divides (den v)
coarse nan f h = record { by = 2 ^ 47; is = refl }
coarse (inf s) f h = record { by = 2 ^ 47; is = refl }
coarse (fin s m (pos k)) f h = record { by = 2 ^ 47; is = refl }
coarse (fin true m (negsuc k)) f h = absurd (omega (arith, le→cross (fin false 1 (pos 0)) (fin true m (negsuc k)) tt tt h, pow_pos (suc k)))
coarse (fin false zero (negsuc k)) f h = absurd (omega (arith, le→cross (fin false 1 (pos 0)) (fin false zero (negsuc k)) tt tt h, pow_pos (suc k)))
coarse (fin false (suc m) (negsuc k)) f h =
    let u : 2 ^ suc k < 2 ^ 24 = omega (arith, le→cross (fin false 1 (pos 0)) (fin false (suc m) (negsuc k)) tt tt h, held binary32 false m (negsuc k) f) in
    let l : k < 23 = elim (dec_lt k 23) [ yes q ↦ q | no q ↦ absurd (let w : 2 ^ 24 ≤ 2 ^ suc k = pow_mono {i = 24} {j = suc k} (omega arith) in omega arith) ] in
    let e : suc k + (46 - k) ≡ 47 = omega arith in
    record { by = 2 ^ (46 - k); is = sym (pow-add 2 (suc k) (46 - k)) ∙ ap (λ (j : ℕ). 2 ^ j) e }

-- ---- what is left
abbrev pub Away : Float → Float → Type 0
Away d x = T (le d (abs_of x))

pub above_away : (d x : Float) → T (le d x) → Away d x
above_away d x h = trans_le d x (abs_of x) h (le_abs x (le_right d x h))

below_away : (d x : Float) → T (le x (neg d)) → Away d x
below_away d x h =
    let k : T (le d (neg x)) = subst (λ (z : Float). T (le z (neg x))) (neg_neg d) (neg_le x (neg d) h) in
    subst (λ (z : Float). T (le d z)) (abs_neg x) (above_away d (neg x) k)

abbrev unit : Float
unit = fin false 1 (negsuc 47)

unit_is : (round binary64 false 1 (2 ^ 48) ≡ unit) × (round binary64 true 1 (2 ^ 48) ≡ neg unit)
unfolding round neg
unit_is = (refl, refl)

under_by : (P D N : ℕ) → P * N + D ≤ 884279719003555 * D → (P * N + 0 * D) * N + 1 * (D * N) ≤ 0 * (D * N) + (0 * N + 884279719003555 * D) * N
under_by P D N h = omega (arith, mul-le-mul_right N h, add-mul (P * N) D N, add-mul (P * N) (0 * D) N, add-mul (0 * N) (884279719003555 * D) N)

over_by : (P D N : ℕ) → 884279719003555 * D + D ≤ P * N → 1 * (D * N) + (0 * N + 884279719003555 * D) * N ≤ (P * N + 0 * D) * N + 0 * (D * N)
over_by P D N h = omega (arith, mul-le-mul_right N h, add-mul (884279719003555 * D) D N, add-mul (P * N) (0 * D) N, add-mul (0 * N) (884279719003555 * D) N)

off_half : (m : ℕ) (e : ℤ) → Divides (down e) → T (le (fin false m e ⊖ half) (neg unit)) ⊎ T (le unit (fin false m e ⊖ half))
off_half m e d =
    let P = m * up e in
    let D = down e in
    let v = fin false m e in
    let C = mul-pos (down_pos e) (pow_pos 48) in
    elim (subst (λ (z : ℕ). (P * (2 * z) + D ≤ 884279719003555 * D) ⊎ (884279719003555 * D + D ≤ P * (2 * z))) d.is (split P D d.by)) [
      | inl h ↦ inl (rounds_mono binary64 (v ⊖ half) (neg unit) (P * 2 ^ 48 + 0 * D) (0 * 2 ^ 48 + 884279719003555 * D) (D * 2 ^ 48) 0 1 (2 ^ 48) C (lit< tt)
          (sub_rounds binary64 v half tt tt) (record { sign = true; size = 1; is = sym unit_is.1; value = refl }) (under_by P D (2 ^ 48) h))
      | inr h ↦ inr (rounds_mono binary64 unit (v ⊖ half) 1 0 (2 ^ 48) (P * 2 ^ 48 + 0 * D) (0 * 2 ^ 48 + 884279719003555 * D) (D * 2 ^ 48) (lit< tt) C
          (record { sign = false; size = 1; is = sym unit_is.0; value = refl }) (sub_rounds binary64 v half tt tt) (over_by P D (2 ^ 48) h))
    ]

-- 5 / 4
abbrev five : Float
five = fin false 5 (negsuc 1)

abbrev Near : Float → Type 0
Near x = Between (neg five) five x

near_finite : (x : Float) → Near x → T (finite x)
unfolding neg
near_finite x b = between_finite {lo = neg five} {hi = five} tt tt b

-- ---- the series
abbrev wide : Float
wide = fin false 25 (negsuc 3)

square_in : (x : Float) → Near x → Between nought wide (x ⊗ x)
unfolding neg mul
square_in x b =
    let a : T (le (abs_of x) five) = le→abs x five b.low b.high in
    record { low = square_not_below binary64 x (near_finite x b); high = abs→le (x ⊗ x) wide (mul_size binary64 x x five five tt tt a a) }

-- what is left off an even number of quarter turns is this at least in size, and its sine ..
abbrev tiny : Float
tiny = fin false 1 (negsuc 48)

-- .. this
abbrev pub faint : Float
faint = fin false 1 (negsuc 49)

sin_ends : T (every (calm sin_terms wide ∷ finite (low_of sin_terms wide) ∷ finite (high_of sin_terms wide) ∷ le (fin false 1 (negsuc 0)) (low_of sin_terms wide) ∷ []))
unfolding calm sin_terms up_from alternating factorial round add mul le low_of high_of
sin_ends = tt

cos_ends : T (every (calm cos_terms wide ∷ le faint (low_of cos_terms wide) ∷ []))
unfolding calm cos_terms up_from alternating factorial round add mul le low_of high_of
cos_ends = tt

size_finite : (x : Float) → T (finite x) → T (finite (abs_of x))
size_finite nan h = absurd h
size_finite (inf s) h = absurd h
size_finite (fin s m e) h = subst (λ (z : Float). T (finite z)) (sym (abs_fin s m e)) tt

pub mul_away : (f : Format) (x y d k : Float) → T (finite x) → T (finite y) → T (le nought d) → T (le nought k) → Away d x → Away k y → Away (mul f d k) (mul f x y)
mul_away f x y d k p q m n a b = subst (λ (z : Float). T (le (mul f d k) z)) (sym (abs_mul f x y)) (mul_mono f d (abs_of x) k (abs_of y) (size_finite x p) (size_finite y q) m n a b)

cos_away : (x : Float) → Near x → Away faint (cos_series x)
unfolding cos_series
cos_away x b =
    let t = all (calm cos_terms wide ∷ le faint (low_of cos_terms wide) ∷ []) cos_ends in
    let h = horner_in_law cos_terms wide (x ⊗ x) tt t.0 (square_in x b) in
    above_away faint (cos_series x) (trans_le faint (low_of cos_terms wide) (cos_series x) t.1.0 h.low)

sin_away : (x : Float) → Near x → Away tiny x → Away faint (sin_series x)
unfolding sin_series le mul
sin_away x b a =
    let t = all (calm sin_terms wide ∷ finite (low_of sin_terms wide) ∷ finite (high_of sin_terms wide) ∷ le (fin false 1 (negsuc 0)) (low_of sin_terms wide) ∷ []) sin_ends in
    let z = horner sin_terms (x ⊗ x) in
    let h = horner_in_law sin_terms wide (x ⊗ x) tt t.0 (square_in x b) in
    mul_away binary64 x z tiny (fin false 1 (negsuc 0)) (near_finite x b) (between_finite t.1.0 t.1.1.0 h) tt tt a
    (above_away (fin false 1 (negsuc 0)) z (trans_le (fin false 1 (negsuc 0)) (low_of sin_terms wide) z t.1.1.1.0 h.low))

-- ---- the sine
off : (v : Float) → T (fits binary32 v) → Between (least 2) (most 2) v → T (le (v ⊖ half) (neg unit)) ⊎ T (le unit (v ⊖ half))
off nan f b = absurd (between_finite {lo = least 2} {hi = most 2} tt tt b)
off (inf s) f b = absurd (between_finite {lo = least 2} {hi = most 2} tt tt b)
off (fin true m e) f b = absurd (omega (arith, le→cross (least 2) (fin true m e) tt tt b.low, down_pos e))
off (fin false m e) f b = off_half m e (coarse (fin false m e) f (trans_le (fin false 1 (pos 0)) (least 2) (fin false m e) (unfold le in tt) b.low))

abbrev arc : Float → Float
arc n = n ⊗ half_pi

abbrev rest : Float → Float
rest n = n ⊗ fraction 6123233995736766 (10 ^ 32)

reduced_in_law : (n l m lo hi : Float) {a b v : Float} → T (finite (arc n)) → T (finite (rest n)) → T (every (finite a ∷ finite b ∷ finite (arc n) ∷ finite (arc n) ∷ le l (a ⊖ arc n) ∷ le (b ⊖ arc n) m ∷ []))
    → T (every (finite l ∷ finite m ∷ finite (rest n) ∷ finite (rest n) ∷ le lo (l ⊖ rest n) ∷ le (m ⊖ rest n) hi ∷ [])) → Between a b v → Between lo hi (reduced_of v n)
unfolding reduced_of
reduced_in_law n l m lo hi p q s t b = sub_in binary64 lo hi t (sub_in binary64 l m s b (exactly (arc n) p)) (exactly (rest n) q)

-- to the right of 0, 2 or 4 quarter turns, and to the left
right_away : (x : Float) → Between tiny five x → Away faint (sin_series x)
unfolding neg le
right_away x b = sin_away x (wider (neg five) five tt tt b) (above_away tiny x b.low)

left_away : (x : Float) → Between (neg five) (neg tiny) x → Away faint (sin_series x)
unfolding neg le
left_away x b = sin_away x (wider (neg five) five tt tt b) (below_away tiny x b.high)

turned_away : (x : Float) → Away faint x → Away faint (neg x)
turned_away x a = subst (λ (z : Float). T (le faint z)) (sym (abs_neg x)) a

-- 79 / 64
abbrev more : Float
more = fin false 79 (negsuc 5)

half_away : (v : Float) → Between (least 2) (most 2) v → T (le (v ⊖ half) (neg unit)) ⊎ T (le unit (v ⊖ half)) → Away faint (sin_series (reduced_of v (turns 2)))
unfolding reduced_of half_pi fraction round mul neg add sub le
half_away v b (inl h) =
    let w : Between (neg more) more (v ⊖ half) = sub_in binary64 (neg more) more tt b (exactly half tt) in
    let u : Between (neg more) (neg unit) (v ⊖ half) = record { low = w.low; high = h } in
    left_away (reduced_of v (turns 2)) (sub_in binary64 (neg five) (neg tiny) tt u (exactly (rest (turns 2)) tt))
half_away v b (inr h) =
    let w : Between (neg more) more (v ⊖ half) = sub_in binary64 (neg more) more tt b (exactly half tt) in
    let u : Between unit more (v ⊖ half) = record { low = h; high = w.high } in
    right_away (reduced_of v (turns 2)) (sub_in binary64 tiny five tt u (exactly (rest (turns 2)) tt))

module _ (v : Float) (f : T (fits binary32 v)) where
  sine_at : (n : ℕ) → n ≤ 4 → Between (least n) (most n) v → Away faint (sin_at (quarter_of (turns n)) (reduced_of v (turns n)))
  unfolding sin_at quarter_of to_unsigned abs_of negative half_pi fraction round mul neg add sub le
  sine_at zero h b = right_away _ (reduced_in_law (turns 0) tiny more tiny five tt tt tt tt b)
  sine_at (suc zero) h b = cos_away _ (reduced_in_law (turns 1) (neg more) more (neg five) five tt tt tt tt b)
  sine_at (suc (suc zero)) h b = turned_away (sin_series (reduced_of v (turns 2))) (half_away v b (off v f b))
  sine_at (suc (suc (suc zero))) h b = turned_away (cos_series (reduced_of v (turns 3))) (cos_away _ (reduced_in_law (turns 3) (neg more) more (neg five) five tt tt tt tt b))
  sine_at (suc (suc (suc (suc zero)))) h b = left_away _ (reduced_in_law (turns 4) (neg more) (neg unit) (neg five) (neg tiny) tt tt tt tt b)
  sine_at (suc (suc (suc (suc (suc n))))) h b = absurd (omega arith)

  module _ (b : Between start limit v) where
    within : T (le (abs_of v) (fraction 1000 1))
    unfolding fraction round neg le
    within = le→abs v (fraction 1000 1) (trans_le (neg (fraction 1000 1)) start v tt b.low) (trans_le v limit (fraction 1000 1) b.high tt)

    sin_is : sin_of v ≡ sin_at (quarter_of (turns_of v)) (reduced_of v (turns_of v))
    unfolding sin_of
    sin_is = cond_true _ _ (is_true (le (abs_of v) (fraction 1000 1)) within)

    sine_away : Away faint (sin_of v)
    sine_away =
        let w = turns_whole v (unfold le in wider nought full tt tt b) in
        subst (Away faint) (sym (sin_is ∙ ap (λ (n : Float). sin_at (quarter_of n) (reduced_of v n)) w.is))
        (sine_at w.count w.most (near_turns v b w.count w.most w.is))

    sine32_away : Away faint (sin32_of v)
    unfolding sin32_of narrow_of round
    sine32_away = subst (λ (z : Float). T (le faint z)) (sym (abs_narrow (sin_of v))) (narrow_mono faint (abs_of (sin_of v)) sine_away)

-- from 0.000001 to the whole turn less that, the sine is 2 ^ -50 at least in size
pub sine_not_zero : (v : Float) → T (fits binary32 v) → Between (decimal 1 6) (sub binary32 PI2 (decimal 1 6)) v → Away faint (sin32_of v)
unfolding PI2 decimal round neg add sub
sine_not_zero v f b = sine32_away v f b
