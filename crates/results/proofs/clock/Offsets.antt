-- CNGTIM's shift (document 01, Clocks): with the time from 0 to 24 and the longitude at most 181
-- degrees either way the time after the shift is from -13 to 37. By the quotients' whole parts the
-- offset is at most 13 hours either way: an f32 below 360 is so by 2 ^ -16 at least, which no
-- rounding hides, so that both quotients reach a whole number together. Assumes nothing.
use Rattle.std.proofs.Common.{◌≡◌, refl, sym, ap, subst, ◌⊎◌, inl, inr, Bool, true, false, ◌&&◌, cond, ℕ, zero, suc, ◌+◌, ◌*◌, ◌%◌, ◌^◌, ◌≤◌, ◌<◌, zero-mul, arith, T, ltb, eqb, leb, ltb→lt, lit<, pos, negsuc, Float}
use lib.Ieee.{nan, inf, fin, binary32, up, down, fits, round, neg, add, sub, mul, div, lt, le, of_int, to_signed}
use lib.Ieee.Fits.{and_l, and_r, add-fits, down_pos}
use lib.Ieee.Scale.{finite}
use lib.Ieee.Positive.{den}
use Rattle.base.specs.declared.angle.Degrees.{Degrees}
use Rattle.base.specs.Single.{◌⊕◌, ◌⊖◌, ◌⊗◌, ◌⊘◌, decimal, minus_decimal}
use Rattle.base.specs.Number.{abs_of, negative}
use Rattle.base.proofs.order.Order.{plus, less, nought, le→cross, cross→le, no_nan_finite, trans_le, total_le, lt→le, not-lt→le, less_zero, le→abs, Between, wider, between_finite, size_between}
use Rattle.base.proofs.order.Monotone.{div_right, mul_size}
use Rattle.base.proofs.order.Intervals.{exactly, add_in, sub_in, div_in}
use Rattle.maps.specs.declared.ionosphere.clocks.Direction.{Direction}
use Rattle.maps.specs.declared.ionosphere.clocks.Direction.TheVariants.{ToLocal, ToUniversal}
use Rattle.maps.specs.Clocks.{fisw_of, theta_of, whole_of, after_shift}
use Rattle.results.proofs.clock.WholeParts.{whole_below, gap}

-- 24, 15, 180 and 360
abbrev pub day : Float
day = fin false 3 (pos 3)

abbrev pub hour : Float
hour = fin false 15 (pos 0)

abbrev pub half : Float
half = fin false 45 (pos 2)

abbrev pub full : Float
full = fin false 45 (pos 3)

abbrev pub one : Float
one = fin false 1 (pos 0)

abbrev pub thirteen : Float
thirteen = fin false 13 (pos 0)

-- ---- an f32 below 360
-- 360 less 2 ^ -16
abbrev under : Float
under = fin false 23592959 (negsuc 15)

-- from 256 on an f32 has no digit as fine as 2 ^ -16
coarse : (y : Float) → T (fits binary32 y) → T (le (fin false 1 (pos 8)) y) → T (finite y) → den y < 2 ^ 16
unfolding fits
coarse nan f h p = absurd p
coarse (inf s) f h p = absurd p
coarse (fin s zero e) f h p = let u = le→cross (fin false 1 (pos 8)) (fin s zero e) tt tt h in absurd (none s u)
  where
    none : (t : Bool) → 1 * 2 ^ 8 * down e + less (fin t zero e) * 1 ≤ plus (fin t zero e) * 1 + 0 * down e → ⊥
    none true u = omega (arith, down_pos e, zero-mul (up e), zero-mul (down e))
    none false u = omega (arith, down_pos e, zero-mul (up e), zero-mul (down e))
coarse (fin s (suc m) (pos k)) f h p = lit< tt
coarse (fin true (suc m) (negsuc k)) f h p = let u = le→cross (fin false 1 (pos 8)) (fin true (suc m) (negsuc k)) tt tt h in absurd (omega (arith, down_pos (negsuc k)))
coarse (fin false (suc m) (negsuc k)) f h p =
    let u = le→cross (fin false 1 (pos 8)) (fin false (suc m) (negsuc k)) tt tt h in
    let a = eqb (suc m % 2) 1 in
    let b = ltb (suc m) (2 ^ 24) in
    let c = leb (down (negsuc k)) (2 ^ 149) in
    let d = ltb (suc m * up (negsuc k)) (2 ^ 128 * down (negsuc k)) in
    let v = ltb→lt (suc m) (2 ^ 24) (and_r a b (and_l (a && b) c (and_l (a && b && c) d f))) in
    omega arith

below_full : (y : Float) → T (fits binary32 y) → T (finite y) → T (le nought y) → T (le full y) ⊎ T (le y under)
unfolding le
below_full y f p i = go (le full y) (le (fin false 1 (pos 8)) y) refl refl
  where
    go : (a b : Bool) → le full y ≡ a → le (fin false 1 (pos 8)) y ≡ b → T (le full y) ⊎ T (le y under)
    go true b e h = inl (subst T (sym e) tt)
    go false false e h =
        elim (total_le y (fin false 1 (pos 8)) (no_nan_finite y p) (no_nan_finite (fin false 1 (pos 8)) tt)) [ inl u ↦ inr (trans_le y (fin false 1 (pos 8)) under u tt) | inr u ↦ absurd (subst T h u) ]
    go false true e h =
        let D = coarse y f (subst T (sym h) tt) p in
        let z = less_zero y p i in
        let u = gap y full p tt (λ (t : T (le full y)). subst T e t) in
        inr (cross→le y under p tt (omega arith))

-- ---- theta
abbrev pub far : Float
far = fin false 181 (pos 0)

-- from 0 to 360, and either 360 or below it by more than any rounding
pub record Turn (theta : Float) : Type 0 where
  pub range : Between nought full theta
  pub side : T (le full theta) ⊎ T (le theta under)

abbrev pub theta_at : Float → Float
theta_at x = cond (lt x nought) (full ⊕ x) x

pub theta_is : (x : Degrees) → theta_of x ≡ theta_at x.0
unfolding theta_of decimal round
theta_is x = refl

pub theta_turn : (x : Float) → Between (neg far) far x → Turn (theta_at x)
unfolding le neg add
theta_turn x b = go (lt x nought) refl
  where
    p : T (finite x)
    p = between_finite {lo = neg far} {hi = far} tt tt b

    go : (t : Bool) → lt x nought ≡ t → Turn (cond t (full ⊕ x) x)
    go true e =
        let c : Between (neg far) nought x = record { low = b.low; high = lt→le x nought (subst T (sym e) tt) } in
        let r : Between nought full (full ⊕ x) = add_in binary32 nought full tt (exactly full tt) c in
        record { range = r; side = below_full (full ⊕ x) (add-fits binary32 full x) (between_finite tt tt r) r.low }
    go false e =
        let l = not-lt→le x nought (no_nan_finite x p) (no_nan_finite nought tt) e in
        record { range = record { low = l; high = trans_le x far full b.high tt }; side = inr (trans_le x far under b.high tt) }

-- ---- the offset, in hours
abbrev offset : Float → Float → Float → Float
offset theta fint1 fint2 = theta ⊘ hour ⊖ fint1 ⊗ day ⊕ fint2 ⊗ day

-- at most 13 hours either way; and fint2, which the loop meets again
pub record Small (theta : Float) : Type 0 where
  pub hours : Between (neg thirteen) thirteen (offset theta (whole_of (theta ⊘ half)) (whole_of (theta ⊘ full)))
  pub turns : Between nought one (whole_of (theta ⊘ full))

abbrev small : Float → Float → Float → Type 0
small theta fint1 fint2 = Between (neg thirteen) thirteen (offset theta fint1 fint2) × Between nought one fint2

whole_float : (x : Float) (k : ℕ) → to_signed 31 x ≡ pos k → whole_of x ≡ of_int binary32 (pos k)
unfolding whole_of
whole_float x k e = ap (of_int binary32) e

by_parts : (theta : Float) (j k : ℕ) → to_signed 31 (theta ⊘ half) ≡ pos j → to_signed 31 (theta ⊘ full) ≡ pos k → small theta (of_int binary32 (pos j)) (of_int binary32 (pos k)) → Small theta
by_parts theta j k a b s =
    let p = whole_float (theta ⊘ half) j a in
    let q = whole_float (theta ⊘ full) k b in
    record {
      hours = subst (Between (neg thirteen) thirteen) (λ t. offset theta (sym p t) (sym q t)) s.0;
      turns = subst (Between nought one) (sym q) s.1;
    }

-- below 180 degrees
first_half : (theta : Float) → Between nought half theta → (T (le one (theta ⊘ half)) → ⊥) → Small theta
unfolding le neg add sub mul div of_int round
first_half theta b n =
    let q : Between nought one (theta ⊘ half) = div_in binary32 nought one tt b (exactly half tt) in
    let r : Between nought (fin false 1 (negsuc 0)) (theta ⊘ full) = div_in binary32 nought (fin false 1 (negsuc 0)) tt b (exactly full tt) in
    let h : Between nought (fin false 12 (pos 0)) (theta ⊘ hour) = div_in binary32 nought (fin false 12 (pos 0)) tt b (exactly hour tt) in
    let i : Between nought (fin false 12 (pos 0)) (theta ⊘ hour ⊖ nought) = sub_in binary32 nought (fin false 12 (pos 0)) tt h (exactly nought tt) in
    by_parts theta 0 0
    (whole_below 0 (theta ⊘ half) (lit< tt) (wider nought (fin false 1000 (pos 0)) tt tt q) n q.low)
    (whole_below 0 (theta ⊘ full) (lit< tt) (wider nought (fin false 1000 (pos 0)) tt tt r) (λ u. trans_le one (theta ⊘ full) (fin false 1 (negsuc 0)) u r.high) r.low)
    (add_in binary32 (neg thirteen) thirteen tt i (exactly nought tt), record { low = tt; high = tt })

-- from 180 to below 360, of which the quotient tells 179
second_half : (theta : Float) → Between (fin false 179 (pos 0)) under theta → T (le one (theta ⊘ half)) → Small theta
unfolding le neg add sub mul div of_int round
second_half theta b l =
    let q : Between nought (fin false 16777215 (negsuc 22)) (theta ⊘ half) = div_in binary32 nought (fin false 16777215 (negsuc 22)) tt b (exactly half tt) in
    let r : Between nought (fin false 16777215 (negsuc 23)) (theta ⊘ full) = div_in binary32 nought (fin false 16777215 (negsuc 23)) tt b (exactly full tt) in
    let h : Between (fin false 11 (pos 0)) day (theta ⊘ hour) = div_in binary32 (fin false 11 (pos 0)) day tt b (exactly hour tt) in
    let i : Between (neg thirteen) nought (theta ⊘ hour ⊖ day) = sub_in binary32 (neg thirteen) nought tt h (exactly day tt) in
    by_parts theta 1 0
    (whole_below 1 (theta ⊘ half) (lit< tt) (record { low = l; high = trans_le (theta ⊘ half) (fin false 16777215 (negsuc 22)) (fin false 1000 (pos 0)) q.high tt }) (λ u. trans_le (fin false 2 (pos 0)) (theta ⊘ half) (fin false 16777215 (negsuc 22)) u q.high) q.low)
    (whole_below 0 (theta ⊘ full) (lit< tt) (wider nought (fin false 1000 (pos 0)) tt tt r) (λ u. trans_le one (theta ⊘ full) (fin false 16777215 (negsuc 23)) u r.high) r.low)
    (add_in binary32 (neg thirteen) thirteen tt i (exactly nought tt), record { low = tt; high = tt })

-- 360, which a longitude just below 0 is rounded to
whole_turn : (theta : Float) → Between full full theta → Small theta
unfolding le neg add sub mul div of_int round
whole_turn theta b =
    let two = fin false 1 (pos 1) in
    let q : Between two two (theta ⊘ half) = div_in binary32 two two tt b (exactly half tt) in
    let r : Between one one (theta ⊘ full) = div_in binary32 one one tt b (exactly full tt) in
    let h : Between day day (theta ⊘ hour) = div_in binary32 day day tt b (exactly hour tt) in
    let i : Between (neg day) (neg day) (theta ⊘ hour ⊖ fin false 3 (pos 4)) = sub_in binary32 (neg day) (neg day) tt h (exactly (fin false 3 (pos 4)) tt) in
    by_parts theta 2 1
    (whole_below 2 (theta ⊘ half) (lit< tt) (wider (fin false 2 (pos 0)) (fin false 1000 (pos 0)) tt tt q) (λ u. trans_le (fin false 3 (pos 0)) (theta ⊘ half) two u q.high) (trans_le nought two (theta ⊘ half) tt q.low))
    (whole_below 1 (theta ⊘ full) (lit< tt) (wider one (fin false 1000 (pos 0)) tt tt r) (λ u. trans_le (fin false 2 (pos 0)) (theta ⊘ full) one u r.high) (trans_le nought one (theta ⊘ full) tt r.low))
    (add_in binary32 (neg thirteen) thirteen tt i (exactly day tt), record { low = tt; high = tt })

pub small_offset : (theta : Float) → Turn theta → Small theta
unfolding le div
small_offset theta t = go (le one (theta ⊘ half)) refl t.side
  where
    p : T (finite theta)
    p = between_finite {lo = nought} {hi = full} tt tt t.range

    other : (k : Float) → T (finite k) → (T (le k theta) → ⊥) → T (le theta k)
    other k f n = elim (total_le theta k (no_nan_finite theta p) (no_nan_finite k f)) [ inl u ↦ u | inr u ↦ absurd (n u) ]

    -- a quotient of 1 and more is of 179 and more
    from : T (le one (theta ⊘ half)) → T (le (fin false 179 (pos 0)) theta)
    from l = elim (total_le (fin false 179 (pos 0)) theta (no_nan_finite (fin false 179 (pos 0)) tt) (no_nan_finite theta p)) [
      | inl u ↦ u
      | inr u ↦ absurd (trans_le one (theta ⊘ half) (fin false 179 (pos 0) ⊘ half) l (div_right binary32 theta (fin false 179 (pos 0)) half p tt tt u))
    ]

    go : (a : Bool) → le one (theta ⊘ half) ≡ a → T (le full theta) ⊎ T (le theta under) → Small theta
    go false e s =
        first_half theta
        (record { low = t.range.low; high = other half tt (λ u. subst T e (div_right binary32 half theta half tt p tt u)) })
        (λ u. subst T e u)
    go true e (inl u) = whole_turn theta (record { low = u; high = t.range.high })
    go true e (inr u) = let l = subst T (sym e) tt in second_half theta (record { low = from l; high = u }) l

-- ---- the time after the shift
abbrev pub after : Float → Float → Direction → Float
after time theta isw = time ⊕ fisw_of isw ⊗ offset theta (whole_of (theta ⊘ half)) (whole_of (theta ⊘ full))

pub after_is : (time theta : Float) (isw : Direction) → after_shift time theta isw ≡ after time theta isw
unfolding after_shift decimal round
after_is time theta isw = refl

sign_size : (isw : Direction) → T (le (abs_of (fisw_of isw)) one)
unfolding fisw_of decimal minus_decimal round abs_of negative neg le
sign_size ToLocal = tt
sign_size ToUniversal = tt

-- where the time after the shift lies
abbrev pub Later : Float → Type 0
Later t = Between (neg thirteen) (fin false 37 (pos 0)) t

pub later : (time theta : Float) (isw : Direction) → Between nought day time → Small theta → Later (after time theta isw)
unfolding le neg add mul
later time theta isw h s =
    let o = offset theta (whole_of (theta ⊘ half)) (whole_of (theta ⊘ full)) in
    let z : T (le (abs_of (fisw_of isw ⊗ o)) thirteen) = mul_size binary32 (fisw_of isw) o one thirteen tt tt (sign_size isw) (le→abs o thirteen s.hours.low s.hours.high) in
    add_in binary32 (neg thirteen) (fin false 37 (pos 0)) tt h (size_between z)
