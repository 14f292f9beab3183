-- Bounds of atan, acos, sin and cos as document 01 steps them, by interval arithmetic: three
-- halvings take [0, 1] into [0, 1/8], the quarter turns off leave 7/4 at most, and there a series'
-- ends are computed. Assumes nothing.
use Rattle.std.proofs.Common.{◌≡◌, refl, sym, ap, ◌∙◌, subst, inl, inr, Bool, true, false, not, cond, [], ◌∷◌, ℕ, zero, suc, T, pos, negsuc, Float}
use lib.Ieee.{fin, binary64, round, add, sub, mul, div, neg, lt, le, is_nan}
use lib.Ieee.Bits.{is_true}
use lib.Ieee.Scale.{finite}
use lib.Ieee.Positive.{above_of_le}
use Rattle.base.specs.Double.{◌⊕◌, ◌⊖◌, ◌⊗◌, ◌⊘◌, fraction}
use Rattle.base.specs.Number.{negative, abs_of, with_sign, narrow_of, sqrt_of}
use Rattle.base.specs.Elementary.{turns_of, reduced_of, quarter_of, sin_terms, cos_terms, sin_series, cos_series, sin_at, cos_at, sin_of, cos_of, sin32_of, cos32_of, factorial, horner, atan_terms, half_angle, atan_series, atan_within, atan_from, atan_of, acos_of, atan32_of, acos32_of, half_pi, alternating, up_from}
use Rattle.base.proofs.verdicts.Picks.{cond_true}
use Rattle.base.proofs.order.Order.{nought, Between, wider, finite_between, between_finite, trans_le, refl_le, total_le, lt→le, not-lt→le, no_nan_finite, abs_no_nan, le_right, abs_not_below, abs→le, abs→ge, le→abs, abs_neg, neg_le, neg_neg, neg_not_above, neg_not_below}
use Rattle.base.proofs.order.Monotone.{div_mono, div_not_below, div_above, div_plus, add_negative, mul_mono, mul_not_below, narrow_size, mul_size, square_not_below}
use Rattle.base.proofs.steps.Reduction.{thousand, seven, reduced_in_law}
use Rattle.base.proofs.roots.RootsOrder.{sqrt_not_below}
use Rattle.base.proofs.order.Intervals.{every, all, exactly, mul_about, between_positive, add_in, sub_in, mul_in, sqrt_in, narrow_in, low_of, high_of, calm, horner_in_law}

abbrev one : Float
one = fin false 1 (pos 0)

abbrev two : Float
two = fin false 1 (pos 1)

-- ---- a/(1 + sqrt(1 + a²)): the divisor, for an a up to 1
divisor_in : (a : Float) → Between nought one a → Between two (fin false 5 (negsuc 0)) (one ⊕ sqrt_of binary64 (one ⊕ a ⊗ a))
unfolding le add mul sqrt_of
divisor_in a b = add_in binary64 two (fin false 5 (negsuc 0)) tt (exactly one tt) (sqrt_in one (fin false 3 (negsuc 0)) binary64 tt (add_in binary64 one two tt (exactly one tt) (mul_in binary64 nought one tt b b)))

half_is : (a : Float) → half_angle a ≡ a ⊘ (one ⊕ sqrt_of binary64 (one ⊕ a ⊗ a))
unfolding half_angle fraction round
half_is a = refl

-- an a up to A, which is at most 1, halves to A / 2 at most
half_in : (A a : Float) → T (finite A) → T (le A one) → Between nought A a → Between nought (A ⊘ two) (half_angle a)
half_in A a p h b =
    let d = divisor_in a (record { low = b.low; high = trans_le a A one b.high h }) in
    let e = one ⊕ sqrt_of binary64 (one ⊕ a ⊗ a) in
    subst (Between nought (A ⊘ two)) (sym (half_is a)) (record {
      low = div_not_below binary64 a e (finite_between nought a A tt p b.low b.high) (between_positive two (fin false 5 (negsuc 0)) e tt tt d) b.low;
      high = div_mono binary64 a A e two p tt b.low b.high d.low;
    })

-- ---- the series, up to 1/8
abbrev eighth : Float
eighth = fin false 1 (negsuc 2)

abbrev square : Float
square = fin false 1 (negsuc 5)

atan_ends : T (every (calm atan_terms square ∷ le nought (low_of atan_terms square) ∷ le (high_of atan_terms square) one ∷ []))
unfolding calm atan_terms up_from alternating round add mul le low_of high_of
atan_ends = tt

horner_atan : (b : Float) → Between nought eighth b → Between nought one (horner atan_terms (b ⊗ b))
unfolding mul le
horner_atan b h =
    let t = all (calm atan_terms square ∷ le nought (low_of atan_terms square) ∷ le (high_of atan_terms square) one ∷ []) atan_ends in
    wider nought one t.1.0 t.1.1.0 (horner_in_law atan_terms square (b ⊗ b) tt t.0 (mul_in binary64 nought square tt h h))

abbrev eight : Float
eight = fin false 1 (pos 3)

-- a product of numbers in [0, b] and [0, d]
times_in : (x b y d E : Float) → T (finite b) → T (finite d) → T (le (b ⊗ d) E) → Between nought b x → Between nought d y → Between nought E (x ⊗ y)
times_in x b y d E p q t h k =
    record {
      low = mul_not_below binary64 x y (finite_between nought x b tt p h.low h.high) (finite_between nought y d tt q k.low k.high) h.low k.low;
      high = trans_le (x ⊗ y) (b ⊗ d) E (mul_mono binary64 x b y d p q h.low k.low h.high k.high) t;
    }

le_eight : T (le nought eight)
unfolding le
le_eight = tt

-- A halved three times is B at most, B times the series' value S at most, and 8 S at most E
within_in : (A B S E a : Float) → T (every (finite A ∷ le A one ∷ finite (A ⊘ two) ∷ le (A ⊘ two) one ∷ finite (A ⊘ two ⊘ two) ∷ le (A ⊘ two ⊘ two) one ∷ le (A ⊘ two ⊘ two ⊘ two) B ∷ finite B ∷ le B eighth ∷ le (B ⊗ one) S ∷ finite S ∷ le (S ⊗ eight) E ∷ []))
    → Between nought A a → Between nought E (atan_within a)
unfolding atan_within atan_series fraction round
within_in A B S E a t h =
    let w = all (finite A ∷ le A one ∷ finite (A ⊘ two) ∷ le (A ⊘ two) one ∷ finite (A ⊘ two ⊘ two) ∷ le (A ⊘ two ⊘ two) one ∷ le (A ⊘ two ⊘ two ⊘ two) B ∷ finite B ∷ le B eighth ∷ le (B ⊗ one) S ∷ finite S ∷ le (S ⊗ eight) E ∷ []) t in
    let r = w.1.1.1.1.1.1 in
    let b = half_angle (half_angle (half_angle a)) in
    let h1 = half_in A a w.0 w.1.0 h in
    let h2 = half_in (A ⊘ two) (half_angle a) w.1.1.0 w.1.1.1.0 h1 in
    let h3 = half_in (A ⊘ two ⊘ two) (half_angle (half_angle a)) w.1.1.1.1.0 w.1.1.1.1.1.0 h2 in
    let k : Between nought B b = record { low = h3.low; high = trans_le b (A ⊘ two ⊘ two ⊘ two) B h3.high r.0 } in
    let H = horner_atan b (record { low = k.low; high = trans_le b B eighth k.high r.1.1.0 }) in
    times_in (atan_series b) S eight eight E r.1.1.1.1.0 tt r.1.1.1.1.1.0
    (times_in b B (horner atan_terms (b ⊗ b)) one S r.1.0 tt r.1.1.1.0 k H)
    (record { low = le_eight; high = refl_le eight (no_nan_finite eight tt) })

-- ---- atan of a number up to 1 is at most 1, and that of 0 is 0
within_one : (a : Float) → Between nought one a → Between nought one (atan_within a)
unfolding le mul div
within_one a h = within_in one eighth eighth one a tt h

within_nought : (a : Float) → Between nought nought a → Between nought nought (atan_within a)
unfolding le mul div
within_nought a h = within_in nought nought nought nought a tt h

-- ---- atan of a number not below zero
abbrev most : Float
most = fin false 13 (negsuc 2)

inverse_in : (a : Float) → T (lt one a) → Between nought one (one ⊘ a)
unfolding le div
inverse_in a h = record {
  low = div_above binary64 one a tt (above_of_le one a tt (lt→le one a h)) tt;
  high = div_mono binary64 one one a one tt tt tt tt (lt→le one a h);
}

inverted_in : (a : Float) → T (lt one a) → Between nought most (half_pi ⊖ atan_within (one ⊘ a))
unfolding le sub half_pi fraction round
inverted_in a h = sub_in binary64 nought most tt (exactly half_pi tt) (within_one (one ⊘ a) (inverse_in a h))

from_is : (a : Float) → atan_from a ≡ cond (lt one a) (half_pi ⊖ atan_within (one ⊘ a)) (atan_within a)
unfolding atan_from fraction round
from_is a = refl

one_most : T (le one most)
unfolding le
one_most = tt

from_in : (a : Float) → T (le nought a) → Between nought most (atan_from a)
from_in a h = subst (Between nought most) (sym (from_is a)) (go (lt one a) refl)
  where
    go : (b : Bool) → lt one a ≡ b → Between nought most (cond b (half_pi ⊖ atan_within (one ⊘ a)) (atan_within a))
    go true e = inverted_in a (subst T (sym e) tt)
    go false e =
        let w = within_one a (record { low = h; high = not-lt→le one a (no_nan_finite one tt) (le_right nought a h) e }) in
        record { low = w.low; high = trans_le (atan_within a) one most w.high one_most }

-- of zero, zero
from_nought : (a : Float) → Between nought nought a → Between nought nought (atan_from a)
from_nought a h = subst (Between nought nought) (sym (from_is a)) (go (lt one a) refl)
  where
    go : (b : Bool) → lt one a ≡ b → Between nought nought (cond b (half_pi ⊖ atan_within (one ⊘ a)) (atan_within a))
    go true e = absurd (unfold le in trans_le one a nought (lt→le one a (subst T (sym e) tt)) h.high)
    go false e = within_nought a h

-- ---- atan
abs_with : (v w : Float) → abs_of (with_sign v w) ≡ abs_of w
unfolding with_sign
abs_with v w = go (negative v)
  where
    go : (b : Bool) → abs_of (cond b (neg w) w) ≡ abs_of w
    go true = abs_neg w
    go false = refl

minus_two : (x : Float) → T (le nought x) → T (le (neg two) x)
unfolding neg le
minus_two x h = trans_le (neg two) nought x tt h

two_is : fraction 2 1 ≡ two
unfolding fraction round
two_is = refl

most_two : T (le most two)
unfolding le
most_two = tt

small : (x : Float) → Between nought most x → T (le (abs_of x) two)
small x b = le→abs x two (minus_two x b.low) (trans_le x most two b.high most_two)

pub atan_size : (v : Float) → T (not (is_nan v)) → T (le (abs_of (atan_of v)) (fraction 2 1))
unfolding atan_of
atan_size v h = rw (two_is, abs_with v (atan_from (abs_of v))) (small (atan_from (abs_of v)) (from_in (abs_of v) (abs_not_below v h)))

abs_negative : (v : Float) → negative v ≡ true → abs_of v ≡ neg v
unfolding abs_of
abs_negative v e = cond_true (neg v) v e

nought_most : T (le nought most)
unfolding le
nought_most = tt

-- of -0 it is -0
atan_in : (v : Float) → T (le nought v) → Between nought most (atan_of v)
unfolding atan_of with_sign abs_of
atan_in v h = go (negative v) refl
  where
    go : (b : Bool) → negative v ≡ b → Between nought most (cond b (neg (atan_from (cond b (neg v) v))) (atan_from (cond b (neg v) v)))
    go true e =
        let w = from_nought (neg v) (record { low = subst (λ (z : Float). T (le nought z)) (abs_negative v e) (abs_not_below v (le_right nought v h)); high = neg_not_below v h }) in
        record { low = neg_not_above (atan_from (neg v)) w.high; high = trans_le (neg (atan_from (neg v))) nought most (neg_not_below (atan_from (neg v)) w.low) nought_most }
    go false e = from_in v h

-- ---- acos: with (1 - v) and (1 + v) in [0, 2], and one of them 1 at least, so that the quotient
-- is a number not below zero
module _ (v : Float) (h : T (le (abs_of v) one)) where
  high_half : T (le nought v) → T (le nought ((one ⊖ v) ⊘ (one ⊕ v)))
  unfolding le add sub
  high_half n =
      let b : Between nought one v = record { low = n; high = abs→le v one h } in
      let x : Between nought one (one ⊖ v) = sub_in binary64 nought one tt (exactly one tt) b in
      let y : Between one two (one ⊕ v) = add_in binary64 one two tt (exactly one tt) b in
      div_not_below binary64 (one ⊖ v) (one ⊕ v) (between_finite tt tt x) (between_positive one two (one ⊕ v) tt tt y) x.low

  low_half : T (le v nought) → T (le nought ((one ⊖ v) ⊘ (one ⊕ v)))
  unfolding le add sub neg negative
  low_half n =
      let b : Between (neg one) nought v = record { low = abs→ge v one h; high = n } in
      let x : Between one two (one ⊖ v) = sub_in binary64 one two tt (exactly one tt) b in
      let y : Between nought one (one ⊕ v) = add_in binary64 nought one tt (exactly one tt) b in
      div_plus binary64 (one ⊖ v) (one ⊕ v) (between_positive one two (one ⊖ v) tt tt x) (between_finite tt tt y)
      (add_negative binary64 one v tt (between_finite {lo = neg one} {hi = nought} tt tt b) refl (subst (λ (z : Float). T (le (neg v) z)) (neg_neg one) (neg_le (neg one) v b.low)))

  quotient_above : T (le nought ((one ⊖ v) ⊘ (one ⊕ v)))
  quotient_above = elim (total_le nought v (no_nan_finite nought tt) (abs_no_nan v one h)) [ inl n ↦ high_half n | inr n ↦ low_half n ]

acos_is : (v : Float) → le (abs_of v) one ≡ true → acos_of v ≡ two ⊗ atan_of (sqrt_of binary64 ((one ⊖ v) ⊘ (one ⊕ v)))
unfolding acos_of fraction round
acos_is v e = cond_true _ _ e

abbrev four : Float
four = fin false 1 (pos 2)

acos_in : (v : Float) → T (le (abs_of v) one) → Between nought four (acos_of v)
unfolding le mul
acos_in v h =
    subst (Between nought four) (sym (acos_is v (is_true (le (abs_of v) one) h)))
    (mul_in binary64 nought four tt (exactly two tt) (atan_in (sqrt_of binary64 ((one ⊖ v) ⊘ (one ⊕ v))) (sqrt_not_below binary64 ((one ⊖ v) ⊘ (one ⊕ v)) (quotient_above v h))))

pub acos_range : (v : Float) → T (le (abs_of v) (fraction 1 1)) → Between (fraction 0 1) (fraction 4 1) (acos_of v)
unfolding fraction round
acos_range v h = acos_in v h

-- ---- the series of sin and cos, at 7/4 in size and less
abbrev wide : Float
wide = fin false 49 (negsuc 3)

square_in : (r : Float) → Between (neg seven) seven r → Between nought wide (r ⊗ r)
unfolding neg mul
square_in r b =
    let p : T (finite r) = finite_between (neg seven) r seven tt tt b.low b.high in
    let a : T (le (abs_of r) seven) = le→abs r seven b.low b.high in
    record { low = square_not_below binary64 r p; high = abs→le (r ⊗ r) wide (mul_size binary64 r r seven seven tt tt a a) }

sin_ends : T (every (calm sin_terms wide ∷ le nought (low_of sin_terms wide) ∷ le (high_of sin_terms wide) one ∷ []))
unfolding calm sin_terms up_from alternating factorial round add mul le low_of high_of
sin_ends = tt

cos_ends : T (every (calm cos_terms wide ∷ le (neg one) (low_of cos_terms wide) ∷ le (high_of cos_terms wide) one ∷ []))
unfolding calm cos_terms up_from alternating factorial round add mul le neg low_of high_of
cos_ends = tt

abbrev Small : Float → Type 0
Small x = T (le (abs_of x) two)

of_between : (x : Float) → Between (neg two) two x → Small x
of_between x b = le→abs x two b.low b.high

sin_small : (r : Float) → Between (neg seven) seven r → Small (sin_series r)
unfolding sin_series le mul neg
sin_small r b =
    let t = all (calm sin_terms wide ∷ le nought (low_of sin_terms wide) ∷ le (high_of sin_terms wide) one ∷ []) sin_ends in
    let h = wider nought one t.1.0 t.1.1.0 (horner_in_law sin_terms wide (r ⊗ r) tt t.0 (square_in r b)) in
    of_between (sin_series r) (mul_about binary64 (neg two) two tt b h)

cos_small : (r : Float) → Between (neg seven) seven r → Small (cos_series r)
unfolding cos_series le neg
cos_small r b =
    let t = all (calm cos_terms wide ∷ le (neg one) (low_of cos_terms wide) ∷ le (high_of cos_terms wide) one ∷ []) cos_ends in
    let h = wider (neg one) one t.1.0 t.1.1.0 (horner_in_law cos_terms wide (r ⊗ r) tt t.0 (square_in r b)) in
    of_between (cos_series r) (wider (neg two) two tt tt h)

neg_small : (x : Float) → Small x → Small (neg x)
neg_small x h = subst (λ (z : Float). T (le z two)) (sym (abs_neg x)) h

sin_at_law : (q : ℕ) (r : Float) → Between (neg seven) seven r → Small (sin_at q r)
unfolding sin_at
sin_at_law zero r b = sin_small r b
sin_at_law (suc zero) r b = cos_small r b
sin_at_law (suc (suc zero)) r b = neg_small (sin_series r) (sin_small r b)
sin_at_law (suc (suc (suc q))) r b = neg_small (cos_series r) (cos_small r b)

cos_at_law : (q : ℕ) (r : Float) → Between (neg seven) seven r → Small (cos_at q r)
unfolding cos_at
cos_at_law zero r b = cos_small r b
cos_at_law (suc zero) r b = neg_small (sin_series r) (sin_small r b)
cos_at_law (suc (suc zero)) r b = neg_small (cos_series r) (cos_small r b)
cos_at_law (suc (suc (suc q))) r b = sin_small r b

-- ---- sin, cos
sin_is : (v : Float) → le (abs_of v) thousand ≡ true → sin_of v ≡ sin_at (quarter_of (turns_of v)) (reduced_of v (turns_of v))
unfolding sin_of fraction round
sin_is v e = cond_true _ _ e

cos_is : (v : Float) → le (abs_of v) thousand ≡ true → cos_of v ≡ cos_at (quarter_of (turns_of v)) (reduced_of v (turns_of v))
unfolding cos_of fraction round
cos_is v e = cond_true _ _ e

pub sin_size : (v : Float) → T (le (abs_of v) (fraction 1000 1)) → T (le (abs_of (sin_of v)) (fraction 2 1))
unfolding fraction round
sin_size v h = subst Small (sym (sin_is v (is_true (le (abs_of v) thousand) h))) (sin_at_law (quarter_of (turns_of v)) (reduced_of v (turns_of v)) (reduced_in_law v h))

pub cos_size : (v : Float) → T (le (abs_of v) (fraction 1000 1)) → T (le (abs_of (cos_of v)) (fraction 2 1))
unfolding fraction round
cos_size v h = subst Small (sym (cos_is v (is_true (le (abs_of v) thousand) h))) (cos_at_law (quarter_of (turns_of v)) (reduced_of v (turns_of v)) (reduced_in_law v h))

-- ---- over f32
two_float : fraction 2 1 ≡ fin false 1 (pos 1)
unfolding fraction round
two_float = refl

two_kept : narrow_of (fin false 1 (pos 1)) ≡ fin false 1 (pos 1)
unfolding narrow_of round
two_kept = refl

two_narrow : narrow_of (fraction 2 1) ≡ fraction 2 1
two_narrow = ap narrow_of two_float ∙ two_kept ∙ sym two_float

pub atan32_size : (v : Float) → T (not (is_nan v)) → T (le (abs_of (atan32_of v)) (fraction 2 1))
unfolding atan32_of
atan32_size v h = rw two_narrow at (narrow_size (atan_of v) (fraction 2 1) (atan_size v h))

pub acos32_range : (v : Float) → T (le (abs_of v) (fraction 1 1)) → Between (fraction 0 1) (fraction 4 1) (acos32_of v)
unfolding acos32_of fraction round narrow_of le
acos32_range v h = narrow_in (fraction 0 1) (fraction 4 1) tt (acos_range v h)

pub sin32_size : (v : Float) → T (le (abs_of v) (fraction 1000 1)) → T (le (abs_of (sin32_of v)) (fraction 2 1))
unfolding sin32_of
sin32_size v h = rw two_narrow at (narrow_size (sin_of v) (fraction 2 1) (sin_size v h))

pub cos32_size : (v : Float) → T (le (abs_of v) (fraction 1000 1)) → T (le (abs_of (cos32_of v)) (fraction 2 1))
unfolding cos32_of
cos32_size v h = rw two_narrow at (narrow_size (cos_of v) (fraction 2 1) (cos_size v h))
