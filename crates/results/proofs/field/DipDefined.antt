-- The dip is never that of zero by zero: up is not zero, or the square under the root is not, since
-- the field vanishes nowhere (`FieldNotZero`) and 1/64 squared is 2 ^ -12. Assumes nothing.
use Rattle.std.proofs.Common.{◌≡◌, refl, sym, subst, ◌⊎◌, inl, inr, Bool, true, false, not, T, T_not, pos, negsuc, Float}
use lib.Ieee.{nan, inf, fin, Format, binary32, round, neg, add, mul, lt, le}
use lib.Ieee.Scale.{finite}
use Rattle.base.specs.Single.{◌⊕◌, ◌⊗◌, decimal}
use Rattle.base.specs.Number.{negative, abs_of}
use Rattle.base.specs.Elementary.{sin32_of}
use Rattle.base.specs.declared.angle.Radians.{Radians}
use Rattle.base.proofs.order.Order.{nought, Between, trans_le, le_right, not-lt→le, no_nan_finite, finite_between, abs_neg, abs_not_below, abs→le}
use Rattle.base.proofs.order.Monotone.{add_mono, mul_mono, mul_size, square_not_below}
use Rattle.results.proofs.numbers.Sizes.{Sized, sized_number, sized_finite}
use Rattle.maps.specs.declared.magnetic.Une.{Une}
use Rattle.maps.specs.Magnetic.{o, clamped_place, magfin_of}
use Rattle.results.proofs.field.Sines.{Away, full}
use Rattle.results.proofs.field.FieldNotZero.{little, field_not_zero}

-- what is at least a number above zero is above zero
positive_lt : (k x : Float) → T (not (le k nought)) → T (le k x) → T (lt nought x)
positive_lt k x n h = go (lt nought x) refl
  where
    go : (b : Bool) → lt nought x ≡ b → T b
    go true e = tt
    go false e = absurd (T_not (le k nought) n (trans_le k x nought h (not-lt→le nought x (no_nan_finite nought tt) (le_right k x h) e)))

-- a square is that of the size
size_square : (f : Format) (x : Float) → mul f (abs_of x) (abs_of x) ≡ mul f x x
unfolding mul abs_of negative neg
size_square f nan = refl
size_square f (inf true) = refl
size_square f (inf false) = refl
size_square f (fin true m e) = refl
size_square f (fin false m e) = refl

-- 2 ^ -12
abbrev least : Float
least = fin false 1 (negsuc 11)

little_square : little ⊗ little ≡ least
unfolding mul round
little_square = refl

least_more : least ⊕ nought ≡ least
unfolding add round
least_more = refl

square_finite : (a : Float) {x : Float} → T (finite a) → T (finite (a ⊗ a)) → Sized a x → T (finite (x ⊗ x))
square_finite a {x} p q h =
    finite_between nought (x ⊗ x) (a ⊗ a) tt q (square_not_below binary32 x (sized_finite p h)) (abs→le (x ⊗ x) (a ⊗ a) (mul_size binary32 x x a a p p h.size h.size))

-- 2 ^ 40 and 2 ^ 50
abbrev large : Float
large = fin false 1 (pos 40)

abbrev huge : Float
huge = fin false 1 (pos 50)

bounds : T (finite (large ⊗ large)) × T (finite (huge ⊗ huge)) × T (le nought little) × T (not (le little nought)) × T (not (le least nought))
unfolding mul round le
bounds = (tt, tt, tt, tt, tt)

module _ (u : Une) (hn : Sized large u.north) (he : Sized huge u.east) where
  north_square : Away little u.north → T (le least (u.north ⊗ u.north))
  north_square a =
      let n = abs_of u.north in
      let f : T (finite n) = finite_between nought n large tt tt (abs_not_below u.north (sized_number hn)) hn.size in
      let w : T (le (little ⊗ little) (n ⊗ n)) = mul_mono binary32 little n little n f f bounds.2 bounds.2 a a in
      subst (λ (z : Float). T (le least z)) (size_square binary32 u.north) (subst (λ (z : Float). T (le z (n ⊗ n))) little_square w)

  square_least : Away little u.north → T (le least (u.north ⊗ u.north ⊕ u.east ⊗ u.east))
  square_least a =
      let n = u.north ⊗ u.north in
      let e = u.east ⊗ u.east in
      let w : T (le (least ⊕ nought) (n ⊕ e)) =
      add_mono binary32 least n nought e tt (square_finite large tt bounds.0 hn) tt (square_finite huge tt bounds.1 he) (north_square a) (square_not_below binary32 u.east (sized_finite tt he)) in
      subst (λ (z : Float). T (le z (n ⊕ e))) least_more w

  -- a field that does not vanish has a dip
  not_zero_by_zero : Away little u.up ⊎ Away little u.north → T (lt o (abs_of u.up)) ⊎ T (lt o (u.north ⊗ u.north ⊕ u.east ⊗ u.east))
  unfolding o decimal round
  not_zero_by_zero (inl a) = inl (positive_lt little (abs_of u.up) bounds.3 a)
  not_zero_by_zero (inr a) = inr (positive_lt least (u.north ⊗ u.north ⊕ u.east ⊗ u.east) bounds.4 (square_least a))

-- 300 km over a place whose sine of latitude is in [-1, 1], at an east longitude from 0 to a little
-- more than a turn
module _ (lat east_lon : Radians) (c : Between (fin true 1 (pos 0)) (fin false 1 (pos 0)) (sin32_of (clamped_place lat east_lon).p1.0)) (l : Between nought full (clamped_place lat east_lon).p2.0) where
  abbrev une : Une
  une = magfin_of lat east_lon (decimal 3000000 1)

  -- up or north is 1/64 at least in size
  pub une_not_zero : Away little une.up ⊎ Away little une.north
  unfolding magfin_of
  une_not_zero = elim (field_not_zero (sin32_of (clamped_place lat east_lon).p1.0) (clamped_place lat east_lon).p2 c l) [
    | inl a ↦ inl (subst (λ (z : Float). T (le little z)) (sym (abs_neg _)) a)
    | inr a ↦ inr a
  ]

  -- so the dip is not that of zero by zero
  pub dip_defined : Sized (fin false 1 (pos 40)) une.north → Sized (fin false 1 (pos 50)) une.east → T (lt o (abs_of une.up)) ⊎ T (lt o (une.north ⊗ une.north ⊕ une.east ⊗ une.east))
  dip_defined n e = not_zero_by_zero une n e une_not_zero
