-- Numbers of binary32 that are at most so large: one rule for each operation, whose test of the
-- bounds a computation passes. Assumes nothing.
use Rattle.std.proofs.Common.{not, [], ◌∷◌, T, Float}
use lib.Ieee.{binary32, neg, le, is_nan}
use lib.Ieee.Scale.{finite}
use lib.Ieee.Fits.{and_i, and_l, and_r}
use Rattle.base.specs.Single.{◌⊕◌, ◌⊖◌, ◌⊗◌}
use Rattle.base.specs.Number.{abs_of}
use Rattle.base.specs.Ranges.{is_to}
use Rattle.base.proofs.order.Order.{Between, trans_le, le→abs, abs_no_nan}
use Rattle.base.proofs.order.Monotone.{add_size, sub_size, mul_size, abs_finite}
use Rattle.base.proofs.order.Intervals.{every, all}

-- x is at most a in size
pub record Sized (a x : Float) : Type 0 where
  pub size : T (le (abs_of x) a)

module _ {a b x y : Float} (c : Float) where
  pub plus_sized : T (every (finite a ∷ finite b ∷ le (a ⊕ b) c ∷ [])) → Sized a x → Sized b y → Sized c (x ⊕ y)
  plus_sized t h k = let w = all (finite a ∷ finite b ∷ le (a ⊕ b) c ∷ []) t in record { size = trans_le (abs_of (x ⊕ y)) (a ⊕ b) c (add_size binary32 x y a b w.0 w.1.0 h.size k.size) w.1.1.0 }

  pub less_sized : T (every (finite a ∷ finite b ∷ le (a ⊕ b) c ∷ [])) → Sized a x → Sized b y → Sized c (x ⊖ y)
  less_sized t h k = let w = all (finite a ∷ finite b ∷ le (a ⊕ b) c ∷ []) t in record { size = trans_le (abs_of (x ⊖ y)) (a ⊕ b) c (sub_size binary32 x y a b w.0 w.1.0 h.size k.size) w.1.1.0 }

  pub times_sized : T (every (finite a ∷ finite b ∷ le (a ⊗ b) c ∷ [])) → Sized a x → Sized b y → Sized c (x ⊗ y)
  times_sized t h k = let w = all (finite a ∷ finite b ∷ le (a ⊗ b) c ∷ []) t in record { size = trans_le (abs_of (x ⊗ y)) (a ⊗ b) c (mul_size binary32 x y a b w.0 w.1.0 h.size k.size) w.1.1.0 }

pub between_sized : {lo hi x : Float} (a : Float) → T (every (le (neg a) lo ∷ le hi a ∷ [])) → Between lo hi x → Sized a x
between_sized {lo} {hi} {x} a t b = let w = all (le (neg a) lo ∷ le hi a ∷ []) t in record { size = le→abs x a (trans_le (neg a) lo x w.0 b.low) (trans_le x hi a b.high w.1.0) }

-- the same range as a test
pub range_between : (lo hi x : Float) → T (is_to lo hi x) → Between lo hi x
range_between lo hi x t = record { low = and_l (le lo x) (le x hi) t; high = and_r (le lo x) (le x hi) t }

pub between_range : {lo hi x : Float} → Between lo hi x → T (is_to lo hi x)
between_range {lo} {hi} {x} b = and_i (le lo x) (le x hi) b.low b.high

pub larger : {a x : Float} (c : Float) → T (le a c) → Sized a x → Sized c x
larger {a} {x} c t h = record { size = trans_le (abs_of x) a c h.size t }

-- a number with a bound is a number
pub sized_number : {a x : Float} → Sized a x → T (not (is_nan x))
sized_number {a} {x} h = abs_no_nan x a h.size

-- and finite, if its bound is
pub sized_finite : {a x : Float} → T (finite a) → Sized a x → T (finite x)
sized_finite {a} {x} p h = abs_finite x a p h.size
