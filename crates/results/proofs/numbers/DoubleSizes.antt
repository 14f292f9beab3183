-- `Sized` for what `Sizes` leaves out: sums and products in binary64, narrowing, and quotients.
-- Assumes nothing.
use Rattle.std.proofs.Common.{sym, subst, Bool, true, false, cond, [], ◌∷◌, T, Float}
use lib.Ieee.{binary32, binary64, neg, add, mul, le}
use lib.Ieee.Scale.{finite}
use lib.Ieee.Positive.{positive}
use Rattle.base.specs.Single.{◌⊘◌}
use Rattle.base.specs.Number.{abs_of, narrow_of}
use Rattle.base.proofs.order.Order.{trans_le, abs_neg}
use Rattle.base.proofs.order.Monotone.{add_size, mul_size, div_size, narrow_size}
use Rattle.base.proofs.order.Intervals.{every, all}
use Rattle.results.proofs.numbers.Sizes.{Sized}

module _ {a b x y : Float} (c : Float) where
  pub plus64_sized : T (every (finite a ∷ finite b ∷ le (add binary64 a b) c ∷ [])) → Sized a x → Sized b y → Sized c (add binary64 x y)
  plus64_sized t h k = let w = all (finite a ∷ finite b ∷ le (add binary64 a b) c ∷ []) t in record { size = trans_le (abs_of (add binary64 x y)) (add binary64 a b) c (add_size binary64 x y a b w.0 w.1.0 h.size k.size) w.1.1.0 }

  pub times64_sized : T (every (finite a ∷ finite b ∷ le (mul binary64 a b) c ∷ [])) → Sized a x → Sized b y → Sized c (mul binary64 x y)
  times64_sized t h k = let w = all (finite a ∷ finite b ∷ le (mul binary64 a b) c ∷ []) t in record { size = trans_le (abs_of (mul binary64 x y)) (mul binary64 a b) c (mul_size binary64 x y a b w.0 w.1.0 h.size k.size) w.1.1.0 }

-- by a y that is at least b in size
pub over_sized : {a x : Float} (c b y : Float) → T (every (finite a ∷ positive b ∷ le (a ⊘ b) c ∷ [])) → Sized a x → T (le b (abs_of y)) → Sized c (x ⊘ y)
over_sized {a} {x} c b y t h k = let w = all (finite a ∷ positive b ∷ le (a ⊘ b) c ∷ []) t in record { size = trans_le (abs_of (x ⊘ y)) (a ⊘ b) c (div_size binary32 x y a b w.0 w.1.0 h.size k) w.1.1.0 }

pub narrowed_sized : {a x : Float} (c : Float) → T (le (narrow_of a) c) → Sized a x → Sized c (narrow_of x)
narrowed_sized {a} {x} c t h = record { size = trans_le (abs_of (narrow_of x)) (narrow_of a) c (narrow_size x a h.size) t }

pub turned_sized : {a x : Float} → Sized a x → Sized a (neg x)
turned_sized {a} {x} h = record { size = subst (λ (z : Float). T (le z a)) (sym (abs_neg x)) h.size }

pub either_sized : {a x y : Float} (b : Bool) → Sized a x → Sized a y → Sized a (cond b x y)
either_sized true h k = h
either_sized false h k = k
