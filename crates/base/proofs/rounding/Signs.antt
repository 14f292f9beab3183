-- The sign of a float, and std's sign and tests of a float. Assumes nothing.
use Rattle.std.proofs.Common.{◌≡◌, Bool, true, false, sym, refl, ap, ◌∙◌, Float}
use lib.Ieee.{nan, inf, fin, ne, is_nan}
use lib.Ieee.Bits.{is_false}
use Rattle.base.specs.Number.{negative}
use Rattle.std.specs.Float.{is_sign_negative, float_is_finite}
use Rattle.std.specs.Float.Ieee.Scale.{finite}
use Rattle.base.proofs.rounding.Patterns.{is_nan_law, no_nan}

pub nan_sign : (x : Float) → x ≡ nan → false ≡ negative x
unfolding negative
nan_sign x e = ap negative (sym e)

-- ---- std's sign of a float, and whether it is finite
pub negative_is : (x : Float) → is_sign_negative x ≡ negative x
unfolding is_sign_negative negative
negative_is nan = refl
negative_is (inf s) = refl
negative_is (fin s m e) = refl

pub finite_is : (x : Float) → float_is_finite x ≡ finite x
unfolding float_is_finite
finite_is nan = refl
finite_is (inf s) = refl
finite_is (fin s m e) = refl

-- the test `x != x` is that of a NaN
pub nan_test : (x : Float) → is_nan x ≡ ne x x
unfolding is_nan
nan_test x = go (ne x x) refl
  where
    go : (b : Bool) → ne x x ≡ b → is_nan x ≡ b
    go true e = ap is_nan (is_nan_law x e)
    go false e = is_false (is_nan x) (no_nan x e)

-- what std's test tells, as `x != x` tells it
pub by_test : (x : Float) {b c : Bool} → b ≡ is_nan x → b ≡ c → ne x x ≡ c
by_test x e t = sym (nan_test x) ∙ sym e ∙ t
