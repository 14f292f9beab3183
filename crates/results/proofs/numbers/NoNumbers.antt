-- Document 01, Elementary steps: 'Any NaN gives NaN', of the root and the elementary functions in
-- both formats, and of the four operations with a NaN on either side. Comparisons with a NaN fail,
-- and what is then worked out is a NaN at its first step. Assumes nothing.
use Rattle.std.proofs.Common.{◌≡◌, refl, ap, Float}
use lib.Ieee.{nan, inf, fin, Format, neg, add, sub, mul, div, lt, le, eq, round}
use Rattle.base.specs.Double.{fraction}
use Rattle.base.specs.Number.{negative, abs_of, with_sign, narrow_of, sqrt_of}
use Rattle.base.specs.Elementary.{horner, factorial, up_from, exp_terms, half_angle, atan_series, atan_within, atan_from, sin_of, cos_of, atan_of, acos_of, exp_within, exp_of, ln_of, sin32_of, cos32_of, atan32_of, acos32_of, exp32_of, ln32_of, elementary_functions}
use Rattle.results.specs.ElementarySteps.{NanToNan}

-- ---- the operations: a NaN on the left, and on the right

module _ (f : Format) (x : Float) where
  pub nan_add : add f nan x ≡ nan
  unfolding add
  nan_add = refl

  pub nan_mul : mul f nan x ≡ nan
  unfolding mul
  nan_mul = refl

pub add_nan : (f : Format) (x : Float) → add f x nan ≡ nan
unfolding add
add_nan f nan = refl
add_nan f (inf s) = refl
add_nan f (fin s m e) = refl

pub mul_nan : (f : Format) (x : Float) → mul f x nan ≡ nan
unfolding mul
mul_nan f nan = refl
mul_nan f (inf s) = refl
mul_nan f (fin s m e) = refl

pub div_nan : (f : Format) (x : Float) → div f x nan ≡ nan
unfolding div
div_nan f nan = refl
div_nan f (inf s) = refl
div_nan f (fin s m e) = refl

-- ---- the functions

pub sin_nan : sin_of nan ≡ nan
unfolding sin_of abs_of negative le lt eq
sin_nan = refl

pub cos_nan : cos_of nan ≡ nan
unfolding cos_of abs_of negative le lt eq
cos_nan = refl

pub atan_nan : atan_of nan ≡ nan
unfolding atan_of with_sign atan_from abs_of negative atan_within atan_series half_angle fraction round lt mul div
atan_nan = refl

pub acos_nan : acos_of nan ≡ nan
unfolding acos_of abs_of negative le lt eq
acos_nan = refl

pub exp_nan : exp_of nan ≡ nan
unfolding exp_of exp_within horner exp_terms up_from factorial fraction round neg lt add sub mul
exp_nan = refl

pub ln_nan : ln_of nan ≡ nan
unfolding ln_of
ln_nan = refl

pub root_nan : (f : Format) → sqrt_of f nan ≡ nan
unfolding sqrt_of
root_nan f = refl

-- an f32 call narrows
narrow_nan : (x : Float) → x ≡ nan → narrow_of x ≡ nan
unfolding narrow_of
narrow_nan x e = ap narrow_of e

pub sin32_nan : sin32_of nan ≡ nan
unfolding sin32_of
sin32_nan = narrow_nan _ sin_nan

pub cos32_nan : cos32_of nan ≡ nan
unfolding cos32_of
cos32_nan = narrow_nan _ cos_nan

pub atan32_nan : atan32_of nan ≡ nan
unfolding atan32_of
atan32_nan = narrow_nan _ atan_nan

pub acos32_nan : acos32_of nan ≡ nan
unfolding acos32_of
acos32_nan = narrow_nan _ acos_nan

pub exp32_nan : exp32_of nan ≡ nan
unfolding exp32_of
exp32_nan = narrow_nan _ exp_nan

pub ln32_nan : ln32_of nan ≡ nan
unfolding ln32_of
ln32_nan = narrow_nan _ ln_nan

-- 'Any NaN gives NaN'
pub nan_all : NanToNan elementary_functions
nan_all =
    (sin_nan, (cos_nan, (atan_nan, (acos_nan, (exp_nan, (ln_nan, (root_nan _, (sin32_nan, (cos32_nan, (atan32_nan, (acos32_nan, (exp32_nan, (ln32_nan, (root_nan _, tt))))))))))))))
